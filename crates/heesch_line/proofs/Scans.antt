-- A line of a list, byte by byte.
use Rattle.std.proofs.Common.{◌≡◌, ◌≢◌, ◌⊎◌, inl, inr, Some, None, eqb, ℕ, zero, suc, ◌<◌, ◌≤◌, true, false, List, [], ◌∷◌, ◌++◌, length, take, get_or, refl, sym, ap, subst, ◌∙◌, arith, append_assoc, ℤ, pos, negsuc}
use Rattle.std.specs.Prelude.{codes, decimal}
use Rattle.std.specs.Fmt.{signed_decimal}
use Rattle.std.specs.Int.{IsInRange}
use Rattle.std.proofs.lemmas.Fmt.{length-decimal-le}
use Rattle.std.proofs.lemmas.Int.{ints}
use Rattle.std.proofs.lemmas.Bool.{true≢false}
use Rattle.std.proofs.lemmas.Bool.Decides.{nat_tests}
use Rattle.std.proofs.lemmas.List.{append-nil, length-append}
use Rattle.std.proofs.lemmas.List.Concat.{flat_map-append}
use Rattle.heesch_grid.specs.declared.Cell.{Cell}
use Rattle.heesch_grid.specs.Vectors.{IsWithin}
use Rattle.heesch_text.specs.Fields.{spaced, cell_text, cells_text}
use Rattle.heesch_text.specs.Naturals.{IsNatural}
use Rattle.heesch_line.specs.Forms.{IsInteger}
use Rattle.heesch_line.specs.Lists.{AreCells}
use Rattle.heesch_line.specs.Reading.{cell_at}
use Rattle.heesch_line.specs.Scanning.{Scanned, first_of, ended_words, HasNoSpace, HasCells, BeginsNoLine, Keeps, IsScanned, IsLineOf, IsNoLine}
use Rattle.heesch_line.proofs.Numbers.{decimal_digits, cell_read, cell_again}
use Rattle.heesch_line.proofs.Steps.{some_is, none_some}

-- ---- a cell's text has no space, and few bytes

digits_no_space : (ds : List ℕ) → ((i : ℕ) → i < length ds → IsInRange 48 57 (get_or ds i 0)) → HasNoSpace ds
digits_no_space [] digits = tt
digits_no_space (d ∷ ds) digits =
    let range = digits 0 (omega arith) in
    (λ e. absurd (omega arith), digits_no_space ds (λ i lt. digits (suc i) (omega arith)))

both_no_space : (xs ys : List ℕ) → HasNoSpace xs → HasNoSpace ys → HasNoSpace (xs ++ ys)
both_no_space [] ys h k = k
both_no_space (x ∷ xs) ys h k = (h.0, both_no_space xs ys h.1 k)

signed_no_space : (z : ℤ) → IsInteger z → HasNoSpace (signed_decimal z)
signed_no_space (pos n) fits =
    let natural : IsNatural n = omega (arith, ints) in
    digits_no_space (decimal n) (decimal_digits n natural)
signed_no_space (negsuc n) fits =
    let natural : IsNatural (suc n) = omega (arith, ints) in
    (λ e. absurd (omega arith), digits_no_space (decimal (suc n)) (decimal_digits (suc n) natural))

cell_no_space : (c : Cell) → IsWithin 100000 c → HasNoSpace (cell_text c)
cell_no_space c fits =
    both_no_space (signed_decimal c.a ++ codes ",") (signed_decimal c.b)
    (both_no_space (signed_decimal c.a) (codes ",") (signed_no_space c.a (fits.a_low, fits.a_high)) (λ e. absurd (omega arith), tt))
    (signed_no_space c.b (fits.b_low, fits.b_high))

signed_short : (z : ℤ) → IsInteger z → length (signed_decimal z) ≤ 11
signed_short (pos n) fits =
    let natural : IsNatural n = omega (arith, ints) in
    let short = length-decimal-le 10 n (omega arith) (omega arith) (omega arith) in
    omega arith
signed_short (negsuc n) fits =
    let natural : IsNatural (suc n) = omega (arith, ints) in
    let short = length-decimal-le 10 (suc n) (omega arith) (omega arith) (omega arith) in
    omega arith

cell_short : (c : Cell) → IsWithin 100000 c → length (cell_text c) ≤ 23
cell_short c fits =
    let first = signed_short c.a (fits.a_low, fits.a_high) in
    let second = signed_short c.b (fits.b_low, fits.b_high) in
    let whole = length-append (signed_decimal c.a ++ codes ",") (signed_decimal c.b) in
    let front = length-append (signed_decimal c.a) (codes ",") in
    omega arith

-- ---- words and what stands behind them

-- nothing, or a space
abbrev AtSpace : List ℕ → Type 0
AtSpace rest = (rest ≡ []) ⊎ ((more : List ℕ) × (rest ≡ 32 ∷ more))

spaced_at : (cells : List Cell) → AtSpace (spaced cell_text cells)
spaced_at [] = inl refl
spaced_at (c ∷ cells) = inr (cell_text c ++ spaced cell_text cells, refl)

none_front : (x : ℕ) (xs rest : List ℕ) → AtSpace rest → x ≢ 32 → x ∷ xs ≡ rest → ⊥
none_front x xs rest (inl none) other e = let both = e ∙ none in cc
none_front x xs rest (inr some) other e = let both = e ∙ some.1 in other cc

-- what has no space and begins a text is no longer than its first word
fits_word : (a b r s : List ℕ) → HasNoSpace a → AtSpace s → a ++ r ≡ b ++ s → length a ≤ length b
fits_word [] b r s h at e = omega arith
fits_word (x ∷ a) [] r s h at e = absurd (none_front x (a ++ r) s at h.0 e)
fits_word (x ∷ a) (y ∷ b) r s h at e =
    let tails : a ++ r ≡ b ++ s = cc in
    let less = fits_word a b r s h.1 at tails in
    omega arith

-- the first words of a text are the same
same_word : (a b r s : List ℕ) → HasNoSpace a → HasNoSpace b → AtSpace r → AtSpace s → a ++ r ≡ b ++ s → (a ≡ b) × (r ≡ s)
same_word [] [] r s h k at to e = (refl, e)
same_word [] (y ∷ b) r s h k at to e = absurd (none_front y (b ++ s) r at k.0 (sym e))
same_word (x ∷ a) [] r s h k at to e = absurd (none_front x (a ++ r) s to h.0 e)
same_word (x ∷ a) (y ∷ b) r s h k at to e =
    let heads : x ≡ y = cc in
    let tails : a ++ r ≡ b ++ s = cc in
    let others = same_word a b r s h.1 k.1 at to tails in
    let same = others.0 in
    (cc, others.1)

-- ---- cells at the front of a line

-- what stands behind cells in a line is the text of others, of some where there is a cell at all
record Behind (all cells : List Cell) (rest : List ℕ) : Type 0 where
  others : List Cell
  are : AreCells others
  text : rest ≡ cells_text others
  some : (all ≢ []) ⊎ (cells ≢ []) → others ≢ []

regroup : (c : Cell) (all : List Cell) (rest : List ℕ) → ended_words (c ∷ all) ++ rest ≡ cell_text c ++ 32 ∷ (ended_words all ++ rest)
regroup c all rest = append_assoc (cell_text c ++ codes " ") (ended_words all) rest ∙ append_assoc (cell_text c) (codes " ") (ended_words all ++ rest)

behind : (all cells : List Cell) (rest : List ℕ) → AreCells all → AreCells cells → ended_words all ++ rest ≡ cells_text cells → Behind all cells rest
behind [] cells rest fits fit e = record { others = cells; are = fit; text = e; some = λ h. elim h [ inl bad ↦ absurd (bad refl) | inr some ↦ some ] }
behind (c ∷ all) [] rest fits fit e =
    let long = length-append (cell_text c) (32 ∷ (ended_words all ++ rest)) in
    let none : length (cell_text c ++ 32 ∷ (ended_words all ++ rest)) ≡ 0 = ap length (sym (regroup c all rest) ∙ e) in
    absurd (omega arith)
behind (c ∷ all) (d ∷ []) rest fits fit e =
    let words = same_word (cell_text c) (cell_text d) (32 ∷ (ended_words all ++ rest)) [] (cell_no_space c fits.0) (cell_no_space d fit.0) (inr (ended_words all ++ rest, refl)) (inl refl) (sym (regroup c all rest) ∙ e) in
    let bad = words.1 in
    absurd cc
behind (c ∷ all) (d ∷ f ∷ cells) rest fits fit e =
    let words = same_word (cell_text c) (cell_text d) (32 ∷ (ended_words all ++ rest)) (spaced cell_text (f ∷ cells)) (cell_no_space c fits.0) (cell_no_space d fit.0) (inr (ended_words all ++ rest, refl)) (spaced_at (f ∷ cells)) (sym (regroup c all rest) ∙ e) in
    let both : 32 ∷ (ended_words all ++ rest) ≡ 32 ∷ cells_text (f ∷ cells) = words.1 in
    let tails : ended_words all ++ rest ≡ cells_text (f ∷ cells) = cc in
    let more = behind all (f ∷ cells) rest fits.1 fit.1 tails in
    record { others = more.others; are = more.are; text = more.text; some = λ h. more.some (inr (λ none. cc)) }

-- a word that is no cell, where cells stand before it or a byte is behind it
bad_word : (all cells : List Cell) (word rest : List ℕ) → AreCells all → AreCells cells → HasNoSpace word → ((c : Cell) → IsWithin 100000 c → word ≢ cell_text c) → AtSpace rest
    → (all ≢ []) ⊎ (word ++ rest ≢ []) → ended_words all ++ (word ++ rest) ≢ cells_text cells
bad_word all cells word rest fits fit one none at some e = last (behind all cells (word ++ rest) fits fit e) some
  where
    last : Behind all cells (word ++ rest) → (all ≢ []) ⊎ (word ++ rest ≢ []) → ⊥
    last b some = by b.others b.are b.text b.some some
      where
        by : (others : List Cell) → AreCells others → word ++ rest ≡ cells_text others → ((all ≢ []) ⊎ (cells ≢ []) → others ≢ []) → (all ≢ []) ⊎ (word ++ rest ≢ []) → ⊥
        by [] are text nonempty (inl some) = nonempty (inl some) refl
        by [] are text nonempty (inr some) = some text
        by (d ∷ others) are text nonempty some = none d are.0 (same_word word (cell_text d) rest (spaced cell_text others) one (cell_no_space d are.0) at (spaced_at others) text).0

-- a word that is longer than a cell's text
long_word : (all cells : List Cell) (word rest : List ℕ) → AreCells all → AreCells cells → HasNoSpace word → 23 < length word → ended_words all ++ (word ++ rest) ≢ cells_text cells
long_word all cells word rest fits fit one long e =
    let b = behind all cells (word ++ rest) fits fit e in by b.others b.are b.text
  where
    by : (others : List Cell) → AreCells others → word ++ rest ≡ cells_text others → ⊥
    by [] are text =
        let whole = length-append word rest in
        let none : length (word ++ rest) ≡ 0 = ap length text in
        absurd (omega arith)
    by (d ∷ others) are text =
        let short = cell_short d are.0 in
        let less = fits_word word (cell_text d) rest (spaced cell_text others) one (spaced_at others) text in
        absurd (omega arith)

-- ---- the text of cells, the last of which isn't ended

spaced_last : (all : List Cell) (c : Cell) → spaced cell_text (all ++ c ∷ []) ≡ 32 ∷ (ended_words all ++ cell_text c)
spaced_last [] c = ap (λ (t : List ℕ). 32 ∷ t) (append-nil (cell_text c))
spaced_last (d ∷ all) c =
    ap (λ (t : List ℕ). 32 ∷ (cell_text d ++ t)) (spaced_last all c) ∙ ap (λ (t : List ℕ). 32 ∷ t) (sym (regroup d all (cell_text c)))

cells_last : (all : List Cell) (c : Cell) → ended_words all ++ cell_text c ≡ cells_text (all ++ c ∷ [])
cells_last [] c = sym (append-nil (cell_text c))
cells_last (d ∷ all) c = regroup d all (cell_text c) ∙ ap (λ (t : List ℕ). cell_text d ++ t) (sym (spaced_last all c))

ended_more : (all : List Cell) (c : Cell) → ended_words (all ++ c ∷ []) ≡ ended_words all ++ (cell_text c ++ codes " ")
ended_more all c = flat_map-append (λ (d : Cell). cell_text d ++ codes " ") all (c ∷ []) ∙ ap (λ (t : List ℕ). ended_words all ++ t) (append-nil (cell_text c ++ codes " "))

are_more : (all : List Cell) (c : Cell) → AreCells all → IsWithin 100000 c → AreCells (all ++ c ∷ [])
are_more [] c fits fit = (fit, tt)
are_more (d ∷ all) c fits fit = (fits.0, are_more all c fits.1 fit)

-- ---- the first cells

take_more_cells : (n : ℕ) (all : List Cell) (c : Cell) → length (take n all) < n → take n (all ++ c ∷ []) ≡ take n all ++ c ∷ []
take_more_cells zero all c less = absurd (omega arith)
take_more_cells (suc zero) [] c less = refl
take_more_cells (suc (suc n)) [] c less = refl
take_more_cells (suc n) (d ∷ all) c less = ap (λ (t : List Cell). d ∷ t) (take_more_cells n all c (omega arith))

take_same_cells : (n : ℕ) (all : List Cell) (c : Cell) → n ≤ length (take n all) → take n (all ++ c ∷ []) ≡ take n all
take_same_cells zero all c full = refl
take_same_cells (suc n) [] c full = absurd (omega arith)
take_same_cells (suc n) (d ∷ all) c full = ap (λ (t : List Cell). d ∷ t) (take_same_cells n all c (omega arith))

pub kept_more : (first all : List Cell) (c : Cell) → first ≡ first_of all → length first < 33 → first ++ c ∷ [] ≡ first_of (all ++ c ∷ [])
kept_more first all c is less =
    let low : length (take 33 all) < 33 = subst (λ (t : List Cell). length t < 33) is less in
    ap (λ (t : List Cell). t ++ c ∷ []) is ∙ sym (take_more_cells 33 all c low)

pub kept_same : (first all : List Cell) (c : Cell) → first ≡ first_of all → 33 ≤ length first → first ≡ first_of (all ++ c ∷ [])
kept_same first all c is full =
    let high : 33 ≤ length (take 33 all) = subst (λ (t : List Cell). 33 ≤ length t) is full in
    is ∙ sym (take_same_cells 33 all c high)

-- ---- one more byte

pub nothing_read : HasCells [] [] []
nothing_read = record { all = []; are = tt; text = refl; first_are = refl; one_word = tt; short = omega arith }

-- a line that begins none goes on so
pub still_none : (line : List ℕ) (byte : ℕ) → BeginsNoLine line → BeginsNoLine (line ++ byte ∷ [])
still_none line byte none rest cells are e = none (byte ∷ rest) cells are (sym (append_assoc line (byte ∷ []) rest) ∙ e)

-- one more byte of the word
pub word_grows : (line : List ℕ) (first : List Cell) (word : List ℕ) (byte : ℕ) → HasCells line first word → byte ≢ 32 → length word < 23 → HasCells (line ++ byte ∷ []) first (word ++ byte ∷ [])
word_grows line first word byte h other less =
    let long = length-append word (byte ∷ []) in
    record {
      all = h.all;
      are = h.are;
      text = ap (λ (t : List ℕ). t ++ byte ∷ []) h.text ∙ append_assoc (ended_words h.all) word (byte ∷ []);
      first_are = h.first_are;
      one_word = both_no_space word (byte ∷ []) h.one_word (other, tt);
      short = omega arith;
    }

-- a word that is too long
pub word_too_long : (line : List ℕ) (first : List Cell) (word : List ℕ) (byte : ℕ) → HasCells line first word → byte ≢ 32 → 23 ≤ length word → BeginsNoLine (line ++ byte ∷ [])
word_too_long line first word byte h other full rest cells are e =
    let long = length-append word (byte ∷ []) in
    let parted : line ++ (byte ∷ rest) ≡ ended_words h.all ++ (word ++ byte ∷ rest) = ap (λ (t : List ℕ). t ++ byte ∷ rest) h.text ∙ append_assoc (ended_words h.all) word (byte ∷ rest) in
    let grouped : ended_words h.all ++ ((word ++ byte ∷ []) ++ rest) ≡ ended_words h.all ++ (word ++ byte ∷ rest) = ap (λ (t : List ℕ). ended_words h.all ++ t) (append_assoc word (byte ∷ []) rest) in
    long_word h.all cells (word ++ byte ∷ []) rest h.are are (both_no_space word (byte ∷ []) h.one_word (other, tt)) (omega arith)
    (grouped ∙ sym parted ∙ sym (append_assoc line (byte ∷ []) rest) ∙ e)

-- a space behind a cell
pub word_ends : (line : List ℕ) (first more : List Cell) (word : List ℕ) (c : Cell) → (h : HasCells line first word) → IsWithin 100000 c → word ≡ cell_text c → more ≡ first_of (h.all ++ c ∷ []) → HasCells (line ++ 32 ∷ []) more []
word_ends line first more word c h fit is kept = record {
  all = h.all ++ c ∷ [];
  are = are_more h.all c h.are fit;
  text = ap (λ (t : List ℕ). t ++ 32 ∷ []) (h.text ∙ ap (λ (t : List ℕ). ended_words h.all ++ t) is) ∙ append_assoc (ended_words h.all) (cell_text c) (32 ∷ []) ∙ sym (ended_more h.all c) ∙ sym (append-nil (ended_words (h.all ++ c ∷ [])));
  first_are = kept;
  one_word = tt;
  short = omega arith;
}

-- a space behind what is no cell
pub word_is_none : (line : List ℕ) (first : List Cell) (word : List ℕ) → HasCells line first word → ((c : Cell) → IsWithin 100000 c → word ≢ cell_text c) → BeginsNoLine (line ++ 32 ∷ [])
word_is_none line first word h none rest cells are e =
    let parted : line ++ (32 ∷ rest) ≡ ended_words h.all ++ (word ++ 32 ∷ rest) = ap (λ (t : List ℕ). t ++ 32 ∷ rest) h.text ∙ append_assoc (ended_words h.all) word (32 ∷ rest) in
    bad_word h.all cells word (32 ∷ rest) h.are are h.one_word none (inr (rest, refl)) (inr (some word)) (sym parted ∙ sym (append_assoc line (32 ∷ []) rest) ∙ e)
  where
    some : (word : List ℕ) → word ++ 32 ∷ rest ≢ []
    some [] e = cc
    some (b ∷ word) e = cc

-- ---- the end of a line

-- a line of no byte
pub empty_line : (line : List ℕ) (first : List Cell) (word : List ℕ) → HasCells line first word → line ≡ [] → IsLineOf line first
empty_line line first word h none = by h.all h.text h.first_are
  where
    by : (all : List Cell) → line ≡ ended_words all ++ word → first ≡ first_of all → IsLineOf line first
    by [] text is = record { all = []; are = tt; text = none; first_are = is }
    by (c ∷ all) text is =
        let long = length-append (cell_text c) (32 ∷ (ended_words all ++ word)) in
        let zero_is : length (cell_text c ++ 32 ∷ (ended_words all ++ word)) ≡ 0 = ap length (sym (regroup c all word) ∙ sym text ∙ none) in
        absurd (omega arith)

-- a line whose last word is a cell
pub line_ends : (line : List ℕ) (first more : List Cell) (word : List ℕ) (c : Cell) → (h : HasCells line first word) → IsWithin 100000 c → word ≡ cell_text c → more ≡ first_of (h.all ++ c ∷ []) → IsLineOf line more
line_ends line first more word c h fit is kept = record {
  all = h.all ++ c ∷ [];
  are = are_more h.all c h.are fit;
  text = h.text ∙ ap (λ (t : List ℕ). ended_words h.all ++ t) is ∙ cells_last h.all c;
  first_are = kept;
}

-- a line whose last word is no cell
pub line_is_none : (line : List ℕ) (first : List Cell) (word : List ℕ) → HasCells line first word → line ≢ [] → ((c : Cell) → IsWithin 100000 c → word ≢ cell_text c) → IsNoLine line
line_is_none line first word h begun none cells are e =
    bad_word h.all cells word [] h.are are h.one_word none (inl refl) (some h.all h.text)
    (ap (λ (t : List ℕ). ended_words h.all ++ t) (append-nil word) ∙ sym h.text ∙ e)
  where
    some : (all : List Cell) → line ≡ ended_words all ++ word → (all ≢ []) ⊎ (word ++ [] ≢ [])
    some [] text = inr (λ empty. begun (text ∙ sym (append-nil word) ∙ empty))
    some (c ∷ all) text = inl (λ empty. cc)

-- a line that begins none is none
pub none_at_all : (line : List ℕ) → BeginsNoLine line → IsNoLine line
none_at_all line none cells are e = none [] cells are (append-nil line ∙ e)

-- what begins no line has a byte
pub none_begun : (line : List ℕ) → BeginsNoLine line → line ≢ []
none_begun line none empty = none [] [] tt (append-nil line ∙ empty)

-- a line has a byte exactly where it has a cell that is ended, or a word
pub begun : (line : List ℕ) (first : List Cell) (word : List ℕ) → HasCells line first word → (first ≢ []) ⊎ (word ≢ []) → line ≢ []
begun line first word h some empty = by h.all h.text h.first_are some
  where
    by : (all : List Cell) → line ≡ ended_words all ++ word → first ≡ first_of all → (first ≢ []) ⊎ (word ≢ []) → ⊥
    by [] text is (inl some) = some is
    by [] text is (inr some) = some (sym text ∙ empty)
    by (c ∷ all) text is some =
        let long = length-append (cell_text c) (32 ∷ (ended_words all ++ word)) in
        let zero_is : length (cell_text c ++ 32 ∷ (ended_words all ++ word)) ≡ 0 = ap length (sym (regroup c all word) ∙ sym text ∙ empty) in
        absurd (omega arith)

pub not_begun : (line : List ℕ) (first : List Cell) (word : List ℕ) → HasCells line first word → first ≡ [] → word ≡ [] → line ≡ []
not_begun line first word h none empty = by h.all h.text h.first_are
  where
    by : (all : List Cell) → line ≡ ended_words all ++ word → first ≡ first_of all → line ≡ []
    by [] text is = text ∙ empty
    by (c ∷ all) text is = let bad = sym none ∙ is in absurd cc

-- ---- a whole cell

abbrev Found : Type 0
Found = Cell × List ℕ

cell_of_text : (bytes : List ℕ) (d : Cell) → IsWithin 100000 d → bytes ≡ cell_text d → cell_at bytes ≡ Some (d, [])
cell_of_text bytes d fits is = ap cell_at (is ∙ sym (append-nil (cell_text d))) ∙ cell_again d [] fits refl

no_byte : (rest : List ℕ) → true ≡ eqb (length rest) 0 → rest ≡ []
no_byte [] e = refl
no_byte (b ∷ rest) e =
    let some : eqb (suc (length rest)) 0 ≡ false = grind (arith, nat_tests) in
    absurd (true≢false (e ∙ some))

pub cell_is_whole : (bytes : List ℕ) (c : Cell) (rest : List ℕ) → cell_at bytes ≡ Some (c, rest) → true ≡ eqb (length rest) 0 → IsWithin 100000 c × (bytes ≡ cell_text c)
cell_is_whole bytes c rest e empty =
    let read = cell_read bytes (c, rest) e in
    (read.fits, read.takes.parts ∙ ap (λ (t : List ℕ). cell_text c ++ t) (no_byte rest empty) ∙ append-nil (cell_text c))

pub cell_goes_on : (bytes : List ℕ) (c : Cell) (rest : List ℕ) → cell_at bytes ≡ Some (c, rest) → false ≡ eqb (length rest) 0 → (d : Cell) → IsWithin 100000 d → bytes ≢ cell_text d
cell_goes_on bytes c rest e some d fits is =
    let same : (c, rest) ≡ (d, []) = some_is {A = Found} (c, rest) (d, []) (sym e ∙ cell_of_text bytes d fits is) in
    let none : rest ≡ [] = ap (λ (x : Found). x.1) same in
    let bad : false ≡ true = some ∙ ap (λ (t : List ℕ). eqb (length t) 0) none in
    absurd cc

pub no_cell : (bytes : List ℕ) → cell_at bytes ≡ None → (d : Cell) → IsWithin 100000 d → bytes ≢ cell_text d
no_cell bytes e d fits is = none_some {A = Found} (d, []) (sym e ∙ cell_of_text bytes d fits is)

-- ---- what is kept

pub scanned_none : (line : List ℕ) (s : Scanned) → s.faulty ≡ true → IsScanned line s → BeginsNoLine line
scanned_none line s e h = subst (Keeps line s.cells s.word) e h

pub scanned_cells : (line : List ℕ) (s : Scanned) → s.faulty ≡ false → IsScanned line s → HasCells line s.cells s.word
scanned_cells line s e h = subst (Keeps line s.cells s.word) e h

pub none_scanned : (line : List ℕ) (s : Scanned) → s.faulty ≡ true → BeginsNoLine line → IsScanned line s
none_scanned line s e h = subst (Keeps line s.cells s.word) (sym e) h

pub cells_scanned : (line : List ℕ) (s : Scanned) → s.faulty ≡ false → HasCells line s.cells s.word → IsScanned line s
cells_scanned line s e h = subst (Keeps line s.cells s.word) (sym e) h

pub not_some : (line : List ℕ) → ((line ≢ []) → ⊥) → line ≡ []
not_some [] h = refl
not_some (b ∷ line) h = absurd (h (λ e. cc))
