-- Lists of words: what is read is spelled so, and what is spelled so is read.
use Rattle.std.proofs.Common.{◌≡◌, ◌≢◌, ℕ, zero, suc, ◌<◌, ◌≤◌, Bool, true, false, cond, eqb, ltb, List, [], ◌∷◌, ◌++◌, length, get_or, drop, Option, Some, refl, ap, subst, append_assoc, arith, ℤ, pos, negsuc}
use Rattle.std.specs.Prelude.{codes, decimal}
use Rattle.std.specs.Fmt.{signed_decimal}
use Rattle.std.specs.List.{AllByRecursion}
use Rattle.std.proofs.lemmas.Bool.{eqb-true}
use Rattle.std.proofs.lemmas.Bool.Decides.{nat_tests}
use Rattle.std.proofs.lemmas.Int.{ints}
use Rattle.std.proofs.lemmas.List.{length-append}
use Rattle.heesch_grid.specs.declared.Cell.{Cell}
use Rattle.heesch_grid.specs.declared.isometries.Iso.{Iso}
use Rattle.heesch_grid.specs.Vectors.{IsWithin}
use Rattle.heesch_cnf.specs.declared.literal.Lit.{Lit}
use Rattle.heesch_text.specs.Fields.{spaced, cell_text, cells_text, place_text, lit_text}
use Rattle.heesch_text.specs.Naturals.{IsNatural}
use Rattle.heesch_line.specs.Forms.{IsInteger, IsPlace, IsLiteral, AreSome}
use Rattle.heesch_line.specs.Reading.{◌>>=◌, given, number_at, cell_at, iso_at, lit_at, has_word, words_at, more_words_at, some_words_at, cells_at}
use Rattle.heesch_line.proofs.Steps.{some, some_is, bind_some, given_some, both_true, Takes, ◌▸◌, IsRead, is_read}
use Rattle.heesch_line.proofs.Numbers.{number_read, number_again, lit_read, lit_again, cell_read, cell_again, Stops, BeginsWithDigit, decimal_begins}
use Rattle.heesch_line.proofs.FieldLaws.{iso_read, iso_again, iso_words}

-- no further word follows
abbrev pub Ends : List ℕ → Type 0
Ends bytes = has_word bytes ≡ false

space_first : (bytes : List ℕ) → has_word bytes ≡ true → bytes ≡ 32 ∷ drop 1 bytes
space_first [] h = absurd cc
space_first (b ∷ bytes) h = ap (λ (c : ℕ). c ∷ bytes) (eqb-true b 32 (both_true (eqb b 32) _ h).0)

not_empty : {X : Type 0} (xs : List X) → ltb 0 (length xs) ≡ true → xs ≢ []
not_empty [] h e = absurd cc
not_empty (x ∷ xs) h e = cc

some_test : {X : Type 0} (xs : List X) → xs ≢ [] → ltb 0 (length xs) ≡ true
some_test [] h = absurd (h refl)
some_test (x ∷ xs) h = let long : 0 < suc (length xs) = omega arith in grind (arith, nat_tests)

pub stops_spaced : {X : Type 0} (text : X → List ℕ) (xs : List X) (rest : List ℕ) → Stops rest → Stops (spaced text xs ++ rest)
stops_spaced text [] rest h = h
stops_spaced text (x ∷ xs) rest h = refl

length_spaced : {X : Type 0} (text : X → List ℕ) (xs : List X) (rest : List ℕ) → length xs ≤ length (spaced text xs ++ rest)
length_spaced text [] rest = omega arith
length_spaced text (x ∷ xs) rest =
    let more = length_spaced text xs rest in
    let regroup : spaced text (x ∷ xs) ++ rest ≡ 32 ∷ (text x ++ (spaced text xs ++ rest)) = ap (λ (t : List ℕ). 32 ∷ t) (append_assoc (text x) (spaced text xs) rest) in
    omega (arith, ap length regroup, length-append (text x) (spaced text xs ++ rest))

module _ {X : Type 0} (word : List ℕ → Option (X × List ℕ)) (text : X → List ℕ) (Fits : X → Type 0) where
  module _ (law : (bytes : List ℕ) (x : X × List ℕ) → word bytes ≡ Some x → IsRead text Fits bytes x) where
    words_step : (n : ℕ) (bytes : List ℕ) (x : List X × List ℕ) (t : Bool) → has_word bytes ≡ t
        → cond t (word (drop 1 bytes) >>= λ x. words_at word n x.1 >>= λ others. Some (x.0 ∷ others.0, others.1)) (Some ([], bytes)) ≡ some x
        → ((rest : List ℕ) (y : List X × List ℕ) → words_at word n rest ≡ Some y → IsRead (spaced text) (AllByRecursion Fits) rest y)
        → IsRead (spaced text) (AllByRecursion Fits) bytes x
    words_step n bytes x true t e others =
        let first = bind_some (word (drop 1 bytes)) _ x e in
        let more = bind_some (words_at word n first.0.1) _ x first.2 in
        let made : List X × List ℕ = (first.0.0 ∷ more.0.0, more.0.1) in
        let space : Takes bytes (32 ∷ []) (drop 1 bytes) = record { parts = space_first bytes t } in
        let one = law (drop 1 bytes) first.0 first.1 in
        let rest = others first.0.1 more.0 more.1 in
        is_read {made = made} (spaced text) (AllByRecursion Fits) bytes (some_is made x more.2) (space ▸ (one.takes ▸ rest.takes)) (one.fits, rest.fits)
    words_step n bytes x false t e others =
        let made : List X × List ℕ = ([], bytes) in
        let parts : Takes bytes [] bytes = record { parts = refl } in
        is_read {made = made} (spaced text) (AllByRecursion Fits) bytes (some_is made x e) parts tt

    words_read : (n : ℕ) (bytes : List ℕ) (x : List X × List ℕ) → words_at word n bytes ≡ Some x → IsRead (spaced text) (AllByRecursion Fits) bytes x
    unfolding words_at
    words_read zero bytes x e =
        let made : List X × List ℕ = ([], bytes) in
        let parts : Takes bytes [] bytes = record { parts = refl } in
        is_read {made = made} (spaced text) (AllByRecursion Fits) bytes (some_is made x e) parts tt
    words_read (suc n) bytes x e = words_step n bytes x (has_word bytes) refl e (words_read n)

    -- further words behind those that are there
    pub more_words_read : (items : List X) (bytes : List ℕ) (x : List X × List ℕ) → more_words_at word items bytes ≡ Some x
        → (others : List X × List ℕ) × ((items ++ others.0, others.1) ≡ x) × IsRead (spaced text) (AllByRecursion Fits) bytes others
    more_words_read items bytes x e =
        let found = bind_some (words_at word (length bytes) bytes) _ x e in
        let made : List X × List ℕ = (items ++ found.0.0, found.0.1) in
        (found.0, some_is made x found.2, words_read (length bytes) bytes found.0 found.1)

    pub all_words_read : (bytes : List ℕ) (x : List X × List ℕ) → more_words_at word [] bytes ≡ Some x → IsRead (spaced text) (AllByRecursion Fits) bytes x
    all_words_read bytes x e =
        let found = more_words_read [] bytes x e in
        subst (λ (y : List X × List ℕ). IsRead (spaced text) (AllByRecursion Fits) bytes y) found.1 found.2

    pub some_words_read : (bytes : List ℕ) (x : List X × List ℕ) → some_words_at word bytes ≡ Some x → IsRead (spaced text) (AreSome Fits) bytes x
    some_words_read bytes x e =
        let found = bind_some (more_words_at word [] bytes) (λ found. given (ltb 0 (length found.0)) found) x e in
        let g = given_some (ltb 0 (length found.0.0)) found.0 x found.2 in
        let read = all_words_read bytes found.0 found.1 in
        is_read (spaced text) (AreSome Fits) bytes g.1 read.takes (record { some = not_empty found.0.0 g.0; each = read.fits })

  module _ (again : (x : X) (rest : List ℕ) → Fits x → Stops rest → word (text x ++ rest) ≡ Some (x, rest))
      (no_colon : (x : X) (rest : List ℕ) → Fits x → eqb (get_or (text x ++ rest) 0 0) 58 ≡ false) where
    words_again : (n : ℕ) (xs : List X) (rest : List ℕ) → length xs ≤ n → AllByRecursion Fits xs → Stops rest → Ends rest → words_at word n (spaced text xs ++ rest) ≡ Some (xs, rest)
    unfolding words_at
    words_again zero [] rest short fits stops ends = refl
    words_again (suc n) [] rest short fits stops ends = rw ends refl
    words_again zero (x ∷ xs) rest short fits stops ends = absurd (omega arith)
    words_again (suc n) (x ∷ xs) rest short fits stops ends =
        let regroup = append_assoc (text x) (spaced text xs) rest in
        let one = again x (spaced text xs ++ rest) fits.0 (stops_spaced text xs rest stops) in
        let others = words_again n xs rest (omega arith) fits.1 stops ends in
        rw (regroup, no_colon x (spaced text xs ++ rest) fits.0, one, others) refl

    pub more_words_again : (items xs : List X) (rest : List ℕ) → AllByRecursion Fits xs → Stops rest → Ends rest → more_words_at word items (spaced text xs ++ rest) ≡ Some (items ++ xs, rest)
    more_words_again items xs rest fits stops ends = rw (words_again (length (spaced text xs ++ rest)) xs rest (length_spaced text xs rest) fits stops ends) refl

    pub some_words_again : (xs : List X) (rest : List ℕ) → AreSome Fits xs → Stops rest → Ends rest → some_words_at word (spaced text xs ++ rest) ≡ Some (xs, rest)
    some_words_again xs rest fits stops ends = rw (words_again (length (spaced text xs ++ rest)) xs rest (length_spaced text xs rest) fits.each stops ends, some_test xs fits.some) refl

digit_no_colon : (bytes rest : List ℕ) → BeginsWithDigit bytes → eqb (get_or (bytes ++ rest) 0 0) 58 ≡ false
digit_no_colon bytes rest begins =
    let range = begins.in_range in
    let first : eqb begins.digit 58 ≡ false = grind (arith, nat_tests) in
    rw begins.is first

pub number_no_colon : (n : ℕ) (rest : List ℕ) → IsNatural n → eqb (get_or (decimal n ++ rest) 0 0) 58 ≡ false
number_no_colon n rest fits = digit_no_colon (decimal n) rest (decimal_begins n fits)

pub lit_no_colon : (l : Lit) (rest : List ℕ) → IsLiteral l → eqb (get_or (lit_text l ++ rest) 0 0) 58 ≡ false
lit_no_colon l rest fits = at l.var l.positive fits.1
  where
    at : (var : ℕ) (positive : Bool) → IsNatural var → eqb (get_or (lit_text (record { var = var; positive = positive }) ++ rest) 0 0) 58 ≡ false
    at var true natural = number_no_colon var rest natural
    at var false natural = refl

pub cell_no_colon : (c : Cell) (rest : List ℕ) → IsWithin 100000 c → eqb (get_or (cell_text c ++ rest) 0 0) 58 ≡ false
cell_no_colon c rest fits = at c.a (fits.a_low, fits.a_high)
  where
    at : (a : ℤ) → IsInteger a → eqb (get_or (signed_decimal a ++ codes "," ++ signed_decimal c.b ++ rest) 0 0) 58 ≡ false
    at (pos n) small =
        let natural : IsNatural n = omega (arith, ints) in
        let begins = decimal_begins n natural in
        let range = begins.in_range in
        let first : eqb begins.digit 58 ≡ false = grind (arith, nat_tests) in
        rw begins.is first
    at (negsuc n) small = refl

pub place_no_colon : (i : Iso) (rest : List ℕ) → IsPlace i → eqb (get_or (iso_words 44 i ++ rest) 0 0) 58 ≡ false
place_no_colon i rest fits =
    let small = fits.turn_range in
    let natural : IsNatural i.turn = omega arith in
    let begins = decimal_begins i.turn natural in
    let range = begins.in_range in
    let first : eqb begins.digit 58 ≡ false = grind (arith, nat_tests) in
    rw begins.is first

abbrev place_again : (i : Iso) (rest : List ℕ) → IsPlace i → Stops rest → iso_at 44 (iso_words 44 i ++ rest) ≡ Some (i, rest)
place_again i rest fits stops = iso_again 44 i rest refl fits stops

-- ---- the lists of lines

pub numbers_read : (bytes : List ℕ) (x : List ℕ × List ℕ) → some_words_at number_at bytes ≡ Some x → IsRead (spaced decimal) (AreSome IsNatural) bytes x
numbers_read bytes x e = some_words_read number_at decimal IsNatural number_read bytes x e

pub all_numbers_read : (bytes : List ℕ) (x : List ℕ × List ℕ) → more_words_at number_at [] bytes ≡ Some x → IsRead (spaced decimal) (AllByRecursion IsNatural) bytes x
all_numbers_read bytes x e = all_words_read number_at decimal IsNatural number_read bytes x e

pub literals_read : (bytes : List ℕ) (x : List Lit × List ℕ) → some_words_at lit_at bytes ≡ Some x → IsRead (spaced lit_text) (AreSome IsLiteral) bytes x
literals_read bytes x e = some_words_read lit_at lit_text IsLiteral lit_read bytes x e

pub places_read : (bytes : List ℕ) (x : List Iso × List ℕ) → some_words_at (iso_at 44) bytes ≡ Some x → IsRead (spaced place_text) (AreSome IsPlace) bytes x
places_read bytes x e = some_words_read (iso_at 44) place_text IsPlace (iso_read 44) bytes x e

pub numbers_again : (xs : List ℕ) (rest : List ℕ) → AreSome IsNatural xs → Stops rest → Ends rest → some_words_at number_at (spaced decimal xs ++ rest) ≡ Some (xs, rest)
numbers_again xs rest fits stops ends = some_words_again number_at decimal IsNatural number_again number_no_colon xs rest fits stops ends

pub all_numbers_again : (xs : List ℕ) (rest : List ℕ) → AllByRecursion IsNatural xs → Stops rest → Ends rest → more_words_at number_at [] (spaced decimal xs ++ rest) ≡ Some (xs, rest)
all_numbers_again xs rest fits stops ends = more_words_again number_at decimal IsNatural number_again number_no_colon [] xs rest fits stops ends

pub literals_again : (xs : List Lit) (rest : List ℕ) → AreSome IsLiteral xs → Stops rest → Ends rest → some_words_at lit_at (spaced lit_text xs ++ rest) ≡ Some (xs, rest)
literals_again xs rest fits stops ends = some_words_again lit_at lit_text IsLiteral lit_again lit_no_colon xs rest fits stops ends

pub places_again : (xs : List Iso) (rest : List ℕ) → AreSome IsPlace xs → Stops rest → Ends rest → some_words_at (iso_at 44) (spaced place_text xs ++ rest) ≡ Some (xs, rest)
places_again xs rest fits stops ends = some_words_again (iso_at 44) place_text IsPlace place_again place_no_colon xs rest fits stops ends

cons_some : {X : Type 0} (x : X) (xs : List X) → (x ∷ xs) ≢ []
cons_some x xs e = cc

pub cells_read : (bytes : List ℕ) (x : List Cell × List ℕ) → cells_at bytes ≡ Some x → IsRead cells_text (AreSome (IsWithin 100000)) bytes x
unfolding cells_at
cells_read bytes x e =
    let c = bind_some (cell_at bytes) _ x e in
    let more = more_words_read cell_at cell_text (IsWithin 100000) cell_read (c.0.0 ∷ []) c.0.1 x c.2 in
    let first = cell_read bytes c.0 c.1 in
    is_read cells_text (AreSome (IsWithin 100000)) bytes more.1 (first.takes ▸ more.2.takes) (record { some = cons_some c.0.0 more.0.0; each = (first.fits, more.2.fits) })

pub cells_again : (cells : List Cell) (rest : List ℕ) → AreSome (IsWithin 100000) cells → Stops rest → Ends rest → cells_at (cells_text cells ++ rest) ≡ Some (cells, rest)
unfolding cells_at
cells_again [] rest fits stops ends = absurd (fits.some refl)
cells_again (c ∷ cs) rest fits stops ends =
    let each = fits.each in
    let regroup = append_assoc (cell_text c) (spaced cell_text cs) rest in
    let first = cell_again c (spaced cell_text cs ++ rest) each.0 (stops_spaced cell_text cs rest stops) in
    let more = more_words_again cell_at cell_text (IsWithin 100000) cell_again cell_no_colon (c ∷ []) cs rest each.1 stops ends in
    rw (regroup, first, more) refl
