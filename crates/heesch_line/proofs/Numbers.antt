-- Numbers, integers, literals and cells: what is read is spelled so, and what is spelled so is read.
use Rattle.std.proofs.Common.{◌≡◌, ℕ, zero, suc, ◌+◌, ◌<◌, ◌≤◌, ◌^◌, Bool, true, false, cond, not, ◌&&◌, ◌||◌, eqb, ltb, leb, List, [], ◌∷◌, ◌++◌, length, get_or, take, drop, Some, refl, sym, ap, ◌∙◌, append_assoc, arith, ℤ, pos, negsuc, neg_ℤ}
use Rattle.std.specs.Prelude.{codes, decimal}
use Rattle.std.specs.Fmt.{signed_decimal}
use Rattle.std.specs.Str.Parse.{digits_value}
use Rattle.std.specs.List.{prefix_len}
use Rattle.std.specs.Int.{IsInRange}
use Rattle.std.specs.Char.{is_ascii_digit}
use Rattle.std.proofs.lemmas.Bool.{eqb-true, ltb-true}
use Rattle.std.proofs.lemmas.Bool.Decides.{nat_tests}
use Rattle.std.proofs.lemmas.Int.{ints}
use Rattle.std.proofs.lemmas.List.{take-append-drop, take_at, drop_at}
use Rattle.std.proofs.lemmas.List.Folds.{prefix_len-append}
use Rattle.std.proofs.lemmas.List.Sums.{prefix_len_is}
use Rattle.std.proofs.lemmas.Str.Parse.{IsNumeralModel, numerals_by_value, tells_by_index}
use Rattle.std.proofs.lemmas.Fmt.{decimal-digits_value, digits_decimal, digits_value-decimal, length-decimal-le, decimal_nonempty, first_decimal, decimal_digit}
use Rattle.heesch_grid.specs.declared.Cell.{Cell}
use Rattle.heesch_grid.specs.Vectors.{IsWithin}
use Rattle.heesch_cnf.specs.declared.literal.Lit.{Lit}
use Rattle.heesch_text.specs.Fields.{cell_text, lit_text}
use Rattle.heesch_text.specs.Naturals.{IsNatural}
use Rattle.heesch_line.specs.Forms.{IsInteger, IsLiteral}
use Rattle.heesch_line.specs.Reading.{◌>>=◌, given, is_plain, digits_len, is_minus, literal_at, number_at, labelled_at, integer_at, cell_at, lit_at}
use Rattle.heesch_line.proofs.Digits.{digits_pass}
use Rattle.heesch_line.proofs.Steps.{some, some_is, bind_some, given_some, both_true, Takes, ◌▸◌, same_takes, literal_part, IsRead, is_read}

abbrev AreDigits : List ℕ → Type 0
AreDigits ds = (i : ℕ) → i < length ds → IsInRange 48 57 (get_or ds i 0)

own : IsNumeralModel AreDigits (digits_value 10)
own = numerals_by_value AreDigits tells_by_index

in_range : (c : ℕ) → is_ascii_digit c ≡ true → IsInRange 48 57 c
in_range c h = grind (arith, nat_tests)

passes : (c : ℕ) → IsInRange 48 57 c → is_ascii_digit c ≡ true
passes c h = grind (arith, nat_tests)

no_zero_first : (n first : ℕ) → (eqb n 1 || not (eqb first 48)) ≡ true → first ≡ 48 → n ≡ 1
no_zero_first n first h e = grind (arith, nat_tests)

-- digits of the one form of a number
plain_is : (ds : List ℕ) → AreDigits ds → is_plain ds ≡ true → (decimal (digits_value 10 ds) ≡ ds) × IsNatural (digits_value 10 ds)
plain_is ds digits e =
    let outer = both_true (ltb 0 (length ds) && leb (length ds) 10) ((eqb (length ds) 1 || not (eqb (get_or ds 0 0) 48)) && ltb (digits_value 10 ds) (2 ^ 32)) e in
    let lens = both_true (ltb 0 (length ds)) (leb (length ds) 10) outer.0 in
    let forms = both_true (eqb (length ds) 1 || not (eqb (get_or ds 0 0) 48)) (ltb (digits_value 10 ds) (2 ^ 32)) outer.1 in
    let below : digits_value 10 ds < 2 ^ 32 = ltb-true _ _ forms.1 in
    (decimal-digits_value own ds digits (ltb-true _ _ lens.0) (no_zero_first (length ds) (get_or ds 0 0) forms.0) (omega arith), below)

pub number_read : (bytes : List ℕ) (x : ℕ × List ℕ) → number_at bytes ≡ Some x → IsRead decimal IsNatural bytes x
unfolding number_at
number_read bytes x e =
    let ds = take (digits_len bytes) bytes in
    let g = given_some (is_plain ds) (digits_value 10 ds, drop (digits_len bytes) bytes) x e in
    let plain = plain_is ds (λ i lt. in_range (get_or ds i 0) (digits_pass bytes i 0 lt)) g.0 in
    let parts : Takes bytes (decimal (digits_value 10 ds)) (drop (digits_len bytes) bytes) = record { parts = sym (take-append-drop (digits_len bytes) bytes) ∙ ap (λ (t : List ℕ). t ++ drop (digits_len bytes) bytes) (sym plain.0) } in
    is_read decimal IsNatural bytes g.1 parts plain.1

-- the bytes don't go on with a digit
abbrev pub Stops : List ℕ → Type 0
Stops bytes = is_ascii_digit (get_or bytes 0 0) ≡ false

stops_after : (rest : List ℕ) → Stops rest → prefix_len is_ascii_digit rest ≡ 0
stops_after [] h = refl
stops_after (b ∷ rest) h = ap (λ (t : Bool). cond t (1 + prefix_len is_ascii_digit rest) 0) h

pub eqb_same : (n : ℕ) → eqb n n ≡ true
eqb_same n = grind (arith, nat_tests)

-- the digits of a number are all that stand at the front
decimal_len : (n : ℕ) (rest : List ℕ) → IsNatural n → Stops rest → digits_len (decimal n ++ rest) ≡ length (decimal n)
decimal_len n rest fits stops =
    let digits : AreDigits (decimal n) = digits_decimal own n (omega arith) in
    let all : prefix_len is_ascii_digit (decimal n) ≡ length (decimal n) =
    prefix_len_is is_ascii_digit (decimal n) (length (decimal n)) 0 (omega arith) (λ k lt. passes (get_or (decimal n) k 0) (digits k lt)) (λ lt. absurd (omega arith)) in
    prefix_len-append is_ascii_digit (decimal n) rest ∙ rw (all, eqb_same (length (decimal n)), stops_after rest stops) (omega arith)

plain_test : (len first value : ℕ) → 0 < len → len ≤ 10 → (first ≡ 48 → len ≡ 1) → value < 2 ^ 32
    → ((ltb 0 len && leb len 10) && ((eqb len 1 || not (eqb first 48)) && ltb value (2 ^ 32))) ≡ true
plain_test len first value low high alone fits = grind (arith, nat_tests)

zero_alone : (n : ℕ) → IsNatural n → get_or (decimal n) 0 0 ≡ 48 → length (decimal n) ≡ 1
zero_alone zero fits e = ap length (decimal_digit 0 (omega arith))
zero_alone (suc n) fits e = let first : 48 < get_or (decimal (suc n)) 0 0 = first_decimal (suc n) (omega arith) (omega arith) in absurd (omega arith)

decimal_plain : (n : ℕ) → IsNatural n → is_plain (decimal n) ≡ true
decimal_plain n fits =
    let value : digits_value 10 (decimal n) ≡ n = digits_value-decimal own n (omega arith) in
    plain_test (length (decimal n)) (get_or (decimal n) 0 0) (digits_value 10 (decimal n)) (decimal_nonempty n (omega arith)) (length-decimal-le 10 n (omega arith) (omega arith) (omega arith)) (zero_alone n fits) (omega arith)

pub number_again : (n : ℕ) (rest : List ℕ) → IsNatural n → Stops rest → number_at (decimal n ++ rest) ≡ Some (n, rest)
unfolding number_at
number_again n rest fits stops =
    let len = decimal_len n rest fits stops in
    let front : take (length (decimal n)) (decimal n ++ rest) ≡ decimal n = take_at (decimal n) rest (length (decimal n)) refl in
    let back : drop (length (decimal n)) (decimal n ++ rest) ≡ rest = drop_at (decimal n) rest (length (decimal n)) refl in
    let value : digits_value 10 (decimal n) ≡ n = digits_value-decimal own n (omega arith) in
    rw (len, front, back, decimal_plain n fits, value) refl

-- the first byte of a number is a digit
pub record BeginsWithDigit (bytes : List ℕ) : Type 0 where
  pub digit : ℕ
  pub others : List ℕ
  pub is : bytes ≡ digit ∷ others
  pub in_range : IsInRange 48 57 digit

pub decimal_begins : (n : ℕ) → IsNatural n → BeginsWithDigit (decimal n)
decimal_begins n fits = first (decimal n) (digits_decimal own n (omega arith)) (decimal_nonempty n (omega arith))
  where
    first : (ds : List ℕ) → AreDigits ds → 0 < length ds → BeginsWithDigit ds
    first [] digits low = absurd (omega arith)
    first (d ∷ ds) digits low = record { digit = d; others = ds; is = refl; in_range = digits 0 low }

pub decimal_digits : (n : ℕ) → IsNatural n → (i : ℕ) → i < length (decimal n) → IsInRange 48 57 (get_or (decimal n) i 0)
decimal_digits n fits = digits_decimal own n (omega arith)

-- ---- behind a word

pub labelled_parts : (word bytes : List ℕ) (x : ℕ × List ℕ) → labelled_at word bytes ≡ Some x → (rest : List ℕ) × Takes bytes word rest × IsRead decimal IsNatural rest x
labelled_parts word bytes x e =
    let l = bind_some (literal_at word bytes) (λ rest. number_at rest) x e in
    (l.0, literal_part word bytes l.0 l.1, number_read l.0 x l.2)

-- ---- integers

minus_first : (bytes : List ℕ) → is_minus bytes ≡ true → bytes ≡ 45 ∷ drop 1 bytes
minus_first [] e = absurd cc
minus_first (b ∷ bytes) e = ap (λ (c : ℕ). c ∷ bytes) (eqb-true b 45 e)

negative_text : (n : ℕ) → ltb 0 n ≡ true → signed_decimal (neg_ℤ (pos n)) ≡ 45 ∷ decimal n
negative_text zero e = absurd cc
negative_text (suc n) e = refl

negative_fits : (n : ℕ) → leb n 100000 ≡ true → IsInteger (neg_ℤ (pos n))
negative_fits n e = let small : n ≤ 100000 = grind (arith, nat_tests) in (omega (arith, ints), omega (arith, ints))

positive_fits : (n : ℕ) → leb n 100000 ≡ true → IsInteger (pos n)
positive_fits n e = let small : n ≤ 100000 = grind (arith, nat_tests) in (omega (arith, ints), omega (arith, ints))

integer_cases : (bytes : List ℕ) (x : ℤ × List ℕ) (t : Bool) → is_minus bytes ≡ t
    → cond t (number_at (drop 1 bytes) >>= λ n. given (ltb 0 n.0 && leb n.0 100000) (neg_ℤ (pos n.0), n.1)) (number_at bytes >>= λ n. given (leb n.0 100000) (pos n.0, n.1)) ≡ Some x
    → IsRead signed_decimal IsInteger bytes x
integer_cases bytes x true t e =
    let n = bind_some (number_at (drop 1 bytes)) (λ n. given (ltb 0 n.0 && leb n.0 100000) (neg_ℤ (pos n.0), n.1)) x e in
    let g = given_some (ltb 0 n.0.0 && leb n.0.0 100000) (neg_ℤ (pos n.0.0), n.0.1) x n.2 in
    let tests = both_true (ltb 0 n.0.0) (leb n.0.0 100000) g.0 in
    let front : Takes bytes (45 ∷ []) (drop 1 bytes) = record { parts = minus_first bytes t } in
    let whole = front ▸ (number_read (drop 1 bytes) n.0 n.1).takes in
    is_read signed_decimal IsInteger bytes g.1 (same_takes whole (sym (negative_text n.0.0 tests.0))) (negative_fits n.0.0 tests.1)
integer_cases bytes x false t e =
    let n = bind_some (number_at bytes) (λ n. given (leb n.0 100000) (pos n.0, n.1)) x e in
    let g = given_some (leb n.0.0 100000) (pos n.0.0, n.0.1) x n.2 in
    is_read signed_decimal IsInteger bytes g.1 (number_read bytes n.0 n.1).takes (positive_fits n.0.0 g.0)

pub integer_read : (bytes : List ℕ) (x : ℤ × List ℕ) → integer_at bytes ≡ Some x → IsRead signed_decimal IsInteger bytes x
unfolding integer_at
integer_read bytes x e = integer_cases bytes x (is_minus bytes) refl e

no_minus : (bytes rest : List ℕ) → BeginsWithDigit bytes → is_minus (bytes ++ rest) ≡ false
no_minus bytes rest begins =
    let range = begins.in_range in
    let first : eqb begins.digit 45 ≡ false = grind (arith, nat_tests) in
    rw begins.is first

small_test : (n : ℕ) → n ≤ 100000 → leb n 100000 ≡ true
small_test n h = grind (arith, nat_tests)

small_tests : (n : ℕ) → 0 < n → n ≤ 100000 → (ltb 0 n && leb n 100000) ≡ true
small_tests n low h = grind (arith, nat_tests)

pub integer_again : (z : ℤ) (rest : List ℕ) → IsInteger z → Stops rest → integer_at (signed_decimal z ++ rest) ≡ Some (z, rest)
unfolding integer_at
integer_again (pos n) rest fits stops =
    let small : n ≤ 100000 = omega (arith, ints) in
    let natural : IsNatural n = omega arith in
    rw (no_minus (decimal n) rest (decimal_begins n natural), number_again n rest natural stops, small_test n small) refl
integer_again (negsuc n) rest fits stops =
    let small : suc n ≤ 100000 = omega (arith, ints) in
    let natural : IsNatural (suc n) = omega arith in
    rw (number_again (suc n) rest natural stops, small_tests (suc n) (omega arith) small) refl

-- ---- literals

lit_cases : (bytes : List ℕ) (x : Lit × List ℕ) (t : Bool) → is_minus bytes ≡ t
    → cond t (number_at (drop 1 bytes) >>= λ n. given (ltb 0 n.0) (record { var = n.0; positive = false }, n.1)) (number_at bytes >>= λ n. given (ltb 0 n.0) (record { var = n.0; positive = true }, n.1)) ≡ some x
    → IsRead lit_text IsLiteral bytes x
lit_cases bytes x true t e =
    let n = bind_some (number_at (drop 1 bytes)) _ x e in
    let made : Lit × List ℕ = (record { var = n.0.0; positive = false }, n.0.1) in
    let g = given_some (ltb 0 n.0.0) made x n.2 in
    let read = number_read (drop 1 bytes) n.0 n.1 in
    let front : Takes bytes (45 ∷ []) (drop 1 bytes) = record { parts = minus_first bytes t } in
    is_read {made = made} lit_text IsLiteral bytes g.1 (front ▸ read.takes) (ltb-true 0 n.0.0 g.0, read.fits)
lit_cases bytes x false t e =
    let n = bind_some (number_at bytes) _ x e in
    let made : Lit × List ℕ = (record { var = n.0.0; positive = true }, n.0.1) in
    let g = given_some (ltb 0 n.0.0) made x n.2 in
    let read = number_read bytes n.0 n.1 in
    is_read {made = made} lit_text IsLiteral bytes g.1 read.takes (ltb-true 0 n.0.0 g.0, read.fits)

pub lit_read : (bytes : List ℕ) (x : Lit × List ℕ) → lit_at bytes ≡ Some x → IsRead lit_text IsLiteral bytes x
unfolding lit_at
lit_read bytes x e = lit_cases bytes x (is_minus bytes) refl e

positive_test : (n : ℕ) → 1 ≤ n → ltb 0 n ≡ true
positive_test n h = grind (arith, nat_tests)

lit_again_at : (var : ℕ) (positive : Bool) (rest : List ℕ) → 1 ≤ var → IsNatural var → Stops rest → lit_at (lit_text (record { var = var; positive = positive }) ++ rest) ≡ Some (record { var = var; positive = positive }, rest)
unfolding lit_at
lit_again_at var true rest low natural stops = rw (no_minus (decimal var) rest (decimal_begins var natural), number_again var rest natural stops, positive_test var low) refl
lit_again_at var false rest low natural stops = rw (number_again var rest natural stops, positive_test var low) refl

pub lit_again : (l : Lit) (rest : List ℕ) → IsLiteral l → Stops rest → lit_at (lit_text l ++ rest) ≡ Some (l, rest)
lit_again l rest fits stops = lit_again_at l.var l.positive rest fits.0 fits.1 stops

-- ---- cells

pub cell_read : (bytes : List ℕ) (x : Cell × List ℕ) → cell_at bytes ≡ Some x → IsRead cell_text (IsWithin 100000) bytes x
unfolding cell_at
cell_read bytes x e =
    let a = bind_some (integer_at bytes) _ x e in
    let l = bind_some (literal_at (codes ",") a.0.1) _ x a.2 in
    let b = bind_some (integer_at l.0) _ x l.2 in
    let made : Cell × List ℕ = (record { a = a.0.0; b = b.0.0 }, b.0.1) in
    let first = integer_read bytes a.0 a.1 in
    let second = integer_read l.0 b.0 b.1 in
    is_read {made = made} cell_text (IsWithin 100000) bytes (some_is made x b.2) (first.takes ▸ literal_part (codes ",") a.0.1 l.0 l.1 ▸ second.takes) (record { a_low = first.fits.0; a_high = first.fits.1; b_low = second.fits.0; b_high = second.fits.1 })

pub cell_again : (c : Cell) (rest : List ℕ) → IsWithin 100000 c → Stops rest → cell_at (cell_text c ++ rest) ≡ Some (c, rest)
unfolding cell_at
cell_again c rest fits stops =
    let regroup : cell_text c ++ rest ≡ signed_decimal c.a ++ (codes "," ++ (signed_decimal c.b ++ rest)) = simp append_assoc in
    let first = integer_again c.a (codes "," ++ (signed_decimal c.b ++ rest)) (fits.a_low, fits.a_high) refl in
    let second = integer_again c.b rest (fits.b_low, fits.b_high) stops in
    rw (regroup, first, second) refl
