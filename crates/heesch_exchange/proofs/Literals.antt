-- The text of a literal: what it has, that it tells the literal, and how it is read.
use Rattle.std.proofs.Common.{◌≡◌, ◌≢◌, ℕ, zero, suc, ◌<◌, ◌≤◌, ◌^◌, Bool, true, false, ◌&&◌, ltb, leb, List, [], ◌∷◌, ◌++◌, length, get_or, refl, sym, ap, ap₂, subst, ◌∙◌, arith}
use Rattle.std.specs.Prelude.{decimal, Result, Ok, Err, MatchOption}
use Rattle.std.specs.Int.{IsInRange}
use Rattle.std.specs.Result.{result_ok}
use Rattle.std.specs.Str.{IsUtf8}
use Rattle.std.specs.Str.Parse.{digits_value, ParsesUnsigned}
use Rattle.std.proofs.lemmas.Bool.Decides.{nat_tests}
use Rattle.std.proofs.lemmas.Str.{IsUtf8-from_ascii}
use Rattle.std.proofs.lemmas.Str.Parse.{IsNumeralModel, numerals_by_value, tells_by_index, parse_plain}
use Rattle.std.proofs.lemmas.Fmt.{decimal_digit, decimal-digits_value, digits_decimal, decimal_nonempty, first_decimal, decimal_injective, IsAscii-decimal, parse-decimal}
use Rattle.heesch_cnf.specs.declared.literal.Lit.{Lit}
use Rattle.heesch_text.specs.Fields.{lit_text}
use Rattle.heesch_line.specs.Forms.{IsLiteral}
use Rattle.heesch_exchange.specs.Lines.{begins_number}
use Rattle.heesch_exchange.proofs.Bytes.{HasNo, digits_have_no}

abbrev AreDigits : List ℕ → Type 0
AreDigits ds = (i : ℕ) → i < length ds → IsInRange 48 57 (get_or ds i 0)

own : IsNumeralModel AreDigits (digits_value 10)
own = numerals_by_value AreDigits tells_by_index

-- a number from 1 begins with a digit from 1
pub record BeginsNumber (bytes : List ℕ) : Type 0 where
  pub digit : ℕ
  pub others : List ℕ
  pub is : bytes ≡ digit ∷ others
  pub low : 48 < digit
  pub high : digit ≤ 57

first : (ds : List ℕ) → AreDigits ds → 0 < length ds → 48 < get_or ds 0 0 → BeginsNumber ds
first [] digits some low = absurd (omega arith)
first (d ∷ ds) digits some low =
    let range = digits 0 (omega arith) in
    record { digit = d; others = ds; is = refl; low = low; high = omega arith }

pub decimal_begins : (n : ℕ) → 1 ≤ n → n < 2 ^ 32 → BeginsNumber (decimal n)
decimal_begins n low fits = first (decimal n) (digits_decimal own n (omega arith)) (decimal_nonempty n (omega arith)) (first_decimal n (omega arith) (omega arith))

-- the text of a literal begins with `-` or a digit from 1
pub record BeginsLiteral (bytes : List ℕ) : Type 0 where
  pub byte : ℕ
  pub others : List ℕ
  pub is : bytes ≡ byte ∷ others
  pub no_zero : byte ≢ 48

begins_at : (var : ℕ) (positive : Bool) → 1 ≤ var → var < 2 ^ 32 → BeginsLiteral (lit_text (record { var = var; positive = positive }))
begins_at var true low fits =
    let begins = decimal_begins var low fits in
    let above = begins.low in
    record { byte = begins.digit; others = begins.others; is = begins.is; no_zero = λ e. absurd (omega arith) }
begins_at var false low fits = record { byte = 45; others = decimal var; is = refl; no_zero = λ e. absurd (omega arith) }

pub lit_begins : (l : Lit) → IsLiteral l → BeginsLiteral (lit_text l)
lit_begins l fits = begins_at l.var l.positive fits.0 fits.1

-- it is no text that begins with 0
pub lit_not_zero : (l : Lit) (rest others : List ℕ) → IsLiteral l → lit_text l ++ rest ≡ 48 ∷ others → ⊥
lit_not_zero l rest others fits e =
    let begins = lit_begins l fits in
    let whole : begins.byte ∷ (begins.others ++ rest) ≡ 48 ∷ others = ap (λ (t : List ℕ). t ++ rest) (sym begins.is) ∙ e in
    begins.no_zero cc

has_no_at : (k var : ℕ) (positive : Bool) → k < 45 → var < 2 ^ 32 → HasNo k (lit_text (record { var = var; positive = positive }))
has_no_at k var true low fits = digits_have_no k (decimal var) (omega arith) (digits_decimal own var (omega arith))
has_no_at k var false low fits = (λ e. absurd (omega arith), digits_have_no k (decimal var) (omega arith) (digits_decimal own var (omega arith)))

-- it has no space and no newline
pub lit_has_no : (k : ℕ) (l : Lit) → k < 45 → IsLiteral l → HasNo k (lit_text l)
lit_has_no k l low fits = has_no_at k l.var l.positive low fits.1

same_at : (v w : ℕ) (p q : Bool) → 1 ≤ v → v < 2 ^ 32 → 1 ≤ w → w < 2 ^ 32 → lit_text (record { var = v; positive = p }) ≡ lit_text (record { var = w; positive = q }) → (v ≡ w) × (p ≡ q)
same_at v w true true vl vh wl wh e = (decimal_injective v w (omega arith) (omega arith) e, refl)
same_at v w false false vl vh wl wh e =
    let digits : decimal v ≡ decimal w = cc in
    (decimal_injective v w (omega arith) (omega arith) digits, refl)
same_at v w true false vl vh wl wh e =
    let begins = decimal_begins v vl vh in
    let above = begins.low in
    let both : begins.digit ∷ begins.others ≡ 45 ∷ decimal w = sym begins.is ∙ e in
    let first : begins.digit ≡ 45 = cc in
    absurd (omega arith)
same_at v w false true vl vh wl wh e =
    let begins = decimal_begins w wl wh in
    let above = begins.low in
    let both : begins.digit ∷ begins.others ≡ 45 ∷ decimal v = sym begins.is ∙ sym e in
    let first : begins.digit ≡ 45 = cc in
    absurd (omega arith)

-- literals are told by their text
pub lit_same : (l m : Lit) → IsLiteral l → IsLiteral m → lit_text l ≡ lit_text m → l ≡ m
lit_same l m fits fit e =
    let parts = same_at l.var m.var l.positive m.positive fits.0 fits.1 fit.0 fit.1 e in
    let made : ℕ → Bool → Lit = λ var positive. record { var = var; positive = positive } in
    ap₂ made parts.0 parts.1

-- ---- numbers read

abbrev pub NoNumber : List ℕ → Type 0
NoNumber ds = (n : ℕ) → 1 ≤ n → n < 2 ^ 32 → decimal n ≡ ds → ⊥

begins_test : (d : ℕ) → 48 < d → d ≤ 57 → (ltb 48 d && leb d 57) ≡ true
begins_test d low high = grind (arith, nat_tests)

-- a text that begins otherwise is no number from 1
pub not_begun : (ds : List ℕ) → begins_number ds ≡ false → NoNumber ds
not_begun ds h n low fits e =
    let begins = decimal_begins n low fits in
    let whole : begins_number ds ≡ true = ap begins_number (sym e ∙ begins.is) ∙ begins_test begins.digit begins.low begins.high in
    cc

pub not_utf8 : (ds : List ℕ) → ¬ (IsUtf8 ds) → NoNumber ds
not_utf8 ds h n low fits e = h (subst IsUtf8 e (IsUtf8-from_ascii (decimal n) (IsAscii-decimal n (omega arith))))

begun_parts : (d : ℕ) → (ltb 48 d && leb d 57) ≡ true → (48 < d) × (d ≤ 57)
begun_parts d h = (grind (arith, nat_tests), grind (arith, nat_tests))

begun_low : (ds : List ℕ) → begins_number ds ≡ true → 48 < get_or ds 0 0
begun_low [] h = absurd cc
begun_low (d ∷ ds) h = (begun_parts d h).0

begins_one : (ds : List ℕ) → 48 < get_or ds 0 0 → decimal 0 ≡ ds → ⊥
begins_one ds low e =
    let zero_text : decimal 0 ≡ 48 ∷ [] = decimal_digit 0 (omega arith) in
    let first : get_or ds 0 0 ≡ 48 = ap (λ (t : List ℕ). get_or t 0 0) (sym e ∙ zero_text) in
    absurd (omega arith)

from_one : (n : ℕ) (ds : List ℕ) → 48 < get_or ds 0 0 → decimal n ≡ ds → 1 ≤ n
from_one zero ds low e = absurd (begins_one ds low e)
from_one (suc n) ds low e = omega arith

-- what parsing answers
pub parsed : {E : Type 0} (ds : List ℕ) (r : Result ℕ E) → begins_number ds ≡ true → ParsesUnsigned 32 10 ds r
    → MatchOption (result_ok r) (NoNumber ds) (λ n. (1 ≤ n) × (decimal n ≡ ds))
parsed {E} ds (Ok n) begins told =
    let low = begun_low ds begins in
    let plain = parse_plain own {E = E} 32 ds (Ok n) told (λ e. absurd (omega arith)) in
    let below : digits_value 10 ds < 2 ^ 32 = plain.0.2 in
    let spelled : decimal (digits_value 10 ds) ≡ ds = decimal-digits_value own ds plain.0.0 plain.0.1 (λ e. absurd (omega arith)) (omega arith) in
    let is : decimal n ≡ ds = ap decimal plain.1 ∙ spelled in
    (from_one n ds low is, is)
parsed {E} ds (Err x) begins told = λ n low fits e. let good = parse-decimal {E = E} 32 n ds (Err x) fits (omega arith) (sym e) told in cc

-- ---- literals read

abbrev pub NoLiteral : List ℕ → Type 0
NoLiteral word = (l : Lit) → IsLiteral l → lit_text l ≡ word → ⊥

minus_at : (var : ℕ) (positive : Bool) (digits : List ℕ) → NoNumber digits → 1 ≤ var → var < 2 ^ 32 → lit_text (record { var = var; positive = positive }) ≡ 45 ∷ digits → ⊥
minus_at var true digits none low fits e =
    let begins = decimal_begins var low fits in
    let above = begins.low in
    let both : begins.digit ∷ begins.others ≡ 45 ∷ digits = sym begins.is ∙ e in
    let first : begins.digit ≡ 45 = cc in
    absurd (omega arith)
minus_at var false digits none low fits e =
    let same : decimal var ≡ digits = cc in
    none var low fits same

-- `-`, and no number
pub no_negative : (word digits : List ℕ) → word ≡ 45 ∷ digits → NoNumber digits → NoLiteral word
no_negative word digits is none l fits e = minus_at l.var l.positive digits none fits.0 fits.1 (e ∙ is)
