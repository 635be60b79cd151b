-- The decimal digits of a number.
use Rattle.std.proofs.Common.{◌≡◌, ℕ, suc, ◌<◌, ◌^◌, List, [], ◌∷◌, length, get_or, sym, ap, ◌∙◌, subst, arith}
use Rattle.std.specs.Prelude.{codes, decimal}
use Rattle.std.specs.Int.{IsInRange}
use Rattle.std.specs.Str.Parse.{digits_value}
use Rattle.std.proofs.lemmas.Fmt.{digits_decimal, digits_value-decimal}
use Rattle.std.proofs.lemmas.Str.Parse.{IsNumeralModel, numerals_by_value, tells_by_index}
use Rattle.heesch_line.specs.Forms.{HasNoNewline}

abbrev AreDigits : List ℕ → Type 0
AreDigits ds = (i : ℕ) → i < length ds → IsInRange 48 57 (get_or ds i 0)

own : IsNumeralModel AreDigits (digits_value 10)
own = numerals_by_value AreDigits tells_by_index

digits_free : (ds : List ℕ) → AreDigits ds → HasNoNewline ds
digits_free [] digits = tt
digits_free (d ∷ ds) digits =
    let first = digits 0 (omega arith) in
    ((λ e. omega (arith, first.0, e)), digits_free ds (λ i lt. digits (suc i) (omega (arith, lt))))

-- none of them is a newline
pub decimal_free : (n : ℕ) → n < 2 ^ 64 → HasNoNewline (decimal n)
decimal_free n fits = digits_free (decimal n) (digits_decimal own n fits)

-- they tell the number
pub decimal_tells : (m n : ℕ) → m < 2 ^ 64 → n < 2 ^ 64 → decimal m ≡ decimal n → m ≡ n
decimal_tells m n low high e = sym (digits_value-decimal own m low) ∙ ap (digits_value 10) e ∙ digits_value-decimal own n high

-- they are no word
pub decimal_is_no_word : (n : ℕ) → n < 2 ^ 64 → decimal n ≡ codes "spent" → ⊥
decimal_is_no_word n fits e =
    let first = (subst AreDigits e (digits_decimal own n fits)) 0 (omega arith) in
    omega (arith, first.1)
