-- Decimal digits and their value.
use Rattle.std.proofs.Common.{◌≡◌, ℕ, ◌+◌, ◌-◌, ◌*◌, ◌^◌, ◌<◌, true, List, length, get_or, take, refl, arith}
use Rattle.std.proofs.lemmas.Bool.Decides.{nat_tests}
use Rattle.std.proofs.lemmas.Int.Digits.{digits_value_more}
use Rattle.std.proofs.lemmas.Grind.{pow_more}
use Rattle.std.proofs.lemmas.List.{get_or-take}
use Rattle.std.proofs.lemmas.List.Folds.{length-prefix_len}
use Rattle.std.proofs.lemmas.List.Sums.{prefix_len_passes}
use Rattle.std.specs.List.{AllPass}
use Rattle.heesch_line.specs.Reading.{digits_len}
use Rattle.std.specs.Char.{is_ascii_digit, digit_value}
use Rattle.std.specs.Str.Parse.{digits_value}

digit_value_is : (c : ℕ) → is_ascii_digit c ≡ true → digit_value c ≡ c - 48
digit_value_is c h = grind (arith, nat_tests)

digit_below : (c : ℕ) → is_ascii_digit c ≡ true → c - 48 < 10
digit_below c h = grind (arith, nat_tests)

power_more : (k : ℕ) → 10 ^ (k + 1) ≡ 10 ^ k * 10
power_more k = pow_more 10 k

-- one more digit
pub value_more : (ds : List ℕ) (i value digit : ℕ) → i < length ds → is_ascii_digit (get_or ds i 0) ≡ true → digit ≡ get_or ds i 0 - 48
    → (value ≡ digits_value 10 (take i ds)) × (value < 10 ^ i) → (value * 10 + digit ≡ digits_value 10 (take (i + 1) ds)) × (value * 10 + digit < 10 ^ (i + 1))
value_more ds i value digit lt h e so_far =
    let more = digits_value_more 10 ds i lt in
    let here = digit_value_is (get_or ds i 0) h in
    let below = digit_below (get_or ds i 0) h in
    let power = power_more i in
    (rw more (rw here (rw (← so_far.0, ← e) refl)), omega (arith, so_far.1))

pub digits_pass : (bytes : List ℕ) → AllPass is_ascii_digit (take (digits_len bytes) bytes)
digits_pass bytes k d lt =
    let short : k < digits_len bytes = omega (arith, length-prefix_len is_ascii_digit bytes) in
    rw (get_or-take (digits_len bytes) bytes k d short) (prefix_len_passes is_ascii_digit bytes k d short)
