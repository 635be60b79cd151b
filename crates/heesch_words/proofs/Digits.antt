-- What parsing says of a word that writes a number in digits.
use Rattle.std.proofs.Common.{◌≡◌, ℕ, ◌<◌, ◌^◌, List, true, decimal, Ok}
use Rattle.std.specs.Prelude.{Result, nat_eq}
use Rattle.std.specs.Cmp.Lexicographic.{pointwise}
use Rattle.std.specs.Str.Parse.{ParsesUnsigned}
use Rattle.std.proofs.lemmas.Fmt.{parse-decimal}
use Rattle.std.proofs.lemmas.Slice.Eq.{bytes_eq-Decides}

-- the digits of a number are parsed as this number
pub parses : {E : Type 0} (n : ℕ) (word : List ℕ) (r : Result ℕ E) → n < 2 ^ 64 → word ≡ decimal n → ParsesUnsigned 64 10 word r → r ≡ Ok n
parses n word r fits is told = parse-decimal 64 n word r fits fits is told

-- the test of two texts that are the same
pub same_passes : (xs ys : List ℕ) → xs ≡ ys → pointwise nat_eq xs ys ≡ true
same_passes xs ys same = (bytes_eq-Decides xs ys).1 same
