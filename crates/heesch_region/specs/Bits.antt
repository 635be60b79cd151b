-- Bits of a list of words, and how a row of them is narrowed.
use Rattle.std.specs.Prelude.{◌≡◌, ℕ, ◌+◌, ◌*◌, ◌/◌, ◌%◌, ◌<◌, ◌⊎◌, Bool, true, List, slice_index}
use Rattle.std.specs.Int.{bit_at}

-- the bit of this number, 64 to a word, lowest first
abbrev pub bit_of : List ℕ → ℕ → ℕ
bit_of words n = bit_at (slice_index words (n / 64)) (n % 64)

-- in the row of `count` words from word `to` on, a bit stands over the one as far behind bit `from`; those that stand neither in `allowed` nor over a set bit may be cleared, and no others
pub record AreNarrowed (allowed : List ℕ) (to from count : ℕ) (old new : List ℕ) : Type 0 where
  pub only : (n : ℕ) → bit_of new n ≡ 1 → bit_of old n ≡ 1
  pub keeps : (test : ℕ → Bool) → ((x : ℕ) → x < 64 * count → test (64 * to + x) ≡ true → (bit_of allowed (64 * to + x) ≡ 1) ⊎ (test (from + x) ≡ true)) → ((n : ℕ) → test n ≡ true → bit_of old n ≡ 1) → (n : ℕ) → test n ≡ true → bit_of new n ≡ 1

-- each set bit among the first `most` of the row stands in `allowed` or over a set bit
abbrev pub AreSettled : List ℕ → List ℕ → ℕ → ℕ → ℕ → Type 0
AreSettled allowed words to from most = (x : ℕ) → x < most → bit_of words (64 * to + x) ≡ 1 → (bit_of allowed (64 * to + x) ≡ 1) ⊎ (bit_of words (from + x) ≡ 1)
