-- Masks beside a first one: sets of points, as bits of words.
use Rattle.std.specs.Prelude.{◌≡◌, ◌==◌, ◌<◌, ◌≤◌, ◌+◌, ℕ, List, length, All, Contains}
use Rattle.std.specs.List.{count_by}
use Rattle.std.specs.List.Sorted.{IsStrictlyIncreasing}
use Rattle.std.specs.Int.{bit_at}
use Rattle.std.specs.Int.Bits.{bit_and}
use Rattle.heesch_exact.specs.Covers.{partial_covers, without}
use Rattle.heesch_torus.specs.declared.filling.Filling.{Filling}
use Rattle.heesch_torus.specs.declared.filling.Filling.TheVariants.{Filled, None, Open}

-- how many of the masks have the bit
abbrev pub with_bit : ℕ → List ℕ → ℕ
with_bit k masks = count_by (λ m. bit_at m k == 1) masks

-- the masks that share no bit with the first, each once
pub record AreBeside (masks : List ℕ) (first : ℕ) (beside : List ℕ) : Type 0 where
  pub rising : IsStrictlyIncreasing beside
  pub only : (m : ℕ) → Contains beside m → Contains masks m × (bit_and m first ≡ 0)
  pub every : (m : ℕ) → Contains masks m → bit_and m first ≡ 0 → Contains beside m
  pub few : length beside ≤ length masks

-- the first and the masks together have each bit of the full word once, and no other
abbrev pub FillBeside : ℕ → ℕ → List ℕ → Type 0
FillBeside first full masks = (k : ℕ) → k < 64 → bit_at first k + with_bit k masks ≡ bit_at full k

-- so many choices of the masks beside the first have each bit that it leaves of the full word at most once, and no other
pub record CountsChoices (masks : List ℕ) (first full count : ℕ) : Type 0 where
  pub beside : List ℕ
  pub are : AreBeside masks first beside
  pub count_is : count ≡ partial_covers beside (without full first)

-- such masks; there are none; the nodes were fewer than the choices that have no bit twice
abbrev pub IsFilling : List ℕ → ℕ → ℕ → ℕ → Filling → Type 0
IsFilling masks first full nodes (Filled found) = All (Contains masks) found × FillBeside first full found
IsFilling masks first full nodes None = (found : List ℕ) → All (Contains masks) found → ¬ FillBeside first full found
IsFilling masks first full nodes Open = (count : ℕ) × CountsChoices masks first full count × (nodes < count)
