-- Exact covers of a set of points by some of the given sets. A set is a mask: it has point k where its bit k is 1.
use Rattle.std.specs.Prelude.{◌≡◌, ℕ, ◌+◌, ◌<◌, ◌==◌, Bool, cond, List, [], ◌∷◌, length, slice_index, All, count_by}
use Rattle.std.specs.Int.{bit_at, bit_not, w64}
use Rattle.std.specs.Int.RustNames.{bit_and}
use Rattle.std.specs.List.Sorted.{IsStrictlyIncreasing}
use Rattle.heesch_exact.specs.declared.CoverAnswer.{CoverAnswer}
use Rattle.heesch_exact.specs.declared.CoverAnswer.TheVariants.{Cover, None, Open}

-- whether the set with this number has the point
abbrev pub has_point : List ℕ → ℕ → ℕ → Bool
has_point masks k i = bit_at (slice_index masks i) k == 1

-- the chosen sets, by their numbers from 0 in rising order, have each of the points exactly once, and no other point
pub record IsExactCover (masks : List ℕ) (points : ℕ) (chosen : List ℕ) : Type 0 where
  pub rising : IsStrictlyIncreasing chosen
  pub within : All (λ i. i < length masks) chosen
  pub once : (k : ℕ) → k < 64 → count_by (has_point masks k) chosen ≡ bit_at points k

-- whether each point of the set is one of these
abbrev pub is_within : ℕ → ℕ → Bool
is_within points mask = bit_and mask (bit_not w64 points) == 0

-- the points without those of a set
abbrev pub without : ℕ → ℕ → ℕ
without points mask = bit_and points (bit_not w64 mask)

-- how many choices of the sets have each of the points at most once, and no other: without the first set, and with it
unfoldable pub partial_covers : List ℕ → ℕ → ℕ
partial_covers [] points = 1
partial_covers (mask ∷ masks) points =
    partial_covers masks points + cond (is_within points mask) (partial_covers masks (without points mask)) 0

-- Cover: such a choice; None: there is none; Open: all nodes were used up, and they were fewer than the partial covers
abbrev pub IsAnswer : List ℕ → ℕ → ℕ → ℕ → CoverAnswer → Type 0
IsAnswer masks points nodes left (Cover chosen) = IsExactCover masks points chosen
IsAnswer masks points nodes left None = (chosen : List ℕ) → ¬ IsExactCover masks points chosen
IsAnswer masks points nodes left Open = (left ≡ 0) × (nodes < partial_covers masks points)
