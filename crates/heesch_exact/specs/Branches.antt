-- What a branch of the search is: the points that are left, and the candidates that may still be chosen for them.
use Rattle.std.specs.Prelude.{◌≡◌, ℕ, ◌+◌, ◌<◌, ◌≤◌, ◌==◌, Bool, List, length, slice_index, map, All, filter}
use Rattle.std.specs.Int.{bit_at}
use Rattle.std.specs.Int.RustNames.{bit_and}
use Rattle.std.specs.List.{sum_by, Contains}
use Rattle.heesch_exact.specs.Covers.{without, partial_covers}
use Rattle.heesch_exact.specs.declared.search.Ending.{Ending}
use Rattle.heesch_exact.specs.declared.search.Ending.TheVariants.{Covered, Failed, Open}

-- how many of the sets with these numbers have the point
abbrev pub times : List ℕ → List ℕ → ℕ → ℕ
times masks numbers k = sum_by (λ i. bit_at (slice_index masks i) k) numbers

-- whether the set with this number has no point of the mask
abbrev pub is_apart : List ℕ → ℕ → ℕ → Bool
is_apart masks mask i = bit_and (slice_index masks i) mask == 0

-- every point of the first mask is one of the second
abbrev pub IsPart : ℕ → ℕ → Type 0
IsPart mask points = (k : ℕ) → bit_at mask k ≤ bit_at points k

-- there are sets with these numbers, and each has points of the branch alone
abbrev pub AreCandidates : List ℕ → ℕ → List ℕ → Type 0
AreCandidates masks points numbers = All (λ i. (i < length masks) × IsPart (slice_index masks i) points) numbers

-- no candidates have each point exactly once
abbrev pub HasNoCover : List ℕ → ℕ → List ℕ → Type 0
HasNoCover masks points candidates =
    (numbers : List ℕ) → All (Contains candidates) numbers → ¬ ((k : ℕ) → times masks numbers k ≡ bit_at points k)

-- the sets with these numbers are there, and have points
abbrev pub AreSets : List ℕ → List ℕ → Type 0
AreSets masks numbers = All (λ i. (i < length masks) × (0 < slice_index masks i)) numbers

-- what was chosen behind the sets of `before` has each of the points once more, and no other point
pub record AreAdded (masks : List ℕ) (points : ℕ) (before after : List ℕ) : Type 0 where
  pub sets : AreSets masks before → AreSets masks after
  pub once : (k : ℕ) → times masks after k ≡ times masks before k + bit_at points k

-- how many choices of the sets with these numbers have each of the points at most once, and no other point
abbrev pub ways : List ℕ → List ℕ → ℕ → ℕ
ways masks candidates points = partial_covers (map (λ i. slice_index masks i) candidates) points

-- Covered: the points are covered; Failed: these candidates don't cover them; Open: all nodes were used, and too few
abbrev pub IsEnding : List ℕ → ℕ → List ℕ → List ℕ → List ℕ → ℕ → ℕ → Ending → Type 0
IsEnding masks points candidates before after nodes left Covered = AreAdded masks points before after
IsEnding masks points candidates before after nodes left Failed = (after ≡ before) × HasNoCover masks points candidates
IsEnding masks points candidates before after nodes left Open = (left ≡ 0) × (nodes < ways masks candidates points)

-- where the set has the point, the candidates apart from it don't cover the points without its own
abbrev pub IsTried : List ℕ → ℕ → List ℕ → ℕ → ℕ → Type 0
IsTried masks points candidates point i =
    let mask = slice_index masks i in
    bit_at mask point ≡ 1 → HasNoCover masks (without points mask) (filter (is_apart masks mask) candidates)
