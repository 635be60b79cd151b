-- Marks by the numbers of variables.
use Rattle.std.specs.Prelude.{◌≡◌, ℕ, ◌<◌, ◌≤◌, Bool, cond, List, length, slice_index}

-- the variables that pass the test have this mark, and the others the one that they had
pub record Marks (test : ℕ → Bool) (mark : ℕ) (old new : List ℕ) : Type 0 where
  pub same : length new ≡ length old
  pub each : (v : ℕ) → 1 ≤ v → v < length old → slice_index new v ≡ cond (test v) mark (slice_index old v)
