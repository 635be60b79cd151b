-- The counts after one more verdict, and bounds on counts.
use Rattle.std.specs.Prelude.{◌≡◌, ℕ, ◌+◌, ◌≤◌, Some, Bool, if◌then◌else◌, List, All, unwrap_or}
use Rattle.std.specs.List.Sorted.{IsStrictlySortedBy}
use Rattle.std.specs.Map.{keys_of, values_of, lookup}
use Rattle.std.specs.BTreeMap.{is_at, insert_entry}
use Rattle.std.specs.Ordering.{nat_cmp}
use Rattle.heesch_cert.specs.declared.verdict.Kind.TheVariants.{Translation, HalfTurn, Periodic}
use Rattle.heesch_cert.specs.declared.verdict.Verdict.{Verdict}
use Rattle.heesch_table.specs.declared.verdicts.VerdictCounts.{VerdictCounts}
use Rattle.heesch_table.specs.Counts.{Counts}
use Rattle.heesch_table.specs.Verdicts.{tiles_by, is_isohedral, is_levels, is_holes, is_turns, is_size}

-- the count, one more where the test passed
abbrev pub with_one : Bool → ℕ → ℕ
with_one test count = count + (if test then 1 else 0)

-- the counts after one more verdict
abbrev pub with_verdict : Verdict → VerdictCounts → VerdictCounts
with_verdict v c = record {
  translation = with_one (tiles_by Translation v) c.translation;
  halfturn = with_one (tiles_by HalfTurn v) c.halfturn;
  periodic = with_one (tiles_by Periodic v) c.periodic;
  isohedral = with_one (is_isohedral v) c.isohedral;
  levels = with_one (is_levels v) c.levels;
  holes = with_one (is_holes v) c.holes;
  turns = with_one (is_turns v) c.turns;
  size = with_one (is_size v) c.size;
}

-- no count is above n
pub record VerdictsAreWithin (n : ℕ) (c : VerdictCounts) : Type 0 where
  pub translation : c.translation ≤ n
  pub halfturn : c.halfturn ≤ n
  pub periodic : c.periodic ≤ n
  pub isohedral : c.isohedral ≤ n
  pub levels : c.levels ≤ n
  pub holes : c.holes ≤ n
  pub turns : c.turns ≤ n
  pub size : c.size ≤ n

-- no count is above the number of shapes
pub record AreAtMostShapes (c : Counts) : Type 0 where
  pub holed : c.holed ≤ c.shapes
  pub verdicts : VerdictsAreWithin c.shapes c.verdicts
  pub heesch : All (λ count. count ≤ c.shapes) (values_of c.heesch)

-- the count of a Heesch number, which is 0 where it doesn't occur
abbrev pub heesch_count : List (ℕ × ℕ) → ℕ → ℕ
heesch_count entries number = unwrap_or (lookup (is_at (nat_cmp number)) entries) 0

-- the count of one number is one more, and the numbers still rise
pub record RaisesCount (number : ℕ) (old new : List (ℕ × ℕ)) : Type 0 where
  pub entries : new ≡ insert_entry nat_cmp old number (heesch_count old number + 1)
  pub counts : (other : ℕ) → lookup (is_at (nat_cmp other)) new ≡ (if is_at (nat_cmp number) other then Some (heesch_count old number + 1) else lookup (is_at (nat_cmp other)) old)
  pub rising : IsStrictlySortedBy nat_cmp (keys_of new)
