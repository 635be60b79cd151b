-- How many shapes of a list have each property. A shape stands there by whether it has a hole, and its verdict.
use Rattle.std.specs.Prelude.{ℕ, max, Bool, List, [], ◌∷◌, map, length, filter, count_by}
use Rattle.std.specs.List.{list_any, range_with_len}
use Rattle.heesch_cert.specs.declared.verdict.Kind.TheVariants.{Translation, HalfTurn, Periodic}
use Rattle.heesch_cert.specs.declared.verdict.Verdict.{Verdict}
use Rattle.heesch_table.specs.declared.verdicts.VerdictCounts.{VerdictCounts}
use Rattle.heesch_table.specs.Verdicts.{tiles_by, is_isohedral, has_heesch, is_levels, is_holes, is_turns, is_size, above_heesch}

-- the tilings by kind, and those with one class of tiles; and the undecided verdicts by why they are
abbrev pub verdict_counts : List Verdict → VerdictCounts
verdict_counts verdicts = record {
  translation = count_by (tiles_by Translation) verdicts;
  halfturn = count_by (tiles_by HalfTurn) verdicts;
  periodic = count_by (tiles_by Periodic) verdicts;
  isohedral = count_by is_isohedral verdicts;
  levels = count_by is_levels verdicts;
  holes = count_by is_holes verdicts;
  turns = count_by is_turns verdicts;
  size = count_by is_size verdicts;
}

-- a number above all Heesch numbers that occur
abbrev pub above_all : List Verdict → ℕ
above_all [] = 0
above_all (verdict ∷ verdicts) = max (above_heesch verdict) (above_all verdicts)

-- the Heesch numbers that occur, rising
abbrev pub heesch_numbers : List Verdict → List ℕ
heesch_numbers verdicts = filter (λ number. list_any (has_heesch number) verdicts) (range_with_len 0 (above_all verdicts))

-- each of them with how often it occurs
abbrev pub heesch_of : List Verdict → List (ℕ × ℕ)
heesch_of verdicts = map (λ number. (number, count_by (has_heesch number) verdicts)) (heesch_numbers verdicts)

-- the counts of a list of shapes
pub record Counts : Type 0 where
  pub shapes : ℕ
  pub holed : ℕ
  pub verdicts : VerdictCounts
  pub heesch : List (ℕ × ℕ)

-- the verdicts of the shapes
abbrev pub verdicts_of : List (Bool × Verdict) → List Verdict
verdicts_of found = map (λ f. f.1) found

-- all shapes, those with a hole, and the counts of their verdicts
abbrev pub counts_of : List (Bool × Verdict) → Counts
counts_of found = record {
  shapes = length found;
  holed = count_by (λ f. f.0) found;
  verdicts = verdict_counts (verdicts_of found);
  heesch = heesch_of (verdicts_of found);
}
