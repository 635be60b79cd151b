-- Samples: tallies of polyforms that are grown one after the other from a seed.
use Rattle.std.specs.Prelude.{◌≡◌, ℕ, zero, suc, ◌*◌, ◌-◌, Bool, List, [], ◌∷◌, ◌++◌}
use Rattle.std.specs.List.{AllZip}
use Rattle.heesch_grid.specs.declared.Cell.{Cell}
use Rattle.heesch_grid.specs.Geometry.{Geometry}
use Rattle.heesch_grid.specs.Polyform.{IsCanonicalListOf}
use Rattle.heesch_grow.specs.Generator.{IsGrownBy, state_after}
use Rattle.heesch_cert.specs.declared.entry.Entry.{Entry}
use Rattle.heesch_cert.specs.declared.limits.Limits.{Limits}
use Rattle.heesch_cert.specs.declared.verdict.Verdict.{Verdict}
use Rattle.heesch_catalogue.specs.Catalogues.{AreEntries}
use Rattle.heesch_table.specs.Counts.{Counts, counts_of}
use Rattle.heesch_table.specs.Holed.{IsHoled}
use Rattle.heesch_table.specs.Texts.{tally_text}

-- the list is the canonical list of the polyform of n cells that is grown from this state
pub record IsGrownForm (g : Geometry) (n state : ℕ) (shape : List Cell) : Type 0 where
  pub cells : List Cell
  pub grown : IsGrownBy g state (n - 1) cells
  pub canonical : IsCanonicalListOf g cells shape

-- the shapes are so many polyforms of n cells, grown one after the other: the first from the seed, and each further one from the state that the n - 1 draws of each earlier one left
abbrev pub AreGrown : Geometry → ℕ → ℕ → ℕ → List (List Cell) → Type 0
AreGrown g n seed zero shapes = shapes ≡ []
AreGrown g n seed (suc earlier) shapes = (before : List (List Cell)) × (last : List Cell) × AreGrown g n seed earlier before × IsGrownForm g n (state_after (earlier * (n - 1)) seed) last × (shapes ≡ before ++ last ∷ [])

-- what is tallied of an entry: whether its shape has a hole, and its verdict
pub record IsFound (g : Geometry) (entry : Entry) (found : Bool × Verdict) : Type 0 where
  pub holed : IsHoled g entry.cells found.0
  pub verdict : found.1 ≡ entry.verdict

-- the output is the tally of the entries
abbrev pub IsTallyOf : Geometry → List Entry → List ℕ → Type 0
IsTallyOf g entries output = (found : List (Bool × Verdict)) × AllZip (IsFound g) entries found × (output ≡ tally_text found)

-- the counts are those of what is found of the entries
pub record AreCountsOf (g : Geometry) (entries : List Entry) (counts : Counts) : Type 0 where
  pub found : List (Bool × Verdict)
  pub are_found : AllZip (IsFound g) entries found
  pub counts_are : counts ≡ counts_of found

-- the counts are those of entries of these shapes, true under the grid and the limits
abbrev pub HaveCounts : Geometry → Limits → List (List Cell) → Counts → Type 0
HaveCounts g limits shapes counts = (entries : List Entry) × AreEntries g limits shapes entries × AreCountsOf g entries counts

-- the output is the tally of the entries, true under the grid and the limits, of so many polyforms of n cells that are grown from the seed
pub record IsSample (g : Geometry) (n count seed : ℕ) (limits : Limits) (output : List ℕ) : Type 0 where
  pub shapes : List (List Cell)
  pub are_grown : AreGrown g n seed count shapes
  pub entries : List Entry
  pub are_entries : AreEntries g limits shapes entries
  pub is_tally : IsTallyOf g entries output
