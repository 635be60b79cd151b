-- What the search answers.
use Rattle.std.specs.Prelude.{◌≡◌, ℕ, ◌*◌, ◌^◌, ◌≤◌, List, length, All}
use Rattle.std.specs.List.{AllZip}
use Rattle.heesch_grid.specs.declared.Cell.{Cell}
use Rattle.heesch_grid.specs.declared.isometries.Iso.{Iso}
use Rattle.heesch_grid.specs.Listing.{IsRising}
use Rattle.heesch_grid.specs.Cells.{cells_before}
use Rattle.heesch_grid.specs.Geometry.{Geometry, IsIsometry}
use Rattle.heesch_grid.specs.Lattice.{Triple}
use Rattle.heesch_grid.specs.Tiling.{IsPeriodicCover}
use Rattle.heesch_grid.specs.TorusFormula.{IsWithinTriple, IsIsometryOf, IsTorusFormula}
use Rattle.heesch_cnf.specs.declared.literal.Lit.{Lit}
use Rattle.heesch_cnf.specs.declared.log.Log.{Log}
use Rattle.heesch_cnf.specs.Lines.{clauses_with, FinalHolds, LinesAreNew}
use Rattle.heesch_cert.specs.Literals.{literals}
use Rattle.heesch_cert.specs.declared.tiling.Tiling.{Tiling}
use Rattle.heesch_cert.specs.Proofs.{RefutesTorus, IsSpentOnTorus, HasNoGiven}
use Rattle.heesch_torus.specs.declared.answer.TorusAnswer.{TorusAnswer}
use Rattle.heesch_torus.specs.declared.answer.TorusAnswer.TheVariants.{Tiles, None, Spent}

-- the places are the isometries of some variables of the torus formula, in number order: that of their cell lists
pub record AreChosenPlaces (g : Geometry) (shape : List Cell) (t : Triple) (places : List Iso) : Type 0 where
  pub sets : List (List Cell)
  pub rising : IsRising cells_before sets
  pub isometries : AllZip (IsIsometryOf g shape t) sets places
  pub within : All (λ by. IsIsometry g by × IsWithinTriple t by) places

-- the tiling is a periodic cover of the triple by such places, as many as the triple's domain has tiles
pub record IsChosenCover (g : Geometry) (shape : List Cell) (t : Triple) (tiling : Tiling) : Type 0 where
  pub triple : tiling.triple ≡ t
  pub cover : IsPeriodicCover g shape t tiling.places
  pub count : g.per * (t.p * t.q) ≡ length shape * length tiling.places
  pub chosen : AreChosenPlaces g shape t tiling.places

-- no line of the log contains a clause of the torus formula or of a line before it
pub record HasNewLines (g : Geometry) (shape : List Cell) (t : Triple) (log : Log) : Type 0 where
  pub sets : List (List Cell)
  pub clauses : List (List Lit)
  pub is_formula : IsTorusFormula literals g shape t sets clauses
  pub new_lines : LinesAreNew clauses log.lines

-- the log has Learn lines alone, all of them new, and refutes the torus formula; and the triple has no cover
pub record IsRefutation (g : Geometry) (shape : List Cell) (t : Triple) (log : Log) : Type 0 where
  pub alone : HasNoGiven log
  pub refutes : RefutesTorus g shape t log
  pub new_lines : HasNewLines g shape t log
  pub none : (places : List Iso) → ¬ IsPeriodicCover g shape t places

-- over the torus formula and the lines of the log no final line holds, whatever its hints; and the turns are at most 3 to the power of the number of its variables
pub record IsUnfinished (g : Geometry) (shape : List Cell) (t : Triple) (turns : ℕ) (log : Log) : Type 0 where
  pub sets : List (List Cell)
  pub clauses : List (List Lit)
  pub is_formula : IsTorusFormula literals g shape t sets clauses
  pub no_final : (hints : List ℕ) → ¬ FinalHolds (clauses_with clauses log.lines) hints
  pub few : turns ≤ 3 ^ length sets

-- the log has Learn lines alone, is spent on the torus formula for these turns, and is unfinished
pub record IsSpentSearch (g : Geometry) (shape : List Cell) (t : Triple) (turns : ℕ) (log : Log) : Type 0 where
  pub alone : HasNoGiven log
  pub spent : IsSpentOnTorus g shape turns t log
  pub unfinished : IsUnfinished g shape t turns log

-- Tiles: such a cover; None: such a log; Spent: a log that is spent, over which no final line holds
abbrev pub IsTorusAnswer : Geometry → List Cell → Triple → ℕ → TorusAnswer → Type 0
IsTorusAnswer g shape t turns (Tiles tiling) = IsChosenCover g shape t tiling
IsTorusAnswer g shape t turns (None log) = IsRefutation g shape t log
IsTorusAnswer g shape t turns (Spent log) = IsSpentSearch g shape t turns log
