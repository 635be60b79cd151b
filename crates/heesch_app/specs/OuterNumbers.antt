-- The outer numbers that a run writes.
use Rattle.std.specs.Prelude.{ℕ, List, Option}
use Rattle.std.specs.Io.KnownBytes.{Appends}
use Rattle.heesch_grid.specs.declared.Cell.{Cell}
use Rattle.heesch_grid.specs.declared.GridName.{GridName}
use Rattle.heesch_grid.specs.Names.{geometry_of}
use Rattle.heesch_grid.specs.Polyform.{IsFreeList}
use Rattle.heesch_cert.specs.declared.header.Subject.{Subject}
use Rattle.heesch_cert.specs.declared.header.Subject.TheVariants.{Size, Given}
use Rattle.heesch_cert.specs.declared.limits.Limits.{Limits}
use Rattle.heesch_given.specs.Given.{GivesShapes}
use Rattle.heesch_outer.specs.declared.answers.OuterEntry.{OuterEntry}
use Rattle.heesch_outer.specs.Outers.{AreOuterEntries, outers_text}
use Rattle.heesch_reader.specs.Taking.{input_max}

-- the shapes that are asked for: those of the free list of the size; or the canonical lists of the lines, in their order, of the list text that the source had left
abbrev pub AreAskedShapes : GridName → Subject → Option (List ℕ) → List (List Cell) → Type 0
AreAskedShapes grid (Size n) left shapes = IsFreeList (geometry_of grid) n shapes
AreAskedShapes grid Given left shapes = GivesShapes input_max (geometry_of grid) left shapes

-- Known bytes grow by an outer text of these shapes: of each in order the text of a true entry with a right verdict under the limits, and then the record of an answer that `check_outer` accepts for this entry, which tells the outer number, and where it is spent, has steps that leave the formula open; and at last the line `end COUNT` with their number.
pub record WritesOuters (grid : GridName) (subject : Subject) (limits : Limits) (left old new : Option (List ℕ)) : Type 0 where
  pub shapes : List (List Cell)
  pub asked : AreAskedShapes grid subject left shapes
  pub entries : List OuterEntry
  pub answered : AreOuterEntries (geometry_of grid) limits shapes entries
  pub written : Appends old new (outers_text entries)
