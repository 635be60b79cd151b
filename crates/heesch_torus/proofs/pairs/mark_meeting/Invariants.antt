use Rattle.std.proofs.Common.{◌+◌, take}
use Rattle.heesch_grid.specs.Cells.{meet, set_of}
use Rattle.heesch_torus.specs.Variables.{sets_of}
use Rattle.heesch_torus.specs.Marks.{Marks}
use Rattle.heesch_torus.proofs.pairs.mark_meeting.Given as goal

abbrev pub invariant-loop-c : goal.invariant-loop-c
invariant-loop-c g l = Marks (λ v. meet (take l.c-index l.c-items) (set_of (sets_of l.incidence.sets.now.variables.now) v)) (l.at + 1) l.initial.marks l.marks
