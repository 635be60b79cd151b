use Rattle.std.proofs.Common.{take}
use Rattle.std.specs.Prelude.{flat_map}
use Rattle.heesch_encode.specs.Marks.{Changes}
use Rattle.heesch_encode.specs.Meeting.{covering_after}
use Rattle.heesch_encode.proofs.meeting.change_meeting.Given as goal

abbrev pub invariant-loop-c : goal.invariant-loop-c
invariant-loop-c g l = Changes l.change l.fn.marks.words.items l.marks.words.items (flat_map (covering_after l.universe.vars l.above l.most) (take l.c-index l.cells))
