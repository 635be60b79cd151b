use Rattle.std.proofs.Common.{take}
use Rattle.heesch_region.proofs.Boxes.{IsSpan}
use Rattle.heesch_region.proofs.window.Window.around.Given as goal

abbrev pub invariant-loop-c : goal.invariant-loop-c
invariant-loop-c g l = IsSpan l.cells (take l.c-index l.cells) l.span.low l.span.high
