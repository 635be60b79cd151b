use Rattle.std.proofs.Common.{◌≡◌, take}
use Rattle.heesch_audit.proofs.cover.are_same_members.Given as goal

abbrev pub invariant-loop-i : goal.invariant-loop-i
invariant-loop-i l = take l.i l.found ≡ take l.i l.written
