use Rattle.std.proofs.Common.{◌≡◌, map, filter, take}
use Rattle.std.specs.List.{enumerate_from}
use Rattle.heesch_cuts.specs.Marks.{is_marked}
use Rattle.heesch_cuts.proofs.parts.Spread.cells.Given as goal

abbrev pub invariant-loop-i : goal.invariant-loop-i
invariant-loop-i l = l.part ≡ map (λ x. x.1) (filter (λ x. is_marked l.self.reached.items x.0) (take l.i (enumerate_from 0 l.hole)))
