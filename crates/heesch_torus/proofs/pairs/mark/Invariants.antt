use Rattle.std.proofs.Common.{◌==◌, take}
use Rattle.std.specs.List.{list_any}
use Rattle.heesch_torus.specs.Marks.{Marks}
use Rattle.heesch_torus.proofs.pairs.mark.Given as goal

abbrev pub invariant-loop-var : goal.invariant-loop-var
invariant-loop-var l = Marks (λ v. list_any (λ w. w == v) (take l.var-index l.variables)) l.number l.initial.marks l.marks
