use Rattle.std.proofs.Common.{pos, sym, ◌∙◌, arith}
use Rattle.heesch_grid.specs.Cells.{cell}
use Rattle.heesch_torus.proofs.Repeating.{repeat_at, differ_more}
use Rattle.heesch_torus.proofs.residues.has_repeat.Goals as goal

pub returns-then-eq-clause-repeat : goal.returns-then-eq-clause-repeat
returns-then-eq-clause-repeat c = λ _. repeat_at c.args.cells.now c.loop-i.i (cell (pos 0) (pos 0)) (omega arith) (omega arith) (sym c.eq.ensures ∙ c.if-eq.true)

pub loop-i-preserved : goal.loop-i-preserved
loop-i-preserved c = differ_more c.args.cells.now c.loop-i.i (cell (pos 0) (pos 0)) (omega arith) (omega arith) (sym c.eq.ensures ∙ c.if-eq.false) c.loop-i.invariant
