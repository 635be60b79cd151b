use Rattle.std.proofs.Common.{◌-◌, arith}
use Rattle.heesch_tori.specs.Rows.{bit_number}
use Rattle.heesch_tori.proofs.Bits.{marks_more, marks_whole}
use Rattle.heesch_tori.proofs.rows.mark_cell.Goals as goal

pub loop-var-preserved : goal.loop-var-preserved
loop-var-preserved c = marks_more (λ v. bit_number c.args.width (v - 1) c.args.cell) c.args.words.now c.loop-var.words c.set_bit.new.words c.args.variables.now c.loop-var.var-index c.loop-var-test.true c.loop-var.invariant c.set_bit.ensures

pub returns : goal.returns
returns c = marks_whole (λ v. bit_number c.args.width (v - 1) c.args.cell) c.args.words.now c.loop-var.words c.args.variables.now c.loop-var.var-index (omega (arith, c.loop-var-test.false)) c.loop-var.invariant
