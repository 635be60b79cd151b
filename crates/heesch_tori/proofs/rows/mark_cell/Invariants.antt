use Rattle.std.proofs.Common.{◌-◌, map, take}
use Rattle.heesch_encode.specs.Marks.{Marking}
use Rattle.heesch_tori.specs.Rows.{bit_number}
use Rattle.heesch_tori.proofs.rows.mark_cell.Given as goal

abbrev pub invariant-loop-var : goal.invariant-loop-var
invariant-loop-var l = Marking l.fn.words l.words (map (λ v. bit_number l.width (v - 1) l.cell) (take l.var-index l.variables))
