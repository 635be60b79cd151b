use Rattle.heesch_line.proofs.ListLaws.{HasRead}
use Rattle.heesch_line.proofs.list.read_lines.Given as goal

abbrev pub invariant-loop-before : goal.invariant-loop-before
invariant-loop-before l = HasRead l.text l.shapes l.before l.rest
