use Rattle.heesch_line.proofs.LineAnswers.{read_ok, read_not}
use Rattle.heesch_line.proofs.line_reading.read_line.Goals as goal

pub returns-clause-ok : goal.returns-clause-ok
returns-clause-ok c = read_ok c.args.bytes.now c.whole_line.result c.whole_line.ensures.gives

pub returns-clause-not_a_line : goal.returns-clause-not_a_line
returns-clause-not_a_line c = read_not c.args.bytes.now c.whole_line.result c.whole_line.ensures.gives
