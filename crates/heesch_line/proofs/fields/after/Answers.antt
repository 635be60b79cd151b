use Rattle.heesch_line.proofs.Literals.{literal_answer}
use Rattle.heesch_line.proofs.fields.after.Goals as goal

pub returns : goal.returns
returns c = literal_answer c.args.word.now c.args.bytes.now c.strip_prefix.result c.strip_prefix.ensures.cases
