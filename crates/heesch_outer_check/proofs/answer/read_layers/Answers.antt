use Rattle.heesch_outer_check.proofs.Answers.{no_layers_there, none_of, some_of}
use Rattle.heesch_outer_check.proofs.answer.read_layers.Goals as goal

pub returns-in_default-2 : goal.returns-in_default-2
returns-in_default-2 c =
    no_layers_there c.args.bytes.now c.in-Some.lines.items (some_of _ _ c.in_ok-lines.field-0 c.in-Some.lines c.in-Some.is c.in_ok-lines.ensures) (none_of _ _ c.in_ok-layers.field-0 c.in_default-2.is c.in_ok-layers.ensures)
