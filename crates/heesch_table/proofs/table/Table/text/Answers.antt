use Rattle.std.proofs.Common.{◌++◌, ap, ◌∙◌}
use Rattle.heesch_table.specs.Texts.{counts_text}
use Rattle.heesch_table.proofs.table.Table.text.Goals as goal

pub returns : goal.returns
returns c = λ found e. c.in_ok-write.ensures.ok ∙ ap (λ x. x ++ counts_text c.args.self.now.tally) c.new-text.ensures.items ∙ ap counts_text e
