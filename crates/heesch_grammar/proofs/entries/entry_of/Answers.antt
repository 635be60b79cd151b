use Rattle.heesch_grammar.proofs.Heading.{begin, lead_behind}
use Rattle.heesch_grammar.proofs.entries.entry_of.Goals as goal

pub take_heading-cells-requires : goal.take_heading-cells-requires
take_heading-cells-requires c = begin _ _ c.requires

pub take_evidence-requires : goal.take_evidence-requires
take_evidence-requires c = lead_behind _ _ _ _ c.requires c.take_heading-cells.ensures
