use Rattle.heesch_grammar.proofs.Heading.{begin, brief_ends}
use Rattle.heesch_grammar.proofs.entries.brief_of.Goals as goal

pub take_heading-requires : goal.take_heading-requires
take_heading-requires c = begin _ _ c.requires

pub returns : goal.returns
returns c = brief_ends _ _ _ _ c.requires c.take_heading.ensures
