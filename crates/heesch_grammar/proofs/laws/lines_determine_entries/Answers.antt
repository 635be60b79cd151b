use Rattle.heesch_grammar.proofs.Again.{same_entry}
use Rattle.heesch_grammar.proofs.laws.lines_determine_entries.Goals as goal

pub returns : goal.returns
returns c = same_entry
