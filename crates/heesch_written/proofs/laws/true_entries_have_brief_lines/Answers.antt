use Rattle.heesch_written.proofs.EntryLines.{entries_have_brief_lines}
use Rattle.heesch_written.proofs.laws.true_entries_have_brief_lines.Goals as goal

pub returns : goal.returns
returns c = entries_have_brief_lines
