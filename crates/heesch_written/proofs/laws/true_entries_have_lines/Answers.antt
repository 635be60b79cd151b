use Rattle.heesch_written.proofs.EntryLines.{entries_have_lines}
use Rattle.heesch_written.proofs.laws.true_entries_have_lines.Goals as goal

pub returns : goal.returns
returns c = entries_have_lines
