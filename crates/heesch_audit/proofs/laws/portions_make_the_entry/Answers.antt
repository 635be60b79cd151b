use Rattle.heesch_audit.proofs.Portions.{portions_make_the_entry}
use Rattle.heesch_audit.proofs.laws.portions_make_the_entry.Goals as goal

pub returns : goal.returns
returns c = portions_make_the_entry
