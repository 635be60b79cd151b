use Rattle.heesch_cert.proofs.PlainKept.{plain_tilings_are_kept}
use Rattle.heesch_cert.proofs.laws.plain_tilings_are_kept.Goals as goal

pub returns : goal.returns
returns c = plain_tilings_are_kept
