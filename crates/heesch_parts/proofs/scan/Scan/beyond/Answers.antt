use Rattle.heesch_parts.specs.Joining.{kept_of}
use Rattle.heesch_parts.proofs.Feeding.{goes_beyond}
use Rattle.heesch_parts.proofs.scan.Scan.beyond.Goals as goal

pub returns : goal.returns
returns c = λ before given fed. goes_beyond before given (kept_of c.args.self.now) c.fault.result fed c.fault.ensures
