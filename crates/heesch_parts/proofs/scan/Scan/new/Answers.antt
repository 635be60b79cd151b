use Rattle.std.proofs.Common.{refl}
use Rattle.heesch_parts.proofs.Feeding.{nothing_fed}
use Rattle.heesch_parts.specs.Joining.{kept_of}
use Rattle.heesch_parts.proofs.scan.Scan.new.Goals as goal

pub returns : goal.returns
returns c = nothing_fed (kept_of (record { alloc = c.args.alloc; stage = c.start.result; held = c.new.result; line = c.new-2.result; lines = 0 })) c.start.ensures c.new.ensures.items c.new-2.ensures.items refl
