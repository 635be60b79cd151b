use Rattle.std.proofs.Common.{◌≡◌, Err, arith, rules}
use Rattle.heesch_line.specs.declared.stops.LineStop.TheVariants as stops
use Rattle.heesch_parts.specs.Joining.{kept_of}
use Rattle.heesch_parts.proofs.Feeding.{held_until}
use Rattle.heesch_parts.proofs.scan.Scan.advance.Goals as goal

pub returns-in_err-hold : goal.returns-in_err-hold
returns-in_err-hold c =
    let same : c.from_residual-in_err-hold.result ≡ Err stops.NoMemory = search rules in
    rw same (held_until c.args.line (kept_of c.args.self.now) c.args.reached _ _ c.args.items.now c.settle.new.items c.hold.new.items (omega (arith, c.len.ensures, c.requires.held)) c.in_ok-settle.ensures.ok c.in_err-hold.ensures.err)
