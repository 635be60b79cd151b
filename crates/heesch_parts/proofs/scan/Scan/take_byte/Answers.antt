use Rattle.std.proofs.Common.{◌≡◌, [], ◌∷◌, Err, refl, rules}
use Rattle.heesch_line.specs.declared.stops.LineStop.TheVariants as stops
use Rattle.heesch_parts.specs.Joining.{kept_of}
use Rattle.heesch_parts.proofs.Feeding.{byte_fed, refused_before}
use Rattle.heesch_parts.proofs.scan.Scan.take_byte.Goals as goal

pub returns-clause-fed : goal.returns-clause-fed
returns-clause-fed c = λ before given fed.
    byte_fed before given c.args.items.now (kept_of c.args.self.now)
    (kept_of (record { alloc = c.args.self.now.alloc; stage = c.args.self.now.stage; held = c.args.self.now.held; line = c.push.new.self; lines = c.args.self.now.lines })) c.args.byte fed c.if-byte-eq10.false refl refl refl
    c.in_ok-push.ensures.items

pub returns-in_err-push-clause-fed : goal.returns-in_err-push-clause-fed
returns-in_err-push-clause-fed c = λ before given fed.
    let same : c.from_residual.result ≡ Err stops.NoMemory = search rules in
    rw same (tt, refused_before before (c.args.byte ∷ []) given c.args.items.now (kept_of c.args.self.now) fed)
