use Rattle.std.proofs.Common.{◌≡◌, rules}
use Rattle.heesch_parts.specs.Joining.{MayGoOn, refusal_of, kept_of}
use Rattle.heesch_parts.proofs.Finishing.{goes_unless}
use Rattle.heesch_parts.proofs.joiner.Joiner.feed.Goals as goal

pub invariant_of-self : goal.invariant_of-self
invariant_of-self c =
    let refusal : c.err-self-inside.result ≡ refusal_of c.take_bytes-result.result = search rules in
    let going : MayGoOn (kept_of c.self.inside.scan) = search rules in
    goes_unless c.take_bytes-result.result c.err-self-inside.result (kept_of c.self.inside.scan) (kept_of c.take_bytes-result.new.self) c.args.piece.now c.args.items.now c.take_bytes-result.new.items refusal going c.take_bytes-result.ensures.fed c.take_bytes-result.ensures.room
