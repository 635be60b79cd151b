use Rattle.std.proofs.Common.{◌≡◌, ◌+◌, ◌*◌, sym, subst}
use Rattle.heesch_region.specs.Bits.{AreSettled}
use Rattle.heesch_region.proofs.Rows.{narrowed_one, narrowed_then, settled_one, fewer_then, same_then, or_false}
use Rattle.heesch_region.proofs.bits.narrow.Goals as goal

pub loop-k-preserved : goal.loop-k-preserved
loop-k-preserved c =
    let allowed = c.args.allowed.now in
    let old = c.args.words.now in
    let mid = c.loop-k.words in
    let new = c.narrow_word-cleared.new.words in
    let to = c.args.to in
    let from = c.args.from in
    let count = c.args.count in
    let k = c.loop-k.k in
    let step = c.narrow_word-cleared.ensures in
    let was = c.loop-k.invariant in
    record {
      bits = narrowed_then was.bits (narrowed_one allowed mid new to from count k c.loop-k-test.true step.here step.other);
      fewer = fewer_then c.loop-k.cleared c.narrow_word-cleared.result was.fewer was.same step.fewer step.same;
      same = same_then c.loop-k.cleared c.narrow_word-cleared.result was.same step.same;
      settled = λ h.
          let both = or_false c.loop-k.cleared c.narrow_word-cleared.result h in
          let same : mid ≡ old = was.same both.0 in
          subst (λ ws. AreSettled allowed ws to from (64 * (k + 1))) same (settled_one allowed mid new to from count k c.loop-k-test.true step.here step.other (step.same both.1) (subst (λ ws. AreSettled allowed ws to from (64 * k)) (sym same) (was.settled both.0)));
    }
