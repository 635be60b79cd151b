use Rattle.std.proofs.Common.{◌<◌, ◌-◌, sym, ◌∙◌, subst, length, drop, filter, take, arith}
use Rattle.heesch_exact.specs.Branches.{is_apart}
use Rattle.heesch_exact.proofs.Listing.{candidate_below, within_drop, written, byte_is, byte_at_most}
use Rattle.heesch_exact.proofs.candidates.push_apart.Goals as goal

pub bounds-masks-number : goal.bounds-masks-number
bounds-masks-number c =
    let old = c.args.candidates.now.items in
    let was = c.loop-k.invariant in
    let k = c.loop-k.k in
    let kept = filter (is_apart c.args.masks.now c.args.mask) (take (k - c.args.from) (drop c.args.from old)) in
    let less : k < length old = omega arith in
    let at = candidate_below old c.loop-k.candidates.items kept c.args.from k c.loop-k.top c.index-number.result.now was.kept c.loop-k.auto.k less (omega (arith, was.low)) c.index-number.ensures in
    subst (λ n. n < length c.args.masks.now) (sym at) (c.requires.within (k - c.args.from) 0 (within_drop old c.args.from k c.loop-k.auto.k less))

pub loop-k-preserved : goal.loop-k-preserved
loop-k-preserved c =
    let old = c.args.candidates.now.items in
    let was = c.loop-k.invariant in
    let k = c.loop-k.k in
    let test = is_apart c.args.masks.now c.args.mask in
    let kept = filter test (take (k - c.args.from) (drop c.args.from old)) in
    let less : k < length old = omega arith in
    let at = candidate_below old c.loop-k.candidates.items kept c.args.from k c.loop-k.top c.index-number.result.now was.kept c.loop-k.auto.k less (omega (arith, was.low)) c.index-number.ensures in
    let kept_here = test c.index-number.result.now in
    let one = c.from-top.ensures ∙ byte_is kept_here in
    let most = byte_at_most kept_here c.from-top.result one in
    record {
      long = was.long;
      kept = written test old c.loop-k.candidates.items c.args.from k c.loop-k.top c.index-number.result.now c.from-top.result was.kept at c.loop-k.auto.k less (omega (arith, was.high, was.long)) one;
      low = omega (arith, was.low);
      high = omega (arith, was.high, most);
    }
