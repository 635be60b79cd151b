use Rattle.std.proofs.Common.{◌≡◌, rules, ◌+◌, ◌<◌, length, get_or, arith}
use Rattle.heesch_place.specs.Spots.{IsSet}
use Rattle.heesch_place.proofs.Gathering.{member_at, from_none, from_more, from_all}
use Rattle.heesch_place.proofs.Marks.{set_joins}
use Rattle.heesch_place.proofs.spots.set_all.Goals as goal

pub overflow_add-marks : goal.overflow_add-marks
overflow_add-marks c =
    let h = c.requires (get_or c.args.offsets.now c.loop-offset.offset-index 0) (member_at c.args.offsets.now c.loop-offset.offset-index 0 c.loop-offset-test.true) in
    search rules

pub bounds-marks-base : goal.bounds-marks-base
bounds-marks-base c =
    let h = c.requires (get_or c.args.offsets.now c.loop-offset.offset-index 0) (member_at c.args.offsets.now c.loop-offset.offset-index 0 c.loop-offset-test.true) in
    omega (arith, h, c.loop-offset.auto.marks)

pub loop-offset-preserved : goal.loop-offset-preserved
loop-offset-preserved c =
    let l = c.loop-offset in
    let n = c.args.base + get_or c.args.offsets.now l.offset-index 0 in
    let less : n < length l.marks = (let h = c.requires (get_or c.args.offsets.now l.offset-index 0) (member_at c.args.offsets.now l.offset-index 0 c.loop-offset-test.true) in omega (arith, h, l.auto.marks)) in
    from_more (λ offset place. place ≡ c.args.base + offset) c.args.offsets.now l.offset-index 0 (IsSet c.args.marks.now) (IsSet l.marks) _ c.loop-offset-test.true l.invariant (set_joins l.marks n less)

pub loop-offset-init : goal.loop-offset-init
loop-offset-init c = from_none (λ offset place. place ≡ c.args.base + offset) c.args.offsets.now (IsSet c.args.marks.now)

pub returns : goal.returns
returns c =
    let l = c.loop-offset in
    from_all (λ offset place. place ≡ c.args.base + offset) c.args.offsets.now l.offset-index (IsSet c.args.marks.now) (IsSet l.marks) (omega (arith, c.loop-offset-test.false, l.auto.offset-index-end)) l.invariant
