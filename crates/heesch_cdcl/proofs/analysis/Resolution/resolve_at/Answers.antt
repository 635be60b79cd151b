use Rattle.std.proofs.Common.{◌≡◌, [], ◌∷◌, ◌++◌, reverse, ap, sym, subst, ◌∙◌, arith, rules}
use Rattle.heesch_trail.specs.State.{level_of}
use Rattle.heesch_cdcl.specs.Marking.{MarksClause, AreMarks, marked, pending_in}
use Rattle.heesch_cdcl.proofs.Resolving.{Resolving-skip, reason_says, has_reason}
use Rattle.heesch_cdcl.proofs.ReadSteps.{Resolving-read, form_of, read_before, read_here, reason_is, some_pending}
use Rattle.heesch_cdcl.proofs.analysis.Resolution.resolve_at.Goals as goal

pub is_seen-requires : goal.is_seen-requires
is_seen-requires c =
    let r = read_before c.args.trail.now c.args.place c.made.result.now c.made.ensures.valid c.made.ensures.made c.requires.resolving.derived.place_in in
    omega (arith, r.var, r.at.holds.high, c.requires.resolving.derived.marks.seen_room)

pub returns-then-not-is_seen-clause-resolving : goal.returns-then-not-is_seen-clause-resolving
returns-then-not-is_seen-clause-resolving c =
    let r = read_before c.args.trail.now c.args.place c.made.result.now c.made.ensures.valid c.made.ensures.made c.requires.resolving.derived.place_in in
    let m = c.args.self.now.marks in
    let off = sym c.is_seen.ensures ∙ c.if-not-is_seen.true in
    Resolving-skip c.args.trail.now c.args.place r.step m (reverse c.args.self.now.hints.items) r.at c.requires.resolving (ap (marked m.seen) r.var ∙ off)

pub reason_of-requires : goal.reason_of-requires
reason_of-requires c =
    let r = read_before c.args.trail.now c.args.place c.made.result.now c.made.ensures.valid c.made.ensures.made c.requires.resolving.derived.place_in in
    omega (arith, r.var, r.at.holds.high)

pub unreachable-requires : goal.unreachable-requires
unreachable-requires c =
    let r = read_before c.args.trail.now c.args.place c.made.result.now c.made.ensures.valid c.made.ensures.made c.requires.resolving.derived.place_in in
    let m = c.args.self.now.marks in
    let on = sym c.is_seen.ensures ∙ c.if-not-is_seen.false in
    has_reason c.args.trail.now c.args.place r.step m (reverse c.args.self.now.hints.items) c.made.ensures.valid r.at c.requires.resolving c.requires.many (ap (marked m.seen) r.var ∙ on)
    (reason_is c.args.trail.now c.args.place _ c.reason_of.result r c.reason_of.ensures ∙ c.in_default.is)

pub clause-requires : goal.clause-requires
clause-requires c =
    let r = read_before c.args.trail.now c.args.place c.made.result.now c.made.ensures.valid c.made.ensures.made c.requires.resolving.derived.place_in in
    (reason_says c.args.trail.now c.args.place r.step c.in-Some.reason r.at (reason_is c.args.trail.now c.args.place _ c.reason_of.result r c.reason_of.ensures ∙ c.in-Some.is)).number

pub mark-requires-clause-form : goal.mark-requires-clause-form
mark-requires-clause-form c =
    let r = read_before c.args.trail.now c.args.place c.made.result.now c.made.ensures.valid c.made.ensures.made c.requires.resolving.derived.place_in in
    form_of c.args.trail.now c.in-Some.reason c.clause.result.now c.made.ensures.valid
    (reason_says c.args.trail.now c.args.place r.step c.in-Some.reason r.at (reason_is c.args.trail.now c.args.place _ c.reason_of.result r c.reason_of.ensures ∙ c.in-Some.is)).number c.clause.ensures.clause

pub mark-requires-clause-marks : goal.mark-requires-clause-marks
mark-requires-clause-marks c =
    subst (λ k. AreMarks c.args.trail.now k c.args.self.now.marks) (sym c.level-level.ensures.level) c.requires.resolving.derived.marks

pub unmark-requires-clause-range : goal.unmark-requires-clause-range
unmark-requires-clause-range c =
    let r = read_before c.args.trail.now c.args.place c.made.result.now c.made.ensures.valid c.made.ensures.made c.requires.resolving.derived.place_in in
    omega (arith, r.var, r.at.holds.high)

pub returns-clause-one : goal.returns-clause-one
returns-clause-one c =
    let r = read_before c.args.trail.now c.args.place c.made.result.now c.made.ensures.valid c.made.ensures.made c.requires.resolving.derived.place_in in
    let m = c.args.self.now.marks in
    let n = c.mark.new.self in
    let on = sym c.is_seen.ensures ∙ c.if-not-is_seen.false in
    let here = read_here c.args.trail.now c.args.place _ m n (reverse c.args.self.now.hints.items) c.clause.result.now c.made.ensures.valid r c.requires.resolving
    (some_pending (pending_in m) (level_of c.args.trail.now.steps) c.requires.many) on c.in_ok-mark.ensures.seen
    (subst (λ k. AreMarks c.args.trail.now k n) c.level-level.ensures.level c.mark.ensures.marks) in
    omega (arith, c.unmark.ensures.less here, c.mark.ensures.more)

pub returns-clause-resolving : goal.returns-clause-resolving
returns-clause-resolving c =
    let trail = c.args.trail.now in
    let m = c.args.self.now.marks in
    let n = c.mark.new.self in
    let u = c.unmark.new.self in
    let r = read_before trail c.args.place c.made.result.now c.made.ensures.valid c.made.ensures.made c.requires.resolving.derived.place_in in
    let reason = reason_is trail c.args.place _ c.reason_of.result r c.reason_of.ensures ∙ c.in-Some.is in
    let pushed : c.push.new.self.items ≡ c.args.self.now.hints.items ++ c.in-Some.reason ∷ [] = search rules in
    Resolving-read trail c.args.place _ c.in-Some.reason m u n.seen c.args.self.now.hints.items c.push.new.self.items
    r reason (subst (MarksClause m.seen n.seen) c.clause.ensures.clause c.in_ok-mark.ensures.seen) (omega (arith, r.var, r.at.holds.high, c.mark.ensures.marks.seen_room)) c.unmark.ensures.seen pushed
    (subst (λ k. AreMarks trail k u) c.level-level.ensures.level c.unmark.ensures.marks) c.requires.resolving
