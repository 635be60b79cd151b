use Rattle.std.proofs.Common.{◌≡◌, ◌+◌, true, false, [], ◌∷◌, ◌++◌, reverse, count_by, refl, sym, ap, subst, ◌∙◌, arith, rules}
use Rattle.heesch_cdcl.specs.Marking.{Marking, MarksClause, AreMarks, pending_in}
use Rattle.heesch_cdcl.specs.Resolved.{IsDerived}
use Rattle.heesch_cdcl.proofs.MarkLemmas.{marked-same}
use Rattle.heesch_cdcl.proofs.Resolving.{Derived-skip, reason_says}
use Rattle.heesch_cdcl.proofs.ReadSteps.{Derived-read, form_of, here_kept, read_before, reason_is}
use Rattle.heesch_cdcl.proofs.analysis.Resolution.shorten_at.Goals as goal
use Rattle.heesch_cdcl.proofs.analysis.Resolution.shorten_at.Goals.{After-follows}

-- what held before `follows` holds after it
still : (c : After-follows) → IsDerived c.args.trail.now (c.args.place + 1) c.follows.new.self (reverse c.args.self.now.hints.items)
still c = subst (λ m. IsDerived c.args.trail.now (c.args.place + 1) m (reverse c.args.self.now.hints.items)) (sym c.follows.ensures) c.requires

pub is_below-requires : goal.is_below-requires
is_below-requires c =
    let trail = c.args.trail.now in
    let r = read_before trail c.args.place c.made.result.now c.made.ensures.valid c.made.ensures.made c.requires.place_in in
    omega (arith, r.var, r.at.holds.high, c.requires.marks.seen_room)

pub returns-then-not-is_below-clause-derived : goal.returns-then-not-is_below-clause-derived
returns-then-not-is_below-clause-derived c =
    let trail = c.args.trail.now in
    let r = read_before trail c.args.place c.made.result.now c.made.ensures.valid c.made.ensures.made c.requires.place_in in
    let m = c.args.self.now.marks in
    Derived-skip trail c.args.place r.step m (reverse c.args.self.now.hints.items) r.at c.requires

pub returns-then-not-branch-clause-derived : goal.returns-then-not-branch-clause-derived
returns-then-not-branch-clause-derived c =
    let trail = c.args.trail.now in
    let r = read_before trail c.args.place c.made.result.now c.made.ensures.valid c.made.ensures.made c.requires.place_in in
    let m = c.follows.new.self in
    Derived-skip trail c.args.place r.step m (reverse c.args.self.now.hints.items) r.at (still (goal.at.returns-then-not-branch-clause-derived c).After-follows)

pub returns-in_default-clause-derived : goal.returns-in_default-clause-derived
returns-in_default-clause-derived c =
    let trail = c.args.trail.now in
    let r = read_before trail c.args.place c.made.result.now c.made.ensures.valid c.made.ensures.made c.requires.place_in in
    let m = c.follows.new.self in
    Derived-skip trail c.args.place r.step m (reverse c.args.self.now.hints.items) r.at (still (goal.at.returns-in_default-clause-derived c).After-follows)

pub clause-requires : goal.clause-requires
clause-requires c =
    let trail = c.args.trail.now in
    let r = read_before trail c.args.place c.made.result.now c.made.ensures.valid c.made.ensures.made c.requires.place_in in
    (reason_says trail c.args.place r.step c.in-Some.reason r.at (reason_is trail c.args.place _ c.reason_of.result r c.reason_of.ensures ∙ c.in-Some.is)).number

pub mark-requires-clause-form : goal.mark-requires-clause-form
mark-requires-clause-form c =
    let trail = c.args.trail.now in
    let r = read_before trail c.args.place c.made.result.now c.made.ensures.valid c.made.ensures.made c.requires.place_in in
    form_of trail c.in-Some.reason c.clause.result.now c.made.ensures.valid
    (reason_says trail c.args.place r.step c.in-Some.reason r.at (reason_is trail c.args.place _ c.reason_of.result r c.reason_of.ensures ∙ c.in-Some.is)).number c.clause.ensures.clause

pub returns-clause-derived : goal.returns-clause-derived
returns-clause-derived c =
    let r = read_before c.args.trail.now c.args.place c.made.result.now c.made.ensures.valid c.made.ensures.made c.requires.place_in in
    let pushed : c.push.new.self.items ≡ c.args.self.now.hints.items ++ c.in-Some.reason ∷ [] = search rules in
    Derived-read c.args.trail.now c.args.place _ c.in-Some.reason c.follows.new.self c.unmark.new.self c.mark.new.self.seen c.args.self.now.hints.items c.push.new.self.items
    r (reason_is c.args.trail.now c.args.place _ c.reason_of.result r c.reason_of.ensures ∙ c.in-Some.is) (subst (MarksClause c.follows.new.self.seen c.mark.new.self.seen) c.clause.ensures.clause c.in_ok-mark.ensures.seen)
    (omega (arith, r.var, r.at.holds.high, c.mark.ensures.marks.seen_room)) c.unmark.ensures.seen pushed
    (subst (λ k. AreMarks c.args.trail.now k c.unmark.new.self) c.level-level.ensures.level c.unmark.ensures.marks) (still (goal.at.returns-clause-derived c).After-follows)

pub returns-clause-same : goal.returns-clause-same
returns-clause-same c =
    let r = read_before c.args.trail.now c.args.place c.made.result.now c.made.ensures.valid c.made.ensures.made c.requires.place_in in
    let m = c.follows.new.self in
    let n = c.mark.new.self in
    let below = c.if-not-is_below.ensures.0 refl in
    let on = marked-same c.args.self.now.marks.seen m.seen _ true (ap (λ (ms : Marking). ms.seen) c.follows.ensures) below.0 in
    let off = marked-same c.args.self.now.marks.here m.here _ false (ap (λ (ms : Marking). ms.here) c.follows.ensures) below.1 in
    let reason = reason_is c.args.trail.now c.args.place _ c.reason_of.result r c.reason_of.ensures ∙ c.in-Some.is in
    let before = still (goal.at.returns-clause-same c).After-follows in
    let now = subst (λ k. AreMarks c.args.trail.now k n) c.level-level.ensures.level c.mark.ensures.marks in
    let marks = subst (MarksClause m.seen n.seen) c.clause.ensures.clause c.in_ok-mark.ensures.seen in
    let here = here_kept c.args.trail.now c.args.place _ c.in-Some.reason m n c.made.ensures.valid r reason before.marks now marks on off in
    c.unmark.ensures.same (marked-same m.here n.here _ false here off) ∙ ap (count_by (λ b. b)) here ∙ ap pending_in c.follows.ensures
