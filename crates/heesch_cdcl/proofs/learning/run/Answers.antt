use Rattle.std.proofs.Common.{ap, arith, length, length-append, ◌∷◌, []}
use Rattle.heesch_cnf.specs.declared.log.Line.TheVariants.{Learn}
use Rattle.heesch_cdcl.proofs.Lines.{Next-learnt, Searches-moves, Formula-moves, Formula-on, Lower-zero, LearnsMore-one}
use Rattle.heesch_cdcl.proofs.learning.run.Goals as goal

pub returns-in_err-number-clause-searching : goal.returns-in_err-number-clause-searching
returns-in_err-number-clause-searching c = Searches-moves c.loop-number.lines c.loop-number.work.trail c.descend.new.self.trail c.loop-number.invariant.searching c.descend.ensures.same c.descend.ensures.valid c.descend.ensures.lower

pub returns-in_default-clause-searching : goal.returns-in_default-clause-searching
returns-in_default-clause-searching c = Searches-moves c.loop-number.lines c.loop-number.work.trail c.descend.new.self.trail c.loop-number.invariant.searching c.descend.ensures.same c.descend.ensures.valid c.descend.ensures.lower

pub returns-in_err-hints-clause-searching : goal.returns-in_err-hints-clause-searching
returns-in_err-hints-clause-searching c = Searches-moves c.loop-number.lines c.loop-number.work.trail c.descend.new.self.trail c.loop-number.invariant.searching c.descend.ensures.same c.descend.ensures.valid c.descend.ensures.lower

pub returns-then-level-eq0-clause-searching : goal.returns-then-level-eq0-clause-searching
returns-then-level-eq0-clause-searching c = Searches-moves c.loop-number.lines c.loop-number.work.trail c.descend.new.self.trail c.loop-number.invariant.searching c.descend.ensures.same c.descend.ensures.valid c.descend.ensures.lower

pub add_line-requires-clause-searching : goal.add_line-requires-clause-searching
add_line-requires-clause-searching c = Searches-moves c.loop-number.lines c.loop-number.work.trail c.descend.new.self.trail c.loop-number.invariant.searching c.descend.ensures.same c.descend.ensures.valid c.descend.ensures.lower

pub returns-in_err-learnt-clause-searching : goal.returns-in_err-learnt-clause-searching
returns-in_err-learnt-clause-searching c = Searches-moves c.loop-number.lines c.loop-number.work.trail c.descend.new.self.trail c.loop-number.invariant.searching c.descend.ensures.same c.descend.ensures.valid c.descend.ensures.lower

pub add_line-requires-clause-next : goal.add_line-requires-clause-next
add_line-requires-clause-next c = Next-learnt c.descend.new.self.trail c.in_ok-learnt.learnt c.descend.ensures.lower c.in_ok-learnt.ensures.learnt

pub returns-then-len-turns-clause-searching : goal.returns-then-len-turns-clause-searching
returns-then-len-turns-clause-searching c =
    let going = Searches-moves c.loop-number.lines c.loop-number.work.trail c.descend.new.self.trail c.loop-number.invariant.searching c.descend.ensures.same c.descend.ensures.valid c.descend.ensures.lower in
    Searches-moves c.loop-number.lines c.descend.new.self.trail c.give_up.new.work.trail going c.give_up.ensures.same c.give_up.ensures.valid (Lower-zero c.give_up.new.work.trail c.give_up.ensures.level)

pub loop-number-preserved : goal.loop-number-preserved
loop-number-preserved c =
    let l = c.loop-number in
    let added = c.in_ok-add_line.ensures.ok in
    let longer = ap length added in
    let moved = Formula-moves c.args.lines.now c.args.work.now.trail l.lines l.work.trail c.descend.new.self.trail l.invariant.formula c.descend.ensures.same in
    record {
      searching = c.in_ok-add_line.ensures.searching;
      formula = Formula-on c.args.lines.now l.lines c.add_line.new.lines c.args.work.now.trail c.descend.new.self.trail c.add_line.new.work.trail moved c.in_ok-add_line.ensures.formula;
      few = omega (arith, longer, length-append l.lines (Learn c.in_ok-learnt.learnt.clause c.in_ok-learnt.learnt.hints ∷ []), l.invariant.few, c.len.ensures);
      learns = LearnsMore-one _ l.lines c.add_line.new.lines l.invariant.learns (_, (added, tt));
    }
