use Rattle.std.proofs.Common.{◌+◌, None, length, sym, ap, subst, arith}
use Rattle.heesch_cnf.specs.Flat.{Clauses}
use Rattle.heesch_rup.specs.Answer.{AddsFirst, IsFirstBad, IsFirstFailing, IsFormless}
use Rattle.heesch_rup.proofs.Answering.{bad_among, bad_form, all_hold, all_added}
use Rattle.heesch_rup.proofs.in_turn.bad_line_in_turn.Given as given
use Rattle.heesch_rup.proofs.in_turn.bad_line_in_turn.Goals as goal
use Rattle.heesch_rup.proofs.in_turn.bad_line_in_turn.Goals.{In_ok-add_formed, In_default}

-- the clauses that were added are over the formula's variables
first : (g : given.Over) (c : In_ok-add_formed g) → AddsFirst (g.C.ClauseSource.listed c.args.formula.now).vars (g.S.Steps.written c.args.steps.now).lines c.add_formed.new.added
first g c = subst (λ n. AddsFirst n (g.S.Steps.written c.args.steps.now).lines c.add_formed.new.added) (ap (λ (x : Clauses). x.vars) c.requires.none) c.in_ok-add_formed.ensures.first

-- the lines of these clauses hold
hold : (g : given.Over) (c : In_default g) → IsFirstFailing (g.C.ClauseSource.listed c.args.formula.now).vars (g.C.ClauseSource.listed c.args.formula.now).clauses (g.S.Steps.written c.args.steps.now).lines 0 (length c.add_formed.new.added.clauses) None
hold g c =
    let f = g.C.ClauseSource.listed c.args.formula.now in
    let lines = (g.S.Steps.written c.args.steps.now).lines in
    let found = subst (λ n. IsFirstFailing f.vars f.clauses lines 0 n c.in_ok-at.field-0) c.len-formed.ensures.count c.in_ok-at.ensures.first in
    subst (IsFirstFailing f.vars f.clauses lines 0 (length c.add_formed.new.added.clauses)) c.in_default.is found

pub first_failing-requires-clause-added : goal.first_failing-requires-clause-added
first_failing-requires-clause-added g c = first g (goal.at.first_failing-requires-clause-added g c).In_ok-add_formed

pub returns-in-Some-clause-bad : goal.returns-in-Some-clause-bad
returns-in-Some-clause-bad g c =
    let f = g.C.ClauseSource.listed c.args.formula.now in
    let log = g.S.Steps.written c.args.steps.now in
    let added = c.add_formed.new.added in
    let found = subst (λ n. IsFirstFailing f.vars f.clauses log.lines 0 n c.in_ok-at.field-0) c.len-formed.ensures.count c.in_ok-at.ensures.first in
    bad_among f added log (first g (goal.at.returns-in-Some-clause-bad g c).In_ok-add_formed) c.in-Some.at (subst (IsFirstFailing f.vars f.clauses log.lines 0 (length added.clauses)) c.in-Some.is found)

pub returns-then-formed-count-clause-bad : goal.returns-then-formed-count-clause-bad
returns-then-formed-count-clause-bad g c =
    let a = goal.at.returns-then-formed-count-clause-bad g c in
    let f = (g.C.ClauseSource.listed c.args.formula.now) in
    let log = g.S.Steps.written c.args.steps.now in
    let added = c.add_formed.new.added in
    let formless = subst (λ n. IsFormless n log.lines (length added.clauses)) (ap (λ (x : Clauses). x.vars) c.requires.none) c.in_ok-add_formed.ensures.formless in
    subst (λ n. IsFirstBad f.vars f.clauses log (n + 1)) (sym c.len-formed.ensures.count) (bad_form f added log (first g a.In_ok-add_formed) formless (omega (arith, c.if-formed-count.true, c.len-formed.ensures.count, c.count.ensures)) (hold g a.In_default))

pub returns-clause-bad : goal.returns-clause-bad
returns-clause-bad g c =
    let a = goal.at.returns-clause-bad g c in
    all_hold (g.C.ClauseSource.listed c.args.formula.now) c.add_formed.new.added (g.S.Steps.written c.args.steps.now) (first g a.In_ok-add_formed) (λ lt. omega (arith, lt, c.if-formed-count.false, c.len-formed.ensures.count, c.count.ensures)) (hold g a.In_default)

pub returns-clause-added : goal.returns-clause-added
returns-clause-added g c =
    all_added (g.C.ClauseSource.listed c.args.formula.now) c.add_formed.new.added (g.S.Steps.written c.args.steps.now) (first g (goal.at.returns-clause-added g c).In_ok-add_formed) (λ lt. omega (arith, lt, c.if-formed-count.false, c.len-formed.ensures.count, c.count.ensures))
