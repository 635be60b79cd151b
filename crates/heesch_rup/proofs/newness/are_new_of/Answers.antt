use Rattle.std.proofs.Common.{◌≡◌, true, false, [], refl, sym, ◌∙◌, subst, arith}
use Rattle.heesch_cnf.specs.declared.log.Line.{Line}
use Rattle.heesch_cnf.specs.declared.log.Line.TheVariants.{Given}
use Rattle.heesch_cnf.specs.Clauses.{IsClause}
use Rattle.heesch_rup.proofs.Containing.{between_more, fresh_line, line_clause, line_of_new}
use Rattle.heesch_rup.proofs.newness.are_new_of.Goals as goal

pub is_new-requires-clause-clause : goal.is_new-requires-clause-clause
is_new-requires-clause-clause g c =
    let a = c.args.added.now in
    let d : Line = Given [] in
    subst (IsClause a.vars) (sym (c.clause.ensures d)) (line_clause a.vars a.clauses (g.S.Steps.written c.args.steps.now).lines c.loop-i.i c.requires.listed.form c.requires.added (omega arith) d)

pub loop-i-preserved : goal.loop-i-preserved
loop-i-preserved g c =
    let f = g.N.ClauseSource.listed c.args.formula.now in
    let lines = (g.S.Steps.written c.args.steps.now).lines in
    let here = fresh_line f.clauses c.args.added.now.clauses lines c.loop-i.i c.clause.result.now c.requires.added (c.in_ok-is_new.ensures.fresh.0 c.if-not-branch.false) in
    record {
      room = c.in_ok-is_new.ensures.room ∙ c.loop-i.invariant.room;
      open_ = c.in_ok-is_new.ensures.open;
      fresh = between_more f.clauses lines _ c.loop-i.i c.clause.result.now c.clause.ensures c.loop-i.invariant.fresh here;
    }

pub returns-then-not-branch : goal.returns-then-not-branch
returns-then-not-branch g c =
    let f = g.N.ClauseSource.listed c.args.formula.now in
    let lines = (g.S.Steps.written c.args.steps.now).lines in (
      λ e. absurd (let bad : false ≡ true = e in cc),
      λ h.
          let fresh = line_of_new f.clauses c.args.added.now.clauses lines c.loop-i.i c.clause.result.now c.requires.added c.clause.ensures (λ d. h c.loop-i.i d (omega arith) (omega arith)) in
          absurd (let bad : false ≡ true = sym c.if-not-branch.true ∙ c.in_ok-is_new.ensures.fresh.1 fresh in cc),
    )

pub returns : goal.returns
returns g c = (λ e i d le lt. c.loop-i.invariant.fresh i d le (omega (arith, lt)), λ h. refl)
