use Rattle.std.proofs.Common.{◌≡◌, true, false, [], length, refl, sym, ap, ◌∙◌, subst, arith}
use Rattle.std.proofs.lemmas.List.{length-map}
use Rattle.heesch_cnf.specs.declared.log.Line.{Line}
use Rattle.heesch_cnf.specs.declared.log.Line.TheVariants.{Given}
use Rattle.heesch_cnf.specs.Clauses.{IsClause}
use Rattle.heesch_cnf.specs.Flat.{Clauses}
use Rattle.heesch_cnf.specs.Lines.{clause_of}
use Rattle.heesch_rup.proofs.Containing.{fresh_more, fresh_line, line_clause, line_of_new}
use Rattle.heesch_rup.proofs.newness.are_new_in_turn.Goals as goal

pub is_new-requires-clause-clause : goal.is_new-requires-clause-clause
is_new-requires-clause-clause g c =
    let a = c.args.added.now in
    let d : Line = Given [] in
    let lines = (g.S.Steps.written c.args.steps.now).lines in
    let same = ap (λ (x : Clauses). x.clauses) c.requires.added in
    let many = ap length same ∙ length-map lines clause_of in
    subst (IsClause a.vars) (sym (c.clause.ensures d)) (line_clause a.vars a.clauses lines c.loop-i.i c.vars-vars.ensures.form same (omega (arith, many)) d)

pub returns-then-not-branch : goal.returns-then-not-branch
returns-then-not-branch g c =
    let f = g.N.ClauseSource.listed c.args.formula.now in
    let same = ap (λ (x : Clauses). x.clauses) c.requires.added in (
      λ e. absurd (let bad : false ≡ true = e in cc),
      λ h.
          let fresh = line_of_new f.clauses c.args.added.now.clauses (g.S.Steps.written c.args.steps.now).lines c.loop-i.i c.clause.result.now same c.clause.ensures (λ d. h c.loop-i.i d (omega arith)) in
          absurd (let bad : false ≡ true = sym c.if-not-branch.true ∙ c.in_ok-is_new.ensures.fresh.1 fresh in cc),
    )

pub loop-i-preserved : goal.loop-i-preserved
loop-i-preserved g c =
    let f = g.N.ClauseSource.listed c.args.formula.now in
    let lines = (g.S.Steps.written c.args.steps.now).lines in
    let before = c.loop-i.invariant in
    let same = ap (λ (x : Clauses). x.clauses) c.requires.added in
    let here = fresh_line f.clauses c.args.added.now.clauses lines c.loop-i.i c.clause.result.now same (c.in_ok-is_new.ensures.fresh.0 c.if-not-branch.false) in
    record {
      slots = c.in_ok-list_next.ensures.room ∙ before.slots;
      counts = c.in_ok-list_next.ensures.counts ∙ before.counts;
      count = omega (arith, c.in_ok-list_next.ensures.count, before.count);
      lists = c.in_ok-list_next.ensures.lists;
      room = c.in_ok-is_new.ensures.room ∙ before.room;
      open_ = c.in_ok-is_new.ensures.open;
      fresh = fresh_more f.clauses lines c.loop-i.i c.clause.result.now c.clause.ensures before.fresh here;
    }

pub returns : goal.returns
returns g c = (λ e i d lt. c.loop-i.invariant.fresh i d (omega arith), λ h. refl)
