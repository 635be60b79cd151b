use Rattle.std.proofs.Common.{◌≡◌, true, false, sym, ap, ◌∙◌, subst, arith}
use Rattle.heesch_cnf.specs.Clauses.{IsClause}
use Rattle.heesch_cnf.specs.Flat.{Clauses}
use Rattle.heesch_rup.specs.Answer.{IsFormless}
use Rattle.heesch_rup.proofs.Forms.{added_more, adds_first}
use Rattle.heesch_rup.proofs.added.add_formed.Goals as goal

pub add_clause-requires : goal.add_clause-requires
add_clause-requires g c =
    let vars = ap (λ (x : Clauses). x.vars) c.loop-i.invariant in
    subst (λ n. IsClause n c.clause-clause.result.now) (c.vars-vars.ensures.vars ∙ sym vars) (c.is_clause.ensures.0 c.if-not-is_clause.false)

pub loop-i-preserved : goal.loop-i-preserved
loop-i-preserved g c =
    let lines = (g.S.Steps.written c.args.steps.now).lines in
    added_more c.args.added.now.vars lines c.loop-i.i c.clause-clause.result.now c.loop-i.added c.add_clause.new.added (omega arith) c.clause-clause.ensures c.loop-i.invariant c.in_ok-add_clause.ensures

pub returns-then-not-is_clause-clause-first : goal.returns-then-not-is_clause-clause-first
returns-then-not-is_clause-clause-first g c =
    (adds_first c.args.added.now.vars (g.S.Steps.written c.args.steps.now).lines c.loop-i.i c.loop-i.added (omega arith) c.loop-i.invariant).1

pub returns-then-not-is_clause-clause-formless : goal.returns-then-not-is_clause-clause-formless
returns-then-not-is_clause-clause-formless g c =
    let lines = (g.S.Steps.written c.args.steps.now).lines in
    let vars = c.args.added.now.vars in
    let long = (adds_first vars lines c.loop-i.i c.loop-i.added (omega arith) c.loop-i.invariant).0 in
    subst (IsFormless vars lines) (sym long) (λ lt d form.
    let formed = c.is_clause.ensures.1 (subst (λ n. IsClause n c.clause-clause.result.now) (sym c.vars-vars.ensures.vars) (subst (IsClause vars) (sym (c.clause-clause.ensures d)) form)) in
    let bad : false ≡ true = sym c.if-not-is_clause.true ∙ formed in cc)

pub returns-clause-first : goal.returns-clause-first
returns-clause-first g c =
    (adds_first c.args.added.now.vars (g.S.Steps.written c.args.steps.now).lines c.loop-i.i c.loop-i.added (omega arith) c.loop-i.invariant).1

pub returns-clause-formless : goal.returns-clause-formless
returns-clause-formless g c lt d form =
    let long = (adds_first c.args.added.now.vars (g.S.Steps.written c.args.steps.now).lines c.loop-i.i c.loop-i.added (omega arith) c.loop-i.invariant).0 in
    omega (arith, lt, long)
