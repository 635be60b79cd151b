use Rattle.std.proofs.Common.{◌≡◌, List, map, false, sym, ap, ◌∙◌, subst}
use Rattle.heesch_cnf.specs.declared.literal.Lit.{Lit}
use Rattle.heesch_cnf.specs.Clauses.{IsNew}
use Rattle.heesch_cnf.specs.Literals.{held}
use Rattle.heesch_grid.specs.declared.Cell.{Cell}
use Rattle.heesch_grid.specs.Clauses.{clause_of, no_variable}
use Rattle.heesch_grid.specs.CoronaFormula.{covers}
use Rattle.heesch_cert.specs.Literals.{literals}
use Rattle.heesch_place.specs.Universes.{Levels}
use Rattle.heesch_numbers.specs.Common.{common_of, AllRemain}
use Rattle.heesch_numbers.proofs.Newness.{NegatedRemain, new_by, by_new}
use Rattle.heesch_numbers.proofs.Numbering.{first_of_all}
use Rattle.heesch_numbers.proofs.Remaining.{same_answer, when_true, when_false}
use Rattle.heesch_numbers.proofs.common.CommonClauses.is_new.Goals as goal

pub returns-then-not-first_remain : goal.returns-then-not-first_remain
returns-then-not-first_remain g c = λ around gives.
    let geometry = g.G.Grid.geometry in
    let u : Levels = c.plan-plan.result.universe.now in
    let v = held c.args.values.now in
    let clause : List Lit = c.args.clause.now in
    let first : List Cell = c.self.inside.first.items in
    let first_is : first ≡ around u.shape = c.self.invariant.first_is around gives ∙ ap (λ (w : Levels). around w.shape) (c.self.view_is ∙ sym c.plan-plan.ensures.universe) in
    let listed : map (λ (d : Cell). clause_of literals no_variable (covers 1 d) u.vars) c.deref.result.now ≡ first_of_all geometry around u = ap (map (λ (d : Cell). clause_of literals no_variable (covers 1 d) u.vars)) (c.deref.ensures.value ∙ first_is) in
    let there = λ (new : IsNew (common_of geometry around c.args.self.now) clause). by_new c.requires.form.0 clause c.requires.form.1 v c.requires.refuted geometry around u (subst (λ (w : Levels). IsNew (common_of geometry around w) clause) (sym c.plan-plan.ensures.universe) new) in
    let fails = when_false c.first_remain.result _ _ c.if-not-first_remain.true c.first_remain.ensures in
    same_answer false (AllRemain v (first_of_all geometry around u)) (IsNew (common_of geometry around c.args.self.now) clause) (subst (λ cs. ¬ AllRemain v cs) listed fails) (λ h. absurd (fails (subst (AllRemain v) (sym listed) h))) (λ new. (there new).0)

pub returns : goal.returns
returns g c = λ around gives.
    let geometry = g.G.Grid.geometry in
    let u : Levels = c.plan-plan.result.universe.now in
    let v = held c.args.values.now in
    let clause : List Lit = c.args.clause.now in
    let first : List Cell = c.self.inside.first.items in
    let first_is : first ≡ around u.shape = c.self.invariant.first_is around gives ∙ ap (λ (w : Levels). around w.shape) (c.self.view_is ∙ sym c.plan-plan.ensures.universe) in
    let listed : map (λ (d : Cell). clause_of literals no_variable (covers 1 d) u.vars) c.deref.result.now ≡ first_of_all geometry around u = ap (map (λ (d : Cell). clause_of literals no_variable (covers 1 d) u.vars)) (c.deref.ensures.value ∙ first_is) in
    let there = λ (new : IsNew (common_of geometry around c.args.self.now) clause). by_new c.requires.form.0 clause c.requires.form.1 v c.requires.refuted geometry around u (subst (λ (w : Levels). IsNew (common_of geometry around w) clause) (sym c.plan-plan.ensures.universe) new) in
    let remain = subst (AllRemain v) listed (when_true c.first_remain.result _ _ c.if-not-first_remain.false c.first_remain.ensures) in
    same_answer c.all_negated_remain.result (NegatedRemain c.requires.form.0 clause c.requires.form.1 v c.requires.refuted geometry around u) (IsNew (common_of geometry around c.args.self.now) clause) (c.all_negated_remain.ensures around gives)
    (λ negated. subst (λ (w : Levels). IsNew (common_of geometry around w) clause) c.plan-plan.ensures.universe (new_by c.requires.form.0 clause c.requires.form.1 v c.requires.refuted geometry around u remain negated)) (λ new. (there new).1)
