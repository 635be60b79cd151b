use Rattle.std.proofs.Common.{List, sym, subst}
use Rattle.heesch_cnf.specs.Literals.{held}
use Rattle.heesch_grid.specs.declared.Cell.{Cell}
use Rattle.heesch_encode.specs.Families.{covering_at, support_at}
use Rattle.heesch_numbers.specs.Common.{AllRemain}
use Rattle.heesch_numbers.proofs.Remaining.{both_answer, when_true, when_false}
use Rattle.heesch_numbers.proofs.remain.variable_remains.Goals as goal

pub returns-then-not-covering_remain : goal.returns-then-not-covering_remain
returns-then-not-covering_remain g c = λ around x gives number h.
    let u = c.args.plan.now.universe.now in
    let v = held c.args.values.now in
    when_false c.covering_remain.result _ _ c.if-not-covering_remain.true (c.covering_remain.ensures around x gives number)
    (subst (λ (s : List Cell). AllRemain v (covering_at around s c.args.plan.now.level u.vars (c.args.var, x))) c.requires.plan.shape_is (subst (λ l. AllRemain v (covering_at around u.shape l u.vars (c.args.var, x))) c.requires.plan.level_is h.0))

pub returns : goal.returns
returns g c = λ around x gives number.
    let u = c.args.plan.now.universe.now in
    let v = held c.args.values.now in
    let covering = when_true c.covering_remain.result _ _ c.if-not-covering_remain.false (c.covering_remain.ensures around x gives number) in
    both_answer (AllRemain v (covering_at around u.shape u.level u.vars (c.args.var, x))) (AllRemain v (support_at g.G.Grid.geometry u.vars (c.args.var, x))) c.support_remains.result
    (subst (λ (s : List Cell). AllRemain v (covering_at around s u.level u.vars (c.args.var, x))) (sym c.requires.plan.shape_is) (subst (λ l. AllRemain v (covering_at around c.args.plan.now.shape.now l u.vars (c.args.var, x))) (sym c.requires.plan.level_is) covering))
    (c.support_remains.ensures x number)
