use Rattle.std.proofs.Common.{◌+◌, List, subst, arith}
use Rattle.std.specs.Prelude.{◌==◌, ◌&&◌}
use Rattle.heesch_cnf.specs.declared.literal.Lit.{Lit}
use Rattle.heesch_cnf.specs.Literals.{held}
use Rattle.heesch_grid.specs.Clauses.{clause_of, is_numbered}
use Rattle.heesch_grid.specs.Placement.{touch}
use Rattle.heesch_cert.specs.Literals.{literals}
use Rattle.heesch_encode.specs.Families.{support_at}
use Rattle.heesch_encode.proofs.Pieces.{support_is}
use Rattle.heesch_numbers.specs.Common.{AllRemain}
use Rattle.heesch_numbers.proofs.Members.{no_support}
use Rattle.heesch_numbers.proofs.Remaining.{none_to_remain, one_answer}
use Rattle.heesch_numbers.proofs.remain.support_remains.Goals as goal

pub returns-then-of-lt2 : goal.returns-then-of-lt2
returns-then-of-lt2 g c = λ x number.
    let v = held c.args.values.now in
    subst (AllRemain v) (no_support g.G.Grid.geometry c.args.plan.now.universe.now.vars c.args.var c.level_of-of.result x (c.level_of-of.ensures x number) c.if-of-lt2.true) (none_to_remain v)

pub left_of_support-requires-clause-level : goal.left_of_support-requires-clause-level
left_of_support-requires-clause-level g c = λ x number. let at = c.level_of-of.ensures x number in omega (arith, at, c.if-of-lt2.false)

pub returns : goal.returns
returns g c = λ x number.
    let v = held c.args.values.now in
    let vars = c.args.plan.now.universe.now.vars in
    let clause : List Lit = clause_of literals (is_numbered c.args.var) (λ y. (y.1.level + 1 == x.level) && touch g.G.Grid.geometry y.1.tile x.tile) vars in
    one_answer v clause (support_at g.G.Grid.geometry vars (c.args.var, x)) c.remains.result (support_is g.G.Grid.geometry vars c.args.var c.level_of-of.result x (c.level_of-of.ensures x number) c.if-of-lt2.false)
    (c.remains.ensures v clause (c.left_of_support.ensures x number))
