use Rattle.std.proofs.Common.{◌∙◌, arith}
use Rattle.heesch_cuts.proofs.Conditions.{border_variable_is}
use Rattle.heesch_cuts.proofs.checking.is_border_variable.Goals as goal

pub returns : goal.returns
returns g c =
    let vars = c.args.universe.now.vars in
    border_variable_is vars c.args.level c.args.hole.now c.args.n
    (let h = c.if-n-eq0.false in omega (arith, h))
    (let h = c.if-n-count.false in let e = c.count.ensures.count in omega (arith, h, e))
    c.level_of.result c.level_of.ensures (let h = c.if-level_of-level.false in omega (arith, h))
    c.cells.result.now (λ x n. c.cells.ensures.cells ∙ c.shape.ensures ∙ c.placement_of.ensures.tile x n)
    c.are_apart.result c.are_apart.ensures
