use Rattle.std.proofs.Common.{ap, refl, arith, ◌-◌, ◌*◌}
use Rattle.heesch_grid.specs.Clauses.{formula_size}
use Rattle.heesch_numbers.specs.Moves.{moved_by}
use Rattle.heesch_numbers.proofs.Bounds.{supporting_bound}
use Rattle.heesch_numbers.proofs.Members.{no_support}
use Rattle.heesch_numbers.proofs.Sizes.{support_one, supporting_few}
use Rattle.heesch_numbers.proofs.bound.support_bound.Goals as goal

pub returns-then-level_of-lt2 : goal.returns-then-level_of-lt2
returns-then-level_of-lt2 g c = λ x number.
    let none = ap formula_size (no_support g.G.Grid.geometry c.args.plan.now.universe.now.vars c.args.var c.level_of.result x (c.level_of.ensures x number) c.if-level_of-lt2.true) in
    omega (arith, none)

pub returns : goal.returns
returns g c = λ x number.
    let geometry = g.G.Grid.geometry in
    let vars = c.args.plan.now.universe.now.vars in
    let of = c.level_of.result in
    let size = support_one vars c.args.var x number geometry of x.tile (c.level_of.ensures x number) c.if-level_of-lt2.false refl in
    let few = supporting_bound geometry g.met.G.Grid.laws vars c.args.most c.requires.most (of - 1) x.tile (moved_by c.surround_of-cells.result.step c.surround_of-cells.result.ring.now) (c.surround_of-cells.ensures.listed x number) in
    let all = supporting_few geometry vars (of - 1) x.tile in
    let long = ap (λ k. k * c.args.most) c.len.ensures.count in
    omega (arith, size, few, all, long, c.requires.plan.few, c.saturating_mul.ensures, c.saturating_add.ensures)
