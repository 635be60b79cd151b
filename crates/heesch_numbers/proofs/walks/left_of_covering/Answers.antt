use Rattle.std.proofs.Common.{◌≡◌, ◌+◌, ◌-◌, ◌<◌, List, length, get_or, sym, ap, ◌∙◌, subst, arith}
use Rattle.heesch_cnf.specs.declared.literal.Lit.{Lit}
use Rattle.heesch_cnf.specs.Literals.{held}
use Rattle.heesch_cnf.specs.Left.{IsLeft}
use Rattle.heesch_grid.specs.declared.Cell.{Cell}
use Rattle.heesch_grid.specs.Cells.{origin}
use Rattle.heesch_grid.specs.Clauses.{clause_of, is_numbered}
use Rattle.heesch_grid.specs.CoronaFormula.{covers}
use Rattle.heesch_grid.proofs.AroundFacts.{cells_around, around_given}
use Rattle.heesch_cert.specs.Literals.{literals}
use Rattle.heesch_encode.proofs.Numbered.{no_entry}
use Rattle.heesch_encode.proofs.Pieces.{some_at}
use Rattle.heesch_numbers.specs.Common.{outside}
use Rattle.heesch_numbers.proofs.Members.{covering_place, outside_apart}
use Rattle.heesch_numbers.proofs.walks.left_of_covering.Goals as goal

pub cell_outside-c-requires : goal.cell_outside-c-requires
cell_outside-c-requires g c =
    let vars = c.args.plan.now.universe.now.vars in
    let shape = c.args.plan.now.shape.now in
    let x = get_or vars (c.args.var - 1) no_entry.1 in
    let number = some_at vars c.args.var c.requires.number.0 c.requires.number.1 in
    let around = cells_around g.G.Grid.geometry in
    let gives = around_given g.G.Grid.geometry g.met.G.Grid.laws in
    let p = covering_place around shape c.args.plan.now.level vars c.args.var c.args.place x (c.requires.place around x gives number) in
    subst (λ (cells : List Cell). c.args.place < length (outside shape cells)) (sym (c.surround_of-cells.ensures.given x around number gives)) p.1

pub returns : goal.returns
returns g c = λ around x gives number.
    let vars = c.args.plan.now.universe.now.vars in
    let shape = c.args.plan.now.shape.now in
    let n = c.args.var in
    let v = held c.args.values.now in
    let left = c.left_of_cover.result in
    let p = covering_place around shape c.args.plan.now.level vars n c.args.place x (c.requires.place around x gives number) in
    let given = c.surround_of-cells.ensures.given x around number gives in
    let cell : Cell = c.cell_outside-c.result in
    let is : cell ≡ get_or (outside shape (around x.tile)) c.args.place origin = c.cell_outside-c.ensures origin ∙ ap (λ cells. get_or (outside shape cells) c.args.place origin) given in
    let apart = outside_apart g.G.Grid.geometry x.tile shape _ c.args.place cell (c.surround_of-cells.ensures.listed x number) (subst (λ (cells : List Cell). c.args.place < length (outside shape cells)) (sym given) p.1) (c.cell_outside-c.ensures origin) in
    subst (λ (clause : List Lit). IsLeft v clause left)
    (ap (λ l. clause_of literals (is_numbered n) (covers (l + 1) cell) vars) (c.level_of.ensures x number) ∙ ap (λ z. clause_of literals (is_numbered n) (covers (x.level + 1) z) vars) is ∙ sym p.2)
    (c.left_of_cover.ensures x number apart)

pub overflow_add-level_of : goal.overflow_add-level_of
overflow_add-level_of g c =
    let vars = c.args.plan.now.universe.now.vars in
    let shape = c.args.plan.now.shape.now in
    let x = get_or vars (c.args.var - 1) no_entry.1 in
    let number = some_at vars c.args.var c.requires.number.0 c.requires.number.1 in
    let around = cells_around g.G.Grid.geometry in
    let gives = around_given g.G.Grid.geometry g.met.G.Grid.laws in
    let p = covering_place around shape c.args.plan.now.level vars c.args.var c.args.place x (c.requires.place around x gives number) in
    let at = c.level_of.ensures x number in
    let less = p.0 in
    let top = c.level-top.ensures.range.1 in
    let is = c.requires.plan.level_is in
    omega (arith, at, less, top, is)
