use Rattle.std.proofs.Common.{rules, ◌≡◌, map, pos, sym, ap, ◌∙◌, subst, arith}
use Rattle.std.proofs.lemmas.Int.{ints}
use Rattle.heesch_grid.specs.declared.isometries.Iso.{Iso}
use Rattle.heesch_grid.specs.Cells.{cell}
use Rattle.heesch_grid.specs.Vectors.{IsWithin, plus}
use Rattle.heesch_grid.proofs.Images.{read}
use Rattle.heesch_place.specs.Steps.{IsFirstOf, step_of}
use Rattle.heesch_place.proofs.Moves.{one_step, must_be_units, move_is}
use Rattle.heesch_place.proofs.turned.leading.Goals as goal

pub returns-then-not-is_moved-clause-none : goal.returns-then-not-is_moved-clause-none
returns-then-not-is_moved-clause-none g c by is =
    let s = c.difference-step.result in
    let turned = c.args.turned.now in
    let second = subst (λ zs. IsFirstOf zs c.first_of-2.result) c.cells-cells.ensures.cells c.first_of-2.ensures.first in
    let m = one_step turned c.args.tile.now c.first_of.result c.first_of-2.result s (step_of g.G.Grid.geometry by) c.first_of.ensures.first second c.difference-step.ensures.is is in
    c.is_moved.ensures.no c.if-not-is_moved.true (c.cells-cells.ensures.cells ∙ is ∙ ap (λ z. map (plus z) turned) m)

pub returns-in_default-clause-none : goal.returns-in_default-clause-none
returns-in_default-clause-none g c by is =
    let met = g.met.G.Grid in
    let geometry = g.G.Grid.geometry in
    let s = c.difference-step.result in
    let second = subst (λ zs. IsFirstOf zs c.first_of-2.result) c.cells-cells.ensures.cells c.first_of-2.ensures.first in
    let m = one_step c.args.turned.now c.args.tile.now c.first_of.result c.first_of-2.result s (step_of geometry by) c.first_of.ensures.first second c.difference-step.ensures.is is in
    let unit : read c.UNIT.result ≡ pos geometry.unit = omega (arith, ints, c.UNIT.ensures, met.sizes.unit_is, met.laws.unit_range.1) in
    c.in_default.ensures.none (cell by.da by.db) (must_be_units geometry (read c.UNIT.result) by s unit m)

pub returns-clause-some : goal.returns-clause-some
returns-clause-some g c =
    let met = g.met.G.Grid in
    let geometry = g.G.Grid.geometry in
    let s = c.difference-step.result in
    let units = c.in-Some.units in
    let from : IsWithin 2000000 c.first_of.result = search rules in
    let to : IsWithin 1000000 c.first_of-2.result = search rules in
    let near = c.in-Some.ensures.near 3000000 (c.difference-step.ensures.within 2000000 1000000 from to) in
    let unit : read c.UNIT.result ≡ pos geometry.unit = omega (arith, ints, c.UNIT.ensures, met.sizes.unit_is, met.laws.unit_range.1) in
    let by : Iso = record { turn = c.args.k; da = read units.a; db = read units.b } in
    let m = move_is geometry (read c.UNIT.result) by units s unit (omega (arith, ints, near.a_low, near.a_high)) (omega (arith, ints, near.b_low, near.b_high)) c.in-Some.ensures.some in
    sym c.cells-cells.ensures.cells ∙ c.is_moved.ensures.yes c.if-not-is_moved.false ∙ ap (λ z. map (plus z) c.args.turned.now) (sym m)
