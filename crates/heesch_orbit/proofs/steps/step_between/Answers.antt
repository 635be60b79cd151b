use Rattle.std.proofs.Common.{ℕ, lit≤, ◌≡◌, sym, ap, ◌∙◌, true≢false, map, pos}
use Rattle.heesch_grid.specs.declared.Cell.{Cell}
use Rattle.heesch_grid.specs.Cells.{cell}
use Rattle.heesch_grid.specs.Vectors.{AreUnitsOf, IsWithin, plus}
use Rattle.heesch_grid.proofs.Images.{wider}
use Rattle.heesch_orbit.specs.Steps.{IsStepBetween}
use Rattle.heesch_orbit.proofs.Quotients.{read_unit, read}
use Rattle.heesch_orbit.proofs.Options.{some_also, none_also}
use Rattle.heesch_orbit.proofs.Shifts.{first_near, step_read, lists_read, is_step, in_units, of_units}
use Rattle.heesch_orbit.proofs.steps.step_between.Goals as goal

pub difference-v-requires-clause-from : goal.difference-v-requires-clause-from
difference-v-requires-clause-from g c =
    let near = first_near 200000 c.args.from.now c.cells-cells.result.now (cell (pos 0) (pos 0)) c.cells-cells.ensures.cells c.cells-cells.ensures.shape.polyform.some c.requires.from_near in
    wider 200000 2000000 _ (lit≤ tt) near

pub difference-v-requires-clause-to : goal.difference-v-requires-clause-to
difference-v-requires-clause-to g c =
    let near = first_near 200000 c.args.to.now c.cells-others.result.now (cell (pos 0) (pos 0)) c.cells-others.ensures.cells c.cells-others.ensures.shape.polyform.some c.requires.to_near in
    wider 200000 2000000 _ (lit≤ tt) near

pub are_moved-requires-clause-shift : goal.are_moved-requires-clause-shift
are_moved-requires-clause-shift g c =
    let from = first_near 200000 c.args.from.now c.cells-cells.result.now (cell (pos 0) (pos 0)) c.cells-cells.ensures.cells c.cells-cells.ensures.shape.polyform.some c.requires.from_near in
    let to = first_near 200000 c.args.to.now c.cells-others.result.now (cell (pos 0) (pos 0)) c.cells-others.ensures.cells c.cells-others.ensures.shape.polyform.some c.requires.to_near in
    c.difference-v.ensures.within 200000 200000 from to

pub returns-clause-near : goal.returns-clause-near
returns-clause-near g c =
    let from = first_near 200000 c.args.from.now c.cells-cells.result.now (cell (pos 0) (pos 0)) c.cells-cells.ensures.cells c.cells-cells.ensures.shape.polyform.some c.requires.from_near in
    let to = first_near 200000 c.args.to.now c.cells-others.result.now (cell (pos 0) (pos 0)) c.cells-others.ensures.cells c.cells-others.ensures.shape.polyform.some c.requires.to_near in
    some_also (λ units. (n : ℕ) → IsWithin n c.difference-v.result → IsWithin n units) (IsWithin 400000) (λ units near. near 400000 (c.difference-v.ensures.within 200000 200000 from to)) c.units_of.result c.units_of.ensures.near

pub returns-then-not-are_moved-clause-none : goal.returns-then-not-are_moved-clause-none
returns-then-not-are_moved-clause-none g c w h =
    let lists = lists_read g.G.Grid.geometry c.args.from.now c.args.to.now c.cells-cells.result.now c.cells-others.result.now c.cells-cells.ensures.cells c.cells-others.ensures.cells c.cells-cells.ensures.shape.polyform c.cells-others.ensures.shape.polyform (cell (pos 0) (pos 0)) c.difference-v.result c.difference-v.ensures.is w h in
    true≢false (sym (c.are_moved.ensures.1 lists) ∙ c.if-not-are_moved.true)

pub returns-clause-some : goal.returns-clause-some
returns-clause-some g c =
    let met = g.met.G.Grid in
    let geometry = g.G.Grid.geometry in
    let v = c.difference-v.result in
    let xs = c.args.from.now in
    let ys = c.args.to.now in
    let unit = read_unit geometry met.laws c.UNIT.result (c.UNIT.ensures ∙ met.sizes.unit_is) in
    let lists : map (plus v) xs ≡ ys = ap (map (plus v)) (sym c.cells-cells.ensures.cells) ∙ c.are_moved.ensures.0 c.if-not-are_moved.false ∙ c.cells-others.ensures.cells in
    some_also (λ w. AreUnitsOf (read c.UNIT.result) w v) (IsStepBetween geometry xs ys) (λ w h. is_step geometry w v xs ys (of_units geometry (read c.UNIT.result) w v unit h) lists) c.units_of.result c.units_of.ensures.some

pub returns-clause-none : goal.returns-clause-none
returns-clause-none g c =
    let unit = read_unit g.G.Grid.geometry g.met.G.Grid.laws c.UNIT.result (c.UNIT.ensures ∙ g.met.G.Grid.sizes.unit_is) in
    none_also ((w : Cell) → AreUnitsOf (read c.UNIT.result) w c.difference-v.result → ⊥) ((w : Cell) → IsStepBetween g.G.Grid.geometry c.args.from.now c.args.to.now w → ⊥)
    (λ none w h. none w (in_units g.G.Grid.geometry (read c.UNIT.result) w c.difference-v.result unit (step_read g.G.Grid.geometry c.args.from.now c.args.to.now c.cells-cells.result.now c.cells-others.result.now c.cells-cells.ensures.cells c.cells-others.ensures.cells c.cells-cells.ensures.shape.polyform c.cells-others.ensures.shape.polyform (cell (pos 0) (pos 0)) c.difference-v.result c.difference-v.ensures.is w h)))
    c.units_of.result c.units_of.ensures.none
