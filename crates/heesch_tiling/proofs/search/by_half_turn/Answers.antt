use Rattle.std.proofs.Common.{◌≡◌, ◌*◌, ◌≤◌, length, sym, subst, to_z, of_z, w32, arith}
use Rattle.std.proofs.lemmas.Int.{ints}
use Rattle.heesch_grid.specs.declared.Cell.{Cell}
use Rattle.heesch_grid.specs.Cells.{cell}
use Rattle.heesch_grid.specs.Pairs.{Cell-eta}
use Rattle.heesch_tiling.specs.Search.{IsSearch, HasShift, IsFirstByHalfTurn, NoTilingByHalfTurn}
use Rattle.heesch_tiling.proofs.Searching.{by_half_turn, never_by_half_turn, one_less, of_area, sides_small}
use Rattle.heesch_tiling.proofs.search.by_half_turn.Given as given
use Rattle.heesch_tiling.proofs.search.by_half_turn.Goals as goal
use Rattle.heesch_tiling.proofs.search.by_half_turn.Goals.{In_ok-area}

-- twice the shape has so many cells, at most 64
area_is : (g : given.Over) (c : In_ok-area g) → (g.G.Grid.geometry.per * c.in_ok-area.area ≡ length c.cells-cells.result.now * 2) × (c.in_ok-area.area ≤ 64)
area_is g c =
    let few : length c.cells-cells.result.now ≤ 32 = subst (λ xs. length xs ≤ 32) (sym c.cells-cells.ensures.cells) c.cells-cells.ensures.shape.few in
    let found = c.in_ok-area.ensures.found in
    (omega (arith, found.is, few), omega (arith, found.few, few))

pub returns-in-Some-first_shift-clause-found : goal.returns-in-Some-first_shift-clause-found
returns-in-Some-first_shift-clause-found g c =
    let geometry = g.G.Grid.geometry in
    let xs = c.cells-cells.result.now in
    let area = c.in_ok-area.area in
    let t = c.in-Some.triple in
    let v = c.in-Some-first_shift.v in
    let shift = c.in-Some-first_shift.ensures.found.holds.shift in
    let is = area_is g (goal.at.returns-in-Some-first_shift-clause-found g c).In_ok-area in
    let left = subst (IsSearch area (HasShift geometry xs)) c.in-Some.ensures.steps c.loop-triple.invariant in
    let sides = sides_small area t (of_area area (HasShift geometry xs) t c.next.new.self left) in
    let a : to_z w32 (of_z w32 v.a) ≡ v.a = omega (arith, ints, shift.a_from, shift.a_below, sides.0, is.1) in
    let b : to_z w32 (of_z w32 v.b) ≡ v.b = omega (arith, ints, shift.b_from, shift.b_below, sides.1, is.1) in
    subst (λ (z : Cell). IsFirstByHalfTurn geometry c.args.shape.now t z.a z.b) (Cell-eta v (cell (to_z w32 (of_z w32 v.a)) (to_z w32 (of_z w32 v.b))) (sym a) (sym b))
    (subst (λ ys. IsFirstByHalfTurn geometry ys t v.a v.b) c.cells-cells.ensures.cells (by_half_turn geometry g.met.G.Grid.laws xs area is.0 t c.next.new.self v left c.in-Some-first_shift.ensures.found))

pub loop-triple-preserved : goal.loop-triple-preserved
loop-triple-preserved g c =
    let shifts = HasShift g.G.Grid.geometry c.cells-cells.result.now in
    one_less c.in_ok-area.area shifts c.in-Some.triple c.next.new.self (λ w. c.in_default.ensures.none w.0 w.1) (subst (IsSearch c.in_ok-area.area shifts) c.in-Some.ensures.steps c.loop-triple.invariant)

pub returns-clause-none : goal.returns-clause-none
returns-clause-none g c =
    let geometry = g.G.Grid.geometry in
    let xs = c.cells-cells.result.now in
    subst (NoTilingByHalfTurn geometry) c.cells-cells.ensures.cells
    (never_by_half_turn geometry g.met.G.Grid.laws xs c.in_ok-area.area (area_is g (goal.at.returns-clause-none g c).In_ok-area).0 (subst (IsSearch c.in_ok-area.area (HasShift geometry xs)) c.in-None.ensures.steps.0 c.loop-triple.invariant))
