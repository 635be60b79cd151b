use Rattle.std.proofs.Common.{◌≡◌, ◌+◌, ◌<◌, List, map, length, get_or, true, sym, ap, ◌∙◌, subst, arith, All}
use Rattle.heesch_grid.specs.declared.Cell.{Cell}
use Rattle.heesch_grid.specs.declared.isometries.Iso.{Iso}
use Rattle.heesch_grid.specs.Polyform.{IsCellSet}
use Rattle.heesch_grid.specs.Cells.{cell_before, has, origin}
use Rattle.heesch_grid.specs.Geometry.{IsAround}
use Rattle.heesch_grid.specs.Listing.{ListsExactly}
use Rattle.heesch_grid.specs.Vectors.{IsWithin, plus}
use Rattle.heesch_grid.proofs.Images.{wider}
use Rattle.heesch_grid.proofs.ListFacts.{same_listing, All-from_members}
use Rattle.heesch_grid.proofs.CellFacts.{cell_before-irreflexive, cell_before-asymmetric}
use Rattle.heesch_shape.proofs.Loops.{has_at}
use Rattle.heesch_place.specs.Steps.{IsFirstOf}
use Rattle.heesch_place.proofs.Moves.{first_of}
use Rattle.heesch_encode.specs.Rings.{IsTurnedRing}
use Rattle.heesch_encode.proofs.MovedRings.{placed_ring}
use Rattle.heesch_numbers.proofs.surround.surround_of.Given as given
use Rattle.heesch_numbers.proofs.surround.surround_of.Goals as goal
use Rattle.heesch_numbers.proofs.surround.surround_of.Goals.{After-cells, After-index-rings-iso}

-- the ring that is read is that of the placement's turn
turned_ring : (g : given.Over) (c : After-index-rings-iso g) → IsTurnedRing g.G.Grid.geometry c.args.universe.now.shape c.iso.result.turn c.index-rings-iso.result
turned_ring g c =
    let turn = c.iso.result.turn in
    let by = ap (λ (i : Iso). i.turn) c.iso.ensures in
    let less : turn < length c.args.rings.now = omega (arith, by, c.placement_of-place.ensures.least.is_isometry, c.requires.rings.count) in
    subst (IsTurnedRing g.G.Grid.geometry c.args.universe.now.shape turn) (sym c.index-rings-iso.is) (c.requires.rings.each turn c.index-rings-iso.result less)

-- and the first cell of the tile lies where cells of shapes do
first_near : (g : given.Over) (c : After-cells g) → IsWithin 1000000 (get_or c.cells.result.now 0 origin)
first_near g c =
    let read : List Cell = c.cells.result.now in
    let s = c.cells.ensures.shape in
    let some : 0 < length read = subst (λ zs. 0 < length zs) (sym c.cells.ensures.cells) s.polyform.some in
    s.within (get_or read 0 origin) (subst (λ zs. has zs (get_or read 0 origin) ≡ true) c.cells.ensures.cells (has_at read 0 origin some))

pub difference-step-requires-clause-from : goal.difference-step-requires-clause-from
difference-step-requires-clause-from g c =
    wider 1000000 2000000 _ (omega arith) (turned_ring g (goal.at.difference-step-requires-clause-from g c).After-index-rings-iso).near

pub difference-step-requires-clause-to : goal.difference-step-requires-clause-to
difference-step-requires-clause-to g c = wider 1000000 2000000 _ (omega arith) (first_near g (goal.at.difference-step-requires-clause-to g c).After-cells)

pub invariant_of-result : goal.invariant_of-result
invariant_of-result g c =
    let at = goal.at.invariant_of-result g c in
    let r = turned_ring g at.After-index-rings-iso in
    record {
      near = subst (All (IsWithin 2000000)) (sym c.as_slice.ensures.value) (All-from_members (IsWithin 2000000) c.index-rings-iso.result.ring.items (λ z m. wider 1000004 2000000 z (omega arith) (r.within z m)));
      short = wider (1000000 + 1000000) 3000000 _ (omega arith) (c.difference-step.ensures.within 1000000 1000000 r.near (first_near g at.After-cells));
    }

pub returns : goal.returns
returns g c =
    let geometry = g.G.Grid.geometry in
    let shape = c.args.universe.now.shape in
    let at = goal.at.returns g c in
    let turned = c.index-rings-iso.result in
    let step = c.difference-step.result in
    let place = c.placement_of-place.result.now in
    let by = ap (λ (i : Iso). i.turn) c.iso.ensures in
    let r : IsTurnedRing geometry shape place.by.turn turned = subst (λ k. IsTurnedRing geometry shape k turned) by (turned_ring g at.After-index-rings-iso) in
    let read : List Cell = c.cells.result.now in
    let s = c.cells.ensures.shape in
    let e : read ≡ place.tile = c.cells.ensures.cells ∙ c.shape.ensures in
    let some : 0 < length read = subst (λ zs. 0 < length zs) (sym c.cells.ensures.cells) s.polyform.some in
    let first : IsFirstOf place.tile (get_or read 0 origin) = subst (λ zs. IsFirstOf zs (get_or read 0 origin)) e (first_of read origin some) in
    let ring : List Cell = c.as_slice.result.now in
    let placed : ListsExactly cell_before (IsAround geometry place.tile) (map (plus step) ring) =
    subst (λ zs. ListsExactly cell_before (IsAround geometry place.tile) (map (plus step) zs)) (sym c.as_slice.ensures.value) (placed_ring geometry g.met.G.Grid.laws shape place.tile place.by turned (get_or read 0 origin) step r c.placement_of-place.ensures.least.gives first c.difference-step.ensures.is)
    in
    record {
      listed = λ x number. subst (λ (zs : List Cell). ListsExactly cell_before (IsAround geometry zs) (map (plus step) ring)) (c.placement_of-place.ensures.tile x number) placed;
      given = λ x around number gives. same_listing cell_before cell_before-irreflexive cell_before-asymmetric (IsAround geometry x.tile) (map (plus step) ring) (around x.tile)
          (subst (λ (zs : List Cell). ListsExactly cell_before (IsAround geometry zs) (map (plus step) ring)) (c.placement_of-place.ensures.tile x number) placed)
          (gives x.tile (subst (IsCellSet geometry) (sym c.cells.ensures.cells ∙ e ∙ c.placement_of-place.ensures.tile x number) s.polyform.is_set));
    }
