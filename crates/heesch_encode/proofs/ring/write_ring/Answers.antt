use Rattle.std.proofs.Common.{◌≡◌, ◌<◌, ◌++◌, length, take, get_or, true, sym, ap, ◌∙◌, subst, arith}
use Rattle.std.specs.Prelude.{flat_map}
use Rattle.std.proofs.lemmas.List.{take_all}
use Rattle.std.proofs.lemmas.List.Filters.{dedup_is}
use Rattle.heesch_grid.specs.Cells.{same_cell, cell_before, has, origin}
use Rattle.heesch_grid.specs.Geometry.{IsAround}
use Rattle.heesch_grid.specs.Listing.{ListsExactly}
use Rattle.heesch_grid.proofs.ListFacts.{same_listing}
use Rattle.heesch_grid.proofs.CellFacts.{cell_before-irreflexive, cell_before-asymmetric}
use Rattle.heesch_shape.proofs.Loops.{has_at}
use Rattle.heesch_encode.proofs.Rising.{pieces_more}
use Rattle.heesch_encode.proofs.Rings.{outer, ring_listed}
use Rattle.heesch_encode.proofs.ring.write_ring.Given as given
use Rattle.heesch_encode.proofs.ring.write_ring.Goals as goal
use Rattle.heesch_encode.proofs.ring.write_ring.Goals.{After-dedup}

pub add_touching-requires-clause-within : goal.add_touching-requires-clause-within
add_touching-requires-clause-within g c =
    let read = c.cells-c-items.result.now in
    c.cells-c-items.ensures.shape.within (get_or read c.loop-c.c-index origin) (subst (λ zs. has zs (get_or read c.loop-c.c-index origin) ≡ true) c.cells-c-items.ensures.cells (has_at read c.loop-c.c-index origin c.loop-c-test.true))

pub loop-c-preserved : goal.loop-c-preserved
loop-c-preserved g c =
    let geometry = g.G.Grid.geometry in
    let tile = c.args.tile.now in
    let i = c.loop-c.c-index in
    let e = c.cells-c-items.ensures.cells in
    let less : i < length tile = subst (λ zs. i < length zs) e c.loop-c-test.true in
    c.in_ok-add_touching.ensures ∙ (λ k. c.loop-c.invariant k ++ outer geometry tile (get_or (e k) i origin)) ∙ sym (pieces_more (outer geometry tile) tile i origin less)

-- the cells, sorted and each kept once, are those around the tile
listed : (g : given.Over) (c : After-dedup g) → ListsExactly cell_before (IsAround g.G.Grid.geometry c.args.tile.now) c.dedup.new.self.items
listed g c =
    let geometry = g.G.Grid.geometry in
    let tile = c.args.tile.now in
    let long = ap length c.cells-c-items.ensures.cells in
    let whole : take c.loop-c.c-index tile ≡ tile = take_all c.loop-c.c-index tile (omega (arith, c.loop-c-test.false, long)) in
    ring_listed geometry g.met.G.Grid.laws tile c.cells-c-items.ensures.shape.polyform.is_set c.loop-c.ring.items c.sort_unstable.new.self.items c.dedup.new.self.items (c.loop-c.invariant ∙ ap (flat_map (outer geometry tile)) whole) c.sort_unstable.ensures.permutation c.sort_unstable.ensures.sorted (dedup_is same_cell c.sort_unstable.new.self.items c.dedup.new.self.items c.dedup.ensures.filtered)

pub returns-clause-listed : goal.returns-clause-listed
returns-clause-listed g c = listed g (goal.at.returns-clause-listed g c).After-dedup

pub returns-clause-given : goal.returns-clause-given
returns-clause-given g c = λ around gives.
    same_listing cell_before cell_before-irreflexive cell_before-asymmetric (IsAround g.G.Grid.geometry c.args.tile.now) c.dedup.new.self.items (around c.args.tile.now) (listed g (goal.at.returns-clause-given g c).After-dedup) (gives c.args.tile.now c.cells-c-items.ensures.shape.polyform.is_set)
