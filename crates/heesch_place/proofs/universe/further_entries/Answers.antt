use Rattle.std.proofs.Common.{◌≡◌, ◌+◌, map, Contains, sym, subst, arith}
use Rattle.heesch_grid.specs.declared.isometries.Iso.{Iso}
use Rattle.heesch_grid.specs.CoronaFormula.{Variable, IsAtLevel, IsUniverse}
use Rattle.heesch_grid.proofs.Images.{wider}
use Rattle.heesch_place.specs.Found.{IsBeyond}
use Rattle.heesch_place.specs.Spots.{AreSpotsOf, Formed, IsSpot, tile_at}
use Rattle.heesch_place.specs.Universes.{AddTiles}
use Rattle.heesch_place.proofs.Beside.{spots_near}
use Rattle.heesch_place.proofs.Universality.{level_added, level_up}
use Rattle.heesch_place.specs.declared.universe.Entry.{Entry}
use Rattle.heesch_place.proofs.universe.further_entries.Given as given
use Rattle.heesch_place.proofs.universe.further_entries.Goals as goal
use Rattle.heesch_place.proofs.universe.further_entries.Goals.{In_ok-spots}

abbrev variable : (g : given.Over) → Entry g.row.G.Denot → Variable
variable g e = record { level = e.level; tile = e.place.tile }

abbrev by : (g : given.Over) → Entry g.row.G.Denot → Iso
by g e = e.place.by

pub next_level-requires-clause-spots : goal.next_level-requires-clause-spots
next_level-requires-clause-spots g c s m =
    subst (λ (f : Formed). IsSpot g.G.Grid.geometry f.forms s) (sym c.in_ok-prototile.ensures) (c.loop-k.invariant.outer.are_spots s (subst (λ zs. Contains zs s) c.as_slice.ensures.value m))

pub next_level-requires-clause-near : goal.next_level-requires-clause-near
next_level-requires-clause-near g c s m =
    let f = c.args.forms.now in
    spots_near g.G.Grid.geometry g.met.G.Grid.laws f.forms f.shape c.shape-shape.ensures.forms c.requires.near c.loop-k.k c.loop-k.spots.items (let less = c.loop-k-test.true in let top = c.requires.level.1 in omega arith) c.loop-k.invariant.outer s (subst (λ zs. Contains zs s) c.as_slice.ensures.value m)

-- the spots of the next level
next : (g : given.Over) (c : In_ok-spots g) → AreSpotsOf g.G.Grid.geometry c.args.forms.now.forms (IsAtLevel g.G.Grid.geometry c.args.forms.now.shape (c.loop-k.k + 1)) c.in_ok-spots.spots.items
next g c =
    let geometry = g.G.Grid.geometry in
    let f = c.args.forms.now in
    let outer = c.in_ok-spots.spots.items in
    let B : Formed → _ → Type 0 = λ f zs. AreSpotsOf geometry f.forms (IsBeyond geometry f.shape (map (tile_at f.forms) zs)) outer in
    let made = subst (B f) c.as_slice.ensures.value (subst (λ f. B f c.as_slice.result.now) c.in_ok-prototile.ensures c.in_ok-spots.ensures) in
    record { are_spots = made.are_spots; listed = level_up geometry f.shape c.loop-k.k (map (tile_at f.forms) c.loop-k.spots.items) (map (tile_at f.forms) outer) c.loop-k.auto.k c.loop-k.invariant.outer.listed made.listed }

pub add_entries-requires-clause-spots : goal.add_entries-requires-clause-spots
add_entries-requires-clause-spots g c s m = (next g (goal.at.add_entries-requires-clause-spots g c).In_ok-spots).are_spots s (subst (λ zs. Contains zs s) c.as_slice-in-loop-k.ensures.value m)

pub add_entries-requires-clause-near : goal.add_entries-requires-clause-near
add_entries-requires-clause-near g c s m =
    let f = c.args.forms.now in
    wider 50000 100000 s.first (omega arith) (spots_near g.G.Grid.geometry g.met.G.Grid.laws f.forms f.shape c.shape-shape.ensures.forms c.requires.near (c.loop-k.k + 1) c.in_ok-spots.spots.items (let less = c.loop-k-test.true in let top = c.requires.level.1 in omega arith) (next g (goal.at.add_entries-requires-clause-near g c).In_ok-spots) s (subst (λ zs. Contains zs s) c.as_slice-in-loop-k.ensures.value m))

pub loop-k-preserved : goal.loop-k-preserved
loop-k-preserved g c =
    let geometry = g.G.Grid.geometry in
    let f = c.args.forms.now in
    let k = c.loop-k.k in
    let i = c.loop-k.invariant in
    let outer = next g (goal.at.loop-k-preserved g c).In_ok-spots in
    let new = c.add_entries.new.entries.items in
    let a = subst (λ zs. AddTiles (variable g) (by g) geometry f.shape (k + 1) (map (tile_at f.forms) zs) c.loop-k.entries.items new) c.as_slice-in-loop-k.ensures.value c.in_ok-add_entries.ensures in
    let both = level_added (variable g) (by g) geometry f.shape k (map (tile_at f.forms) c.in_ok-spots.spots.items) c.loop-k.entries.items new a i.universe i.least outer.listed in
    record { universe = both.0; least = both.1; outer = outer }

pub returns-clause-universe : goal.returns-clause-universe
returns-clause-universe g c =
    let low = c.requires.level.0 in
    let e : c.loop-k.k ≡ c.args.level = omega (arith, c.loop-k-test.false, c.loop-k.auto.k-end, low) in
    subst (λ n. IsUniverse g.G.Grid.geometry c.args.forms.now.shape n (map (variable g) c.loop-k.entries.items)) e c.loop-k.invariant.universe
