use Rattle.std.proofs.Common.{[], map, Contains, sym, subst, arith}
use Rattle.std.proofs.lemmas.List.Elements.{All-nil}
use Rattle.heesch_grid.specs.declared.isometries.Iso.{Iso}
use Rattle.heesch_grid.specs.CoronaFormula.{Variable, IsUniverse}
use Rattle.heesch_grid.specs.Placement.{IsLeastIsometry}
use Rattle.heesch_grid.proofs.Images.{wider}
use Rattle.heesch_place.specs.Spots.{tile_at}
use Rattle.heesch_place.specs.Universes.{AddTiles, HaveLeast}
use Rattle.heesch_place.proofs.Beside.{spots_near}
use Rattle.heesch_place.proofs.Universality.{universe_none, level_added}
use Rattle.heesch_place.specs.declared.universe.Entry.{Entry}
use Rattle.heesch_place.proofs.universe.entries_of.Given as given
use Rattle.heesch_place.proofs.universe.entries_of.Goals as goal
use Rattle.heesch_place.proofs.universe.entries_of.Goals.{In_ok-add_entries}

abbrev variable : (g : given.Over) → Entry g.row.G.Denot → Variable
variable g e = record { level = e.level; tile = e.place.tile }

abbrev by : (g : given.Over) → Entry g.row.G.Denot → Iso
by g e = e.place.by

pub add_entries-requires-clause-spots : goal.add_entries-requires-clause-spots
add_entries-requires-clause-spots g c s m = c.in_ok-spots.ensures.are_spots s (subst (λ zs. Contains zs s) c.as_slice.ensures.value m)

pub add_entries-requires-clause-near : goal.add_entries-requires-clause-near
add_entries-requires-clause-near g c s m =
    let f = c.args.forms.now in
    wider 50000 100000 s.first (omega arith) (spots_near g.G.Grid.geometry g.met.G.Grid.laws f.forms f.shape c.shape-shape.ensures.forms c.requires.near 1 c.in_ok-spots.spots.items (omega arith) c.in_ok-spots.ensures s (subst (λ zs. Contains zs s) c.as_slice.ensures.value m))

-- the variables of the first level
first : (g : given.Over) (c : In_ok-add_entries g) → IsUniverse g.G.Grid.geometry c.args.forms.now.shape 1 (map (variable g) c.add_entries.new.entries.items) × HaveLeast (variable g) (by g) g.G.Grid.geometry c.args.forms.now.shape c.add_entries.new.entries.items
first g c =
    let geometry = g.G.Grid.geometry in
    let f = c.args.forms.now in
    let spots = c.in_ok-spots.spots.items in
    let new = c.add_entries.new.entries.items in
    let a = subst (λ zs. AddTiles (variable g) (by g) geometry f.shape 1 (map (tile_at f.forms) spots) zs new) c.new-entries.ensures.items
    (subst (λ zs. AddTiles (variable g) (by g) geometry f.shape 1 (map (tile_at f.forms) zs) c.new-entries.result.items new) c.as_slice.ensures.value c.in_ok-add_entries.ensures) in
    level_added (variable g) (by g) geometry f.shape 0 (map (tile_at f.forms) spots) [] new a (universe_none geometry f.shape) (All-nil (λ e. IsLeastIsometry geometry f.shape (variable g e).tile (by g e))) c.in_ok-spots.ensures.listed

pub returns-then-level-eq1-clause-universe : goal.returns-then-level-eq1-clause-universe
returns-then-level-eq1-clause-universe g c =
    subst (λ n. IsUniverse g.G.Grid.geometry c.args.forms.now.shape n (map (variable g) c.add_entries.new.entries.items)) (sym c.if-level-eq1.true) (first g (goal.at.returns-then-level-eq1-clause-universe g c).In_ok-add_entries).0

pub returns-then-level-eq1-clause-least : goal.returns-then-level-eq1-clause-least
returns-then-level-eq1-clause-least g c = (first g (goal.at.returns-then-level-eq1-clause-least g c).In_ok-add_entries).1

pub further_entries-requires-clause-inner : goal.further_entries-requires-clause-inner
further_entries-requires-clause-inner g c = (first g (goal.at.further_entries-requires-clause-inner g c).In_ok-add_entries).0

pub further_entries-requires-clause-least : goal.further_entries-requires-clause-least
further_entries-requires-clause-least g c = (first g (goal.at.further_entries-requires-clause-least g c).In_ok-add_entries).1
