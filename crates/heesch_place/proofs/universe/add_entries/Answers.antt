use Rattle.std.proofs.Common.{◌≡◌, ◌+◌, [], ◌∷◌, ◌++◌, List, get_or, take, map, sym, ap, subst, ◌∙◌, arith}
use Rattle.std.proofs.Math.Seq.{take-length}
use Rattle.std.proofs.lemmas.List.{map-append, take_more}
use Rattle.heesch_grid.specs.declared.Cell.{Cell}
use Rattle.heesch_grid.specs.declared.isometries.Iso.{Iso}
use Rattle.heesch_grid.specs.Cells.{origin}
use Rattle.heesch_grid.specs.CoronaFormula.{Variable}
use Rattle.heesch_place.specs.declared.spots.Spot.{Spot}
use Rattle.heesch_place.specs.Spots.{tile_at}
use Rattle.heesch_place.specs.Universes.{AddTiles}
use Rattle.heesch_place.proofs.Gathering.{member_at}
use Rattle.heesch_place.proofs.Universality.{tiles_none, tiles_push}
use Rattle.heesch_place.specs.declared.universe.Entry.{Entry}
use Rattle.heesch_place.proofs.universe.add_entries.Given as given
use Rattle.heesch_place.proofs.universe.add_entries.Goals as goal

abbrev none : Spot
none = record { form = 0; first = origin }

abbrev variable : (g : given.Over) → Entry g.row.G.Denot → Variable
variable g e = record { level = e.level; tile = e.place.tile }

abbrev by : (g : given.Over) → Entry g.row.G.Denot → Iso
by g e = e.place.by

pub placement_at-place-requires-clause-is_spot : goal.placement_at-place-requires-clause-is_spot
placement_at-place-requires-clause-is_spot g c = c.requires.spots (get_or c.args.spots.now c.loop-spot.spot-index none) (member_at c.args.spots.now c.loop-spot.spot-index none c.loop-spot-test.true)

pub placement_at-place-requires-clause-first : goal.placement_at-place-requires-clause-first
placement_at-place-requires-clause-first g c = c.requires.near (get_or c.args.spots.now c.loop-spot.spot-index none) (member_at c.args.spots.now c.loop-spot.spot-index none c.loop-spot-test.true)

pub loop-spot-init : goal.loop-spot-init
loop-spot-init g c =
    let f = c.args.forms.now in
    let old = c.args.entries.now.items in
    subst (AddTiles (variable g) (by g) g.G.Grid.geometry f.shape c.args.level [] old) (sym c.reserve.ensures.items) (tiles_none (variable g) (by g) g.G.Grid.geometry f.shape c.args.level old)

pub loop-spot-preserved : goal.loop-spot-preserved
loop-spot-preserved g c =
    let f = c.args.forms.now in
    let spots = c.args.spots.now in
    let l = c.loop-spot in
    let i = l.spot-index in
    let s = get_or spots i none in
    let tile = tile_at f.forms in
    let new = c.add.new.all.items in
    let pushed = tiles_push (variable g) (by g) g.G.Grid.geometry f.shape c.args.level (map tile (take i spots)) (tile s) c.args.entries.now.items l.entries.items new _ l.invariant c.in_ok-add.ensures (ap (λ (t : List Cell). record { level = c.args.level; tile = t }) c.placement_at-place.ensures.tile) c.placement_at-place.ensures.least in
    let more : map tile (take (i + 1) spots) ≡ map tile (take i spots) ++ tile s ∷ [] = ap (map tile) (take_more spots i none c.loop-spot-test.true) ∙ map-append tile (take i spots) (s ∷ []) in
    subst (λ ts. AddTiles (variable g) (by g) g.G.Grid.geometry f.shape c.args.level ts c.args.entries.now.items new) (sym more) pushed

pub returns : goal.returns
returns g c =
    let f = c.args.forms.now in
    let spots = c.args.spots.now in
    let l = c.loop-spot in
    let all : take l.spot-index spots ≡ spots = ap (λ n. take n spots) (omega (arith, c.loop-spot-test.false, l.auto.spot-index-end)) ∙ take-length spots in
    subst (λ zs. AddTiles (variable g) (by g) g.G.Grid.geometry f.shape c.args.level (map (tile_at f.forms) zs) c.args.entries.now.items l.entries.items) all l.invariant
