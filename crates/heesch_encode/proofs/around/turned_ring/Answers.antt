use Rattle.std.proofs.Common.{◌≡◌, ◌<◌, List, length, get_or, pos, true, sym, subst}
use Rattle.std.proofs.lemmas.List.Elements.{All-contains}
use Rattle.heesch_grid.specs.declared.Cell.{Cell}
use Rattle.heesch_grid.specs.declared.isometries.Iso.{Iso}
use Rattle.heesch_grid.specs.Cells.{has, origin}
use Rattle.heesch_grid.specs.Geometry.{IsAround, apply}
use Rattle.heesch_grid.specs.Vectors.{IsWithin}
use Rattle.heesch_grid.proofs.CellFacts.{has-is}
use Rattle.heesch_shape.proofs.Best.{image_small}
use Rattle.heesch_shape.proofs.Loops.{has_at}
use Rattle.heesch_shape.proofs.Sets.{images_hold}
use Rattle.heesch_place.specs.Steps.{IsFirstOf}
use Rattle.heesch_place.proofs.Moves.{first_of}
use Rattle.heesch_encode.proofs.MovedRings.{reach_within}
use Rattle.heesch_encode.proofs.around.turned_ring.Goals as goal

pub image-tile-requires-clause-within : goal.image-tile-requires-clause-within
image-tile-requires-clause-within g c =
    let met = g.met.G.Grid in
    let geometry = g.G.Grid.geometry in
    let by : Iso = record { turn = c.args.k; da = pos 0; db = pos 0 } in
    images_hold (IsWithin 1000000) (apply geometry by) c.args.shape.now (λ d h. image_small geometry met.laws c.args.k d c.requires.turn (c.requires.near d h))

pub returns : goal.returns
returns g c =
    let geometry = g.G.Grid.geometry in
    let tile : List Cell = c.image-tile.result in
    let s = c.cells.ensures.shape in
    let read : List Cell = c.cells.result.now in
    let e : read ≡ tile = c.cells.ensures.cells in
    let some : 0 < length read = subst (λ zs. 0 < length zs) (sym e) s.polyform.some in
    record {
      turned = tile;
      list = c.image-tile.ensures.list;
      first = subst (λ zs. IsFirstOf zs (get_or read 0 origin)) e (first_of read origin some);
      ring = c.in_ok-write_ring.ensures.listed;
      near = s.within (get_or read 0 origin) (subst (λ zs. has zs (get_or read 0 origin) ≡ true) e (has_at read 0 origin some));
      within = λ d m.
          let a = All-contains (IsAround geometry tile) c.write_ring.new.ring.items d c.in_ok-write_ring.ensures.listed.only m in
          reach_within geometry g.met.G.Grid.laws a.member d a.touching (s.within a.member (has-is tile a.member a.inside));
    }
