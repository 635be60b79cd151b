-- A triple whose lattice a turn carries onto that of one without a cover has none.
use Rattle.std.proofs.Common.{◌≡◌, ◌∙◌, subst, sym, ap, List, true, All, Contains}
use Rattle.std.specs.List.{list_any}
use Rattle.std.proofs.lemmas.List.Elements.{All-contains}
use Rattle.heesch_grid.specs.declared.Cell.{Cell}
use Rattle.heesch_grid.specs.Geometry.{Geometry, IsGrid}
use Rattle.heesch_grid.specs.Lattice.{Triple}
use Rattle.heesch_grid.proofs.ListFacts.{any_member}
use Rattle.heesch_lattice.proofs.Covers.{covers_turn}
use Rattle.heesch_verdict.specs.Alike.{IsAlikeOne}
use Rattle.heesch_verdict.specs.Earliest.{HasNoCover}

pub none_alike : (g : Geometry) → IsGrid g → (shape : List Cell) (t : Triple) (others : List Triple) → IsAlikeOne g t others → All (HasNoCover g shape) others → HasNoCover g shape t
none_alike g law shape t others a none places cover =
    let turned = covers_turn g shape a.turn t a.other law a.below a.is_triple a.onto places cover in
    All-contains (HasNoCover g shape) others a.other none a.among turned.0 turned.1
