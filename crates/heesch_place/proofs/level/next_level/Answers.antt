use Rattle.std.proofs.Common.{◌≡◌, Global, Vec, filter, map, not, Contains, ap, subst, ◌∙◌, arith}
use Rattle.std.proofs.lemmas.List.Elements.{All-contains}
use Rattle.std.proofs.lemmas.Result.{IfOk-weaker}
use Rattle.heesch_place.specs.declared.spots.Spot.{Spot}
use Rattle.heesch_place.specs.Found.{IsBeyond}
use Rattle.heesch_place.specs.Spots.{AreSpotsOf, IsMarked, has_mark, tile_at}
use Rattle.heesch_place.proofs.Beside.{next_listed}
use Rattle.heesch_place.proofs.level.next_level.Given as given
use Rattle.heesch_place.proofs.level.next_level.Goals as goal
use Rattle.heesch_place.proofs.level.next_level.Goals.{After-as_slice}

marked : (g : given.Over) (c : After-as_slice g) (s : Spot) → Contains c.as_slice.result.now s → IsMarked c.in_ok-beside_some.field-0 s
marked g c s m = All-contains (IsMarked c.in_ok-beside_some.field-0) c.in_ok-spots.spots.items s c.in_ok-spots.ensures.only (subst (λ zs. Contains zs s) c.as_slice.ensures.value m)

pub others-requires : goal.others-requires
others-requires g c s m =
    let b = c.in_ok-beside_some.ensures.beside.only s (marked g (goal.at.others-requires g c).After-as_slice s m) in
    let inside = b.gives.is_spot.inside in
    omega (arith, inside, c.barred.ensures.are_forms)

pub returns : goal.returns
returns g c =
    let f = c.args.prototile.now.formed in
    let inner = map (tile_at f.forms) c.args.inner.now in
    let barred = c.barred.result.now in
    let clear = λ (s : Spot). not (has_mark barred s) in
    IfOk-weaker c.others.result (λ (v : Vec Spot Global). v.items ≡ filter clear c.as_slice.result.now) (λ (v : Vec Spot Global). AreSpotsOf g.G.Grid.geometry f.forms (IsBeyond g.G.Grid.geometry f.shape inner) v.items)
    (λ v e. next_listed g.G.Grid.geometry g.met.G.Grid.laws f.forms f.shape c.in_ok-beside_some.ensures.forms inner barred c.in_ok-beside_some.field-0 c.in_ok-spots.spots.items v.items c.barred.ensures c.in_ok-beside_some.ensures.beside c.in_ok-spots.ensures
    (e ∙ ap (filter clear) c.as_slice.ensures.value)) c.others.ensures
