use Rattle.std.proofs.Common.{Global, Vec, sym, ap, subst, ◌∙◌, arith}
use Rattle.std.proofs.lemmas.Result.{IfOk-weaker}
use Rattle.heesch_grid.specs.Cells.{has}
use Rattle.heesch_grid.specs.CoronaFormula.{IsAtLevel}
use Rattle.heesch_grid.specs.Listing.{ListsExactly}
use Rattle.heesch_grid.proofs.Images.{wider}
use Rattle.heesch_place.specs.declared.spots.Spot.{Spot}
use Rattle.heesch_place.specs.Spots.{AreSpotsOf, IsBeside, spot_before}
use Rattle.heesch_place.proofs.Beside.{first_listed}
use Rattle.heesch_place.proofs.level.first_level.Goals as goal

pub beside-requires : goal.beside-requires
beside-requires g c d h = wider 200 5000 d (omega arith) (c.requires d (ap (λ zs. has zs d) (sym c.shape.ensures.shape) ∙ h))

pub returns : goal.returns
returns g c =
    let geometry = g.G.Grid.geometry in
    let f = c.args.forms.now in
    IfOk-weaker c.beside.result (λ (v : Vec Spot Global). ListsExactly spot_before (IsBeside geometry f.forms c.shape.result.now) v.items) (λ (v : Vec Spot Global). AreSpotsOf geometry f.forms (IsAtLevel geometry f.shape 1) v.items)
    (λ v l. first_listed geometry g.met.G.Grid.laws f.forms f.shape c.shape.ensures.forms v.items (subst (λ t. ListsExactly spot_before (IsBeside geometry f.forms t) v.items) c.shape.ensures.shape l)) c.beside.ensures.listed
