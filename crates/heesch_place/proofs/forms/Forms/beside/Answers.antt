use Rattle.std.proofs.Common.{◌≡◌, Global, Vec, not, filter, Contains, ap, sym, subst, ◌∙◌, arith}
use Rattle.std.proofs.lemmas.Int.{ints}
use Rattle.std.proofs.lemmas.List.Elements.{All-contains}
use Rattle.std.proofs.lemmas.Result.{IfOk-weaker}
use Rattle.heesch_grid.specs.Cells.{has}
use Rattle.heesch_grid.specs.Geometry.{Touching}
use Rattle.heesch_grid.specs.Listing.{ListsExactly}
use Rattle.heesch_grid.specs.Pairs.{has-true}
use Rattle.heesch_grid.specs.Vectors.{IsWithin}
use Rattle.heesch_grid.proofs.CellFacts.{has-is}
use Rattle.heesch_grid.proofs.GridFacts.{touching_near}
use Rattle.heesch_grid.proofs.Images.{wider}
use Rattle.heesch_grid.proofs.ListFacts.{filter_member}
use Rattle.heesch_place.specs.declared.spots.Spot.{Spot}
use Rattle.heesch_place.specs.Found.{FromOne}
use Rattle.heesch_place.specs.Spots.{IsBeside, IsMarked, IsOver, has_mark, is_whole, spot_before, step_to}
use Rattle.heesch_place.proofs.Beside.{beside_listed}
use Rattle.heesch_place.proofs.forms.Forms.beside.Given as given
use Rattle.heesch_place.proofs.forms.Forms.beside.Goals as goal
use Rattle.heesch_place.proofs.forms.Forms.beside.Goals.{After-as_slice-2, After-as_slice-3}

pub over-requires : goal.over-requires
over-requires g c d h =
    let targets = c.in_ok-targets.targets.items in
    let m = has-true targets d (ap (λ zs. has zs d) (sym c.as_slice.ensures.value) ∙ h) in
    let t = All-contains (FromOne (Touching g.G.Grid.geometry) c.args.tile.now) targets d c.in_ok-targets.ensures.only m in
    let w = c.requires t.source (has-is c.args.tile.now t.source t.inside) in
    let n = touching_near g.G.Grid.geometry g.met.G.Grid.laws t.source d t.gives in
    record { a_low = omega (arith, ints, w.a_low, n.a_low); a_high = omega (arith, ints, w.a_high, n.a_high); b_low = omega (arith, ints, w.b_low, n.b_low); b_high = omega (arith, ints, w.b_high, n.b_high) }

-- the spots that are looked at have a mark
marked : (g : given.Over) (c : After-as_slice-2 g) (s : Spot) → Contains c.as_slice-2.result.now s → IsMarked c.in_ok-over.field-0 s
marked g c s m = All-contains (IsMarked c.in_ok-over.field-0) c.in_ok-spots.spots.items s c.in_ok-spots.ensures.only (subst (λ zs. Contains zs s) c.as_slice-2.ensures.value m)

pub whole-requires-clause-forms : goal.whole-requires-clause-forms
whole-requires-clause-forms g c s m =
    let inside = (marked g (goal.at.whole-requires-clause-forms g c).After-as_slice-2 s m).inside in
    omega (arith, inside, c.in_ok-over.ensures.are_forms)

pub whole-requires-clause-firsts : goal.whole-requires-clause-firsts
whole-requires-clause-firsts g c s m =
    wider c.in_ok-over.field-0.radius 100000 s.first (let small = c.in_ok-over.ensures.small in omega arith) (marked g (goal.at.whole-requires-clause-firsts g c).After-as_slice-2 s m).within

pub over-requires-2 : goal.over-requires-2
over-requires-2 g c d h = wider 5000 6000 d (omega arith) (c.requires d (ap (λ zs. has zs d) (sym c.cells.ensures.cells) ∙ h))

-- and so have those of them that lie whole units away
whole_marked : (g : given.Over) (c : After-as_slice-3 g) (s : Spot) → Contains c.as_slice-3.result.now s → IsMarked c.in_ok-over.field-0 s
whole_marked g c s m =
    let test = λ (s : Spot). is_whole g.G.Grid.geometry (step_to c.args.self.now.forms s) in
    let k = filter_member test c.as_slice-2.result.now s (subst (λ zs. Contains zs s) (c.as_slice-3.ensures.value ∙ c.in_ok-whole.ensures) m) in
    All-contains (IsMarked c.in_ok-over.field-0) c.in_ok-spots.spots.items s c.in_ok-spots.ensures.only (subst (λ zs. Contains zs s) c.as_slice-2.ensures.value k.0)

pub others-requires : goal.others-requires
others-requires g c s m =
    let inside = (whole_marked g (goal.at.others-requires g c).After-as_slice-3 s m).inside in
    omega (arith, inside, c.in_ok-over.ensures.are_forms, c.in_ok-over-2.ensures.are_forms)

pub returns-clause-listed : goal.returns-clause-listed
returns-clause-listed g c =
    let geometry = g.G.Grid.geometry in
    let forms = c.args.self.now.forms in
    let tile = c.args.tile.now in
    let own = c.in_ok-over-2.field-0 in
    let targets = c.in_ok-targets.targets.items in
    let spots = c.in_ok-spots.spots.items in
    let whole = c.in_ok-whole.whole.items in
    let clear = λ (s : Spot). not (has_mark own s) in
    let over = subst (λ zs. IsOver forms zs c.in_ok-over.field-0) c.as_slice.ensures.value c.in_ok-over.ensures in
    let over_own = subst (λ zs. IsOver forms zs own) c.cells.ensures.cells c.in_ok-over-2.ensures in
    IfOk-weaker c.others-2.result (λ (v : Vec Spot Global). v.items ≡ filter clear c.as_slice-3.result.now) (λ (v : Vec Spot Global). ListsExactly spot_before (IsBeside geometry forms tile) v.items)
    (λ kept e. beside_listed geometry g.met.G.Grid.laws forms tile targets own c.in_ok-over.field-0 spots whole kept.items c.in_ok-targets.ensures over_own over c.in_ok-spots.ensures
    (c.in_ok-whole.ensures ∙ ap (filter (λ (s : Spot). is_whole geometry (step_to forms s))) c.as_slice-2.ensures.value) (e ∙ ap (filter clear) c.as_slice-3.ensures.value)) c.others-2.ensures

pub returns-clause-near : goal.returns-clause-near
returns-clause-near g c =
    let at = (goal.at.returns-clause-near g c).After-as_slice-3 in
    let clear = λ (s : Spot). not (has_mark c.in_ok-over-2.field-0 s) in
    IfOk-weaker c.others-2.result (λ (v : Vec Spot Global). v.items ≡ filter clear c.as_slice-3.result.now) (λ (v : Vec Spot Global). (s : Spot) → Contains v.items s → IsWithin 20000 s.first)
    (λ kept e s m. wider c.in_ok-over.field-0.radius 20000 s.first (let small = c.in_ok-over.ensures.small in omega arith) (whole_marked g at s (filter_member clear c.as_slice-3.result.now s (subst (λ zs. Contains zs s) e m)).0).within) c.others-2.ensures
