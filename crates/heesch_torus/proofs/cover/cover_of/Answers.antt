use Rattle.std.proofs.Common.{List, sym, subst}
use Rattle.heesch_torus.specs.Answer.{IsChosenCover}
use Rattle.heesch_torus.specs.Covers.{AreValuesOf}
use Rattle.heesch_torus.specs.Chosen.{chosen_tiling}
use Rattle.heesch_torus.specs.Variables.{TorusVariable, AreVariables}
use Rattle.heesch_torus.proofs.Outcomes.{if_ok}
use Rattle.heesch_torus.proofs.Valued.{valued_tiling}
use Rattle.heesch_torus.proofs.cover.cover_of.Goals as goal

pub variables_of-requires-clause-near : goal.variables_of-requires-clause-near
variables_of-requires-clause-near g c d h = (c.args.torus.now.maskable.cells d h).1

pub values_of-requires : goal.values_of-requires
values_of-requires g c = subst (AreVariables g.G.Grid.geometry c.args.torus.now.cells.now c.args.torus.now.triple) (sym c.as_slice.ensures.value) c.in_ok-variables.ensures

pub returns : goal.returns
returns g c =
    let geometry = g.G.Grid.geometry in
    let cells = c.args.torus.now.cells.now in
    let t = c.args.torus.now.triple in
    let vars : List TorusVariable = c.in_ok-variables.variables.items in
    let values = c.in_ok-values.values in
    let of : AreValuesOf geometry cells t c.args.masks.now vars values = subst (λ (vs : List TorusVariable). AreValuesOf geometry cells t c.args.masks.now vs values) c.as_slice.ensures.value c.in_ok-values.ensures in
    let chosen : IsChosenCover geometry cells t (chosen_tiling t c.as_slice-3.result.now c.as_slice-2.result.now) = subst (IsChosenCover geometry cells t) (λ i. chosen_tiling t (sym c.as_slice-3.ensures i) (sym c.as_slice-2.ensures.value i))
    (valued_tiling geometry g.met.G.Grid.laws cells c.requires.form t c.args.torus.now.maskable.triple vars c.in_ok-variables.ensures c.args.masks.now c.requires.exact.0 c.requires.exact.1 c.args.torus.now.maskable.few c.requires.exact.2 values of) in
    if_ok c.chosen_tiling.result (λ tiling is. subst (IsChosenCover geometry cells t) (sym is) chosen) c.chosen_tiling.ensures
