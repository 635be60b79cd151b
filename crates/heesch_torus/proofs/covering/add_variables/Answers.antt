use Rattle.std.proofs.Common.{◌≡◌, ◌+◌, List, take, sym, ap, ◌∙◌, subst}
use Rattle.heesch_grid.specs.declared.Cell.{Cell}
use Rattle.heesch_torus.specs.Variables.{TorusVariable, sets_of, IsReducedSet}
use Rattle.heesch_torus.specs.Covering.{AreCovering, AddsNumber}
use Rattle.heesch_torus.proofs.Numbering.{set_at, sets_more, sets_before, then_covering}
use Rattle.heesch_torus.proofs.covering.add_variables.Goals as goal

pub add_variable-requires-clause-cells : goal.add_variable-requires-clause-cells
add_variable-requires-clause-cells g c =
    let vars = c.args.sets.now.variables.now in
    let x = c.index-variables-before.result in
    let cells : c.as_slice.result.now ≡ c.index-variables-before.result.cells = c.as_slice.ensures.value ∙ ap (λ (x : TorusVariable). x.cells) c.variable.view_is in
    subst (IsReducedSet g.G.Grid.geometry c.args.sets.now.triple) (set_at vars c.loop-before.before x c.loop-before-test.true c.index-variables-before.is ∙ sym cells) (c.args.sets.now.sets c.loop-before.before _ (sets_before vars c.loop-before.before c.loop-before-test.true))

pub loop-before-preserved : goal.loop-before-preserved
loop-before-preserved g c =
    let vars = c.args.sets.now.variables.now in
    let i = c.loop-before.before in
    let x = c.index-variables-before.result in
    let cells : c.as_slice.result.now ≡ c.index-variables-before.result.cells = c.as_slice.ensures.value ∙ ap (λ (x : TorusVariable). x.cells) c.variable.view_is in
    let more = sets_more vars i x c.loop-before-test.true c.index-variables-before.is in
    subst (λ (sets : List (List Cell)). AreCovering g.G.Grid.geometry c.args.sets.now.triple sets c.add_variable.new.lists) (sym more.0)
    (then_covering g.G.Grid.geometry c.args.sets.now.triple (sets_of (take i vars)) x.cells (i + 1) c.loop-before.lists c.add_variable.new.lists more.1 c.loop-before.invariant
    (subst (λ (s : List Cell). AddsNumber g.G.Grid.geometry c.args.sets.now.triple s (c.loop-before.before + 1) c.loop-before.lists c.add_variable.new.lists) cells c.in_ok-add_variable.ensures))
