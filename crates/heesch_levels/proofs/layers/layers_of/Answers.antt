use Rattle.std.proofs.Common.{◌≡◌, ◌+◌, ◌++◌, ◌∷◌, [], List, sym, subst, arith}
use Rattle.std.specs.List.{AllZip}
use Rattle.std.proofs.lemmas.List.FromFn.{map-range_with_len_more}
use Rattle.std.proofs.lemmas.Slice.Zip.{all_zipped_more}
use Rattle.heesch_grid.specs.declared.Cell.{Cell}
use Rattle.heesch_grid.specs.declared.isometries.Iso.{Iso}
use Rattle.heesch_cnf.specs.Clauses.{assignment_of}
use Rattle.heesch_grid.specs.Placement.{IsLeastIsometry}
use Rattle.heesch_grid.specs.Statements.{chosen_layer, chosen_layers}
use Rattle.heesch_levels.proofs.LayerLists.{layers_rise}
use Rattle.heesch_levels.proofs.layers.layers_of.Goals as goal

pub loop-below-preserved : goal.loop-below-preserved
loop-below-preserved g c =
    let u = c.args.universe.now in
    let values = assignment_of c.args.values.now in
    let k = c.loop-below.below in
    let R = λ (layer : List Iso) (placed : List (List Cell)). AllZip (λ by tile. IsLeastIsometry g.G.Grid.geometry u.shape tile by) layer placed in
    subst (λ layers. AllZip R layers (chosen_layers values u.vars (k + 1))) (sym c.in_ok-push.ensures.ok)
    (subst (λ tiles. AllZip R (c.loop-below.layers ++ c.in_ok-layer_of.field-0 ∷ []) tiles) (sym (map-range_with_len_more (chosen_layer values u.vars) 1 k (k + 1) (omega arith)))
    (all_zipped_more R c.loop-below.layers (chosen_layers values u.vars k) c.in_ok-layer_of.field-0 (chosen_layer values u.vars (k + 1)) c.loop-below.invariant c.in_ok-layer_of.ensures))

pub returns : goal.returns
returns g c =
    let u = c.args.universe.now in
    let values = assignment_of c.args.values.now in
    let R = λ (layer : List Iso) (placed : List (List Cell)). AllZip (λ by tile. IsLeastIsometry g.G.Grid.geometry u.shape tile by) layer placed in
    let all : c.loop-below.below ≡ u.level = omega (arith, c.loop-below.auto.below-end, c.loop-below-test.false, c.level-below-end.ensures.level) in
    record {
      isometries = subst (λ k. AllZip R c.loop-below.layers (chosen_layers values u.vars k)) all c.loop-below.invariant;
      rising = layers_rise values u.vars u.level c.count-count.ensures.universe.rising;
    }
