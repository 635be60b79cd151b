use Rattle.std.proofs.Common.{◌≡◌, ◌∙◌, List, All, ap, true, false, length, arith, rules, sym, subst, true≢false}
use Rattle.std.specs.Prelude.{None}
use Rattle.std.proofs.lemmas.Result.{IfOk-weaker}
use Rattle.heesch_grid.specs.declared.isometries.Iso.{Iso}
use Rattle.heesch_logs.specs.Near.{AreNearLayers}
use Rattle.heesch_logs.specs.Spelling.{IsSpelledAfter}
use Rattle.heesch_judge.proofs.Inner.{near_shape, spelled_up_to, unspelled}
use Rattle.heesch_logs.proofs.Spelled.{layers_in_range}
use Rattle.heesch_judge.proofs.coronas.spells_up_to.Goals as goal

pub are_spelled-requires-clause-shape : goal.are_spelled-requires-clause-shape
are_spelled-requires-clause-shape g c = near_shape g.G.Grid.geometry g.met.G.Grid.laws c.args.shape.now c.cells-cells.ensures.shape c.requires.canonical

pub returns-then-not-are_spelled : goal.returns-then-not-are_spelled
returns-then-not-are_spelled g c =
    let fails : c.are_spelled.result ≡ false = search rules in
    let Spelled : List (List Iso) → Type 0 = All (IsSpelledAfter g.G.Grid.geometry c.args.shape.now None) in
    unspelled g.G.Grid.geometry c.args.shape.now c.args.level c.args.free_levels c.args.layers.now
    (λ all. true≢false (sym (c.are_spelled.ensures.1 (subst Spelled (sym c.as_slice-isometries.ensures) all)) ∙ fails))

pub are_coronas_up_to-requires-clause-shape : goal.are_coronas_up_to-requires-clause-shape
are_coronas_up_to-requires-clause-shape g c = near_shape g.G.Grid.geometry g.met.G.Grid.laws c.args.shape.now c.cells-cells.ensures.shape c.requires.canonical

pub are_coronas_up_to-requires-clause-isometries : goal.are_coronas_up_to-requires-clause-isometries
are_coronas_up_to-requires-clause-isometries g c =
    let are_near : c.are_near_layers.result ≡ true = search rules in
    let are_spelled : c.are_spelled.result ≡ true = search rules in
    let Spelled : List (List Iso) → Type 0 = All (IsSpelledAfter g.G.Grid.geometry c.args.shape.now None) in
    layers_in_range g.G.Grid.geometry c.args.shape.now c.args.layers.now.layers (subst Spelled c.as_slice-isometries.ensures (c.are_spelled.ensures.0 are_spelled)) (subst AreNearLayers c.as_slice-isometries.ensures (c.are_near_layers.ensures.0 are_near))

pub returns : goal.returns
returns g c =
    let are_near : c.are_near_layers.result ≡ true = search rules in
    let are_spelled : c.are_spelled.result ≡ true = search rules in
    let Spelled : List (List Iso) → Type 0 = All (IsSpelledAfter g.G.Grid.geometry c.args.shape.now None) in
    let long : length c.as_slice-isometries.result.now ≡ length c.args.layers.now.layers = ap length c.as_slice-isometries.ensures in
    let count : length c.args.layers.now.layers ≡ c.args.level = omega arith in
    IfOk-weaker c.are_coronas_up_to.result _ _
    (λ told tells. spelled_up_to g.G.Grid.geometry c.args.shape.now c.args.level c.args.free_levels c.args.layers.now told count (subst AreNearLayers c.as_slice-isometries.ensures (c.are_near_layers.ensures.0 are_near)) (subst Spelled c.as_slice-isometries.ensures (c.are_spelled.ensures.0 are_spelled)) tells)
    c.are_coronas_up_to.ensures
