use Rattle.std.proofs.Common.{◌≡◌, true, length, ap, subst, ◌∙◌, arith}
use Rattle.std.specs.Prelude.{◌↔◌}
use Rattle.std.proofs.lemmas.Option.{slice_get_within}
use Rattle.heesch_grid.specs.declared.isometries.Iso.{Iso}
use Rattle.heesch_torus.specs.Covers.{HasMaskAmong}
use Rattle.heesch_torus.specs.Variables.{TorusVariable}
use Rattle.heesch_torus.proofs.Valued.{one_more, values_more}
use Rattle.heesch_torus.proofs.cover.values_of.Goals as goal

pub loop-variable-preserved : goal.loop-variable-preserved
loop-variable-preserved g c =
    let by : c.variable.inside.by ≡ c.variable-item.result.by = ap (λ (x : TorusVariable). x.by) c.variable.view_is in
    let now : (c.is_among.result ≡ true) ↔ HasMaskAmong g.G.Grid.geometry c.args.torus.now.cells.now c.args.torus.now.triple c.args.masks.now c.variable-item.result.by =
    subst (λ (x : Iso). (c.is_among.result ≡ true) ↔ HasMaskAmong g.G.Grid.geometry c.args.torus.now.cells.now c.args.torus.now.triple c.args.masks.now x) by c.is_among.ensures in
    record {
      count = let long = one_more c.loop-variable.values c.is_among.result c.push.new.self c.in_ok-push.ensures.ok in let count = c.loop-variable.invariant.count in omega arith;
      each = values_more g.G.Grid.geometry c.args.torus.now.cells.now c.args.torus.now.triple c.args.masks.now c.args.variables.now c.loop-variable.variable-index c.variable-item.result c.loop-variable.values c.push.new.self c.is_among.result c.loop-variable-test.true c.variable-item.is c.in_ok-push.ensures.ok c.loop-variable.invariant.count now c.loop-variable.invariant.each;
    }

pub returns : goal.returns
returns g c =
    let last : c.loop-variable.variable-index ≡ length c.args.variables.now = omega (arith, c.loop-variable-test.false, c.loop-variable.auto.variable-index-end) in
    record {
      count = c.loop-variable.invariant.count ∙ last;
      each = λ k x at. c.loop-variable.invariant.each k x (let l = slice_get_within c.args.variables.now k x at in omega (arith, l, last)) at;
    }
