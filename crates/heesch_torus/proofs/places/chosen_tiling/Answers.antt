use Rattle.std.proofs.Common.{ap, ◌∙◌}
use Rattle.heesch_torus.specs.Variables.{TorusVariable}
use Rattle.heesch_torus.proofs.Choosing.{place_kept, place_passed}
use Rattle.heesch_torus.proofs.places.chosen_tiling.Goals as goal
use Rattle.heesch_torus.proofs.places.chosen_tiling.Goals.{then-values-at+in_ok-push, else-values-at}

pub loop-at-preserved : goal.loop-at-preserved
loop-at-preserved c =
    let vars = c.args.variables.now in
    let values = c.args.values.now in
    let x = c.index-variables-at.result in
    elim c.if-values-at.branch [
      | then-values-at+in_ok-push w ↦ w.places-is ∙ place_kept values vars c.loop-at.at x c.loop-at.places w.push.new.self c.variable.inside.by c.loop-at-test.true c.index-variables-at.is (ap (λ (x : TorusVariable). x.by) c.variable.view_is) w.if-values-at.true c.loop-at.invariant w.in_ok-push.ensures.ok
      | else-values-at w ↦ w.places-is ∙ place_passed values vars c.loop-at.at x c.loop-at.places c.loop-at-test.true c.index-variables-at.is w.if-values-at.false c.loop-at.invariant
    ]
