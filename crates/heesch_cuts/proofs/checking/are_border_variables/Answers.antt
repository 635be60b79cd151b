use Rattle.std.proofs.Common.{refl, sym}
use Rattle.std.proofs.lemmas.List.{take_all}
use Rattle.std.proofs.lemmas.List.Elements.{All-more, All-same}
use Rattle.heesch_cert.specs.Cuts.{IsBorderVariable}
use Rattle.heesch_cuts.proofs.checking.are_border_variables.Goals as goal

pub loop-n-preserved : goal.loop-n-preserved
loop-n-preserved g c =
    All-more (IsBorderVariable c.args.universe.now.vars c.args.level c.args.hole.now) c.args.border.now c.loop-n.n-index 0 c.loop-n-test.true c.loop-n.invariant (c.is_border_variable.ensures.0 c.if-not-is_border_variable.false)

pub returns : goal.returns
returns g c =
    let P = IsBorderVariable c.args.universe.now.vars c.args.level c.args.hole.now in
    ((λ t. All-same P c.args.border.now _ (sym (take_all c.loop-n.n-index c.args.border.now c.loop-n-test.false)) c.loop-n.invariant), λ h. refl)
