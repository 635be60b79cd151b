use Rattle.std.proofs.Common.{◌≡◌, ◌∙◌, Bool, ap, subst}
use Rattle.std.specs.Prelude.{◌↔◌, IsTrue, IfOk}
use Rattle.heesch_levels.specs.UpTo.{SpellsUpTo}
use Rattle.heesch_place.specs.Universes.{Levels}
use Rattle.heesch_logs.specs.Near.{AreNearLayers}
use Rattle.heesch_judge.proofs.answers.are_layers.Goals as goal

pub returns : goal.returns
returns g c =
    let s = c.args.source.now in
    let layers = c.args.layers.now in
    let same : c.level-level.result ≡ s.universe.level = c.level-level.ensures.level ∙ ap (λ (u : Levels). u.level) c.universe.ensures in
    subst (λ n. IfOk c.spells_up_to.result (λ (yes : Bool). IsTrue yes ↔ (AreNearLayers layers.layers × SpellsUpTo g.G.Grid.geometry c.args.shape.now n c.args.free_levels layers))) same c.spells_up_to.ensures
