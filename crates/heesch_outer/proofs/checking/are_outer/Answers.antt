use Rattle.std.proofs.Common.{◌≡◌, ◌∙◌, ◌+◌, sym, length}
use Rattle.std.proofs.lemmas.Result.{IfOk-weaker}
use Rattle.heesch_logs.proofs.Equal.{through}
use Rattle.heesch_outer.proofs.OuterLayers.{outer_where_spelled}
use Rattle.heesch_outer.proofs.checking.are_outer.Goals as goal

pub returns : goal.returns
returns g c =
    let a = c.args in
    let layers = a.layers.now in
    let count : length layers.layers ≡ a.h + 1 = sym c.len.ensures ∙ c.if-len-h.false in
    IfOk-weaker c.spell_coronas.result _ _ (λ yes e. through e (outer_where_spelled g.G.Grid.geometry a.shape.now a.h layers count)) c.spell_coronas.ensures
