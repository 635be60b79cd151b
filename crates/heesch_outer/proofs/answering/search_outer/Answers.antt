use Rattle.std.proofs.Common.{◌+◌, subst}
use Rattle.heesch_levels.specs.UpTo.{IsAnswerUpTo}
use Rattle.heesch_outer.proofs.OuterLayers.{outer_spelled}
use Rattle.heesch_outer.proofs.answering.search_outer.Goals as goal

pub returns-in-Coronas-clause-searched : goal.returns-in-Coronas-clause-searched
returns-in-Coronas-clause-searched g c =
    let a = c.args in
    let geometry = g.G.Grid.geometry in
    let says = subst (IsAnswerUpTo a.limits.version geometry a.shape.now (a.h + 1) a.h a.limits.turns a.limits.size) c.in-Coronas.is c.in_ok-layers.ensures.answer in
    outer_spelled geometry a.shape.now a.h c.in-Coronas.layers says.count says
