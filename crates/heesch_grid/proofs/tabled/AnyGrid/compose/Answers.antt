use Rattle.std.proofs.Common.{ap, ◌∙◌}
use Rattle.heesch_grid.specs.Pattern.{composed}
use Rattle.heesch_grid.proofs.Rotations.{rotations}
use Rattle.heesch_grid.proofs.tabled.AnyGrid.compose.Goals as goal

pub composed_turn-requires-clause-few : goal.composed_turn-requires-clause-few
composed_turn-requires-clause-few g c =
    let met = g.met.T.Tabled in
    (rotations g.T.Tabled.pattern c.NUMBERS.result (c.NUMBERS.ensures ∙ met.numbers) met.tests met.halves).0

pub returns : goal.returns
returns g c =
    let met = g.met.T.Tabled in
    c.composed_turn.ensures ∙ ap (λ n. composed n c.args.k c.args.l) (rotations g.T.Tabled.pattern c.NUMBERS.result (c.NUMBERS.ensures ∙ met.numbers) met.tests met.halves).1
