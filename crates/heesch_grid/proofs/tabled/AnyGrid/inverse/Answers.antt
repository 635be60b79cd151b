use Rattle.std.proofs.Common.{◌∙◌}
use Rattle.heesch_grid.proofs.Rotations.{rotations}
use Rattle.heesch_grid.proofs.tabled.AnyGrid.inverse.Goals as goal

pub inverted_turn-requires-clause-few : goal.inverted_turn-requires-clause-few
inverted_turn-requires-clause-few g c =
    let met = g.met.T.Tabled in
    (rotations g.T.Tabled.pattern c.NUMBERS.result (c.NUMBERS.ensures ∙ met.numbers) met.tests met.halves).0
