use Rattle.std.proofs.Common.{arith}
use Rattle.std.proofs.lemmas.Int.{ints}
use Rattle.heesch_grid.specs.Pairs.{Cell-eta}
use Rattle.heesch_grid.proofs.moves.moved.Goals as goal

pub returns : goal.returns
returns c = Cell-eta _ _ (omega (arith, ints)) (omega (arith, ints))
