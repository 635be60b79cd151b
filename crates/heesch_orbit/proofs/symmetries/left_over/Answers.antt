use Rattle.std.proofs.Common.{arith}
use Rattle.std.proofs.lemmas.Int.{ints}
use Rattle.heesch_grid.specs.Pairs.{Cell-eta}
use Rattle.heesch_orbit.proofs.symmetries.left_over.Goals as goal

pub returns-clause-is : goal.returns-clause-is
returns-clause-is c = Cell-eta _ _ (omega (arith, ints)) (omega (arith, ints))

pub returns-clause-within : goal.returns-clause-within
returns-clause-within c = record { a_low = omega (arith, ints); a_high = omega (arith, ints); b_low = omega (arith, ints); b_high = omega (arith, ints) }
