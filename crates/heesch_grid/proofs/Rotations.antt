-- Half the turns of a grid's tables are its rotations, and these are few.
use Rattle.std.proofs.Common.{◌≡◌, ◌*◌, ◌/◌, ◌≤◌, true, length, ap, arith}
use Rattle.heesch_grid.specs.declared.tabled.Numbers.{Numbers}
use Rattle.heesch_grid.specs.Pattern.{Pattern}
use Rattle.heesch_grid.specs.PatternTests.{passed, passes}
use Rattle.heesch_grid.specs.Tabled.{numbers_of}

pub rotations : (p : Pattern) (n : Numbers) → n ≡ numbers_of p → passes p ≡ true → length p.turns ≡ 2 * p.rotations → (n.turns / 2 ≤ 6) × (n.turns / 2 ≡ p.rotations)
rotations p n is tests halves =
    let turns : n.turns ≡ length p.turns = ap (λ n. n.turns) is in
    let few = (passed p tests).turns_high in
    (omega (arith, turns, few, halves), omega (arith, turns, halves))
