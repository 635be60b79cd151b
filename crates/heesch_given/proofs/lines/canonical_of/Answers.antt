use Rattle.std.proofs.lemmas.List.Elements.{All-from_recursion, All-contains}
use Rattle.heesch_grid.specs.Vectors.{IsWithin}
use Rattle.heesch_grid.specs.Pairs.{has-true}
use Rattle.heesch_given.proofs.lines.canonical_of.Goals as goal

pub of-requires : goal.of-requires
of-requires g c = λ x h.
    All-contains (IsWithin 100000) c.args.cells.now x (All-from_recursion (IsWithin 100000) c.args.cells.now c.requires) (has-true c.args.cells.now x h)
