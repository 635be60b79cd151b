use Rattle.std.proofs.Common.{subst}
use Rattle.heesch_grid.proofs.CellFacts.{has-is}
use Rattle.heesch_torus.specs.Repeats.{HasRepeat, HasNoRepeat}
use Rattle.heesch_torus.proofs.Images.{gives_residues, gives_none}
use Rattle.heesch_torus.proofs.residues.residues_of.Goals as goal

pub returns-then-has_repeat-clause-none : goal.returns-then-has_repeat-clause-none
returns-then-has_repeat-clause-none g c =
    let tiles = c.args.tiles.now in
    gives_none g.G.Grid.geometry g.met.G.Grid.laws tiles.cells.now (λ d m. (c.args.tiles.now.near d (has-is c.args.tiles.now.cells.now d m)).0) tiles.triple tiles.lattice c.args.by.now.iso c.args.by.now.range.turn c.sorted_image-residues.result.items c.sorted_image-residues.ensures.permutation
    (subst HasRepeat c.as_slice.ensures.value (c.has_repeat.ensures.repeat c.if-has_repeat.true))

pub returns-clause-found : goal.returns-clause-found
returns-clause-found g c =
    let tiles = c.args.tiles.now in
    gives_residues g.G.Grid.geometry g.met.G.Grid.laws tiles.cells.now (λ d m. (c.args.tiles.now.near d (has-is c.args.tiles.now.cells.now d m)).0) tiles.triple tiles.lattice c.args.by.now.iso c.args.by.now.range.turn c.sorted_image-residues.result.items c.sorted_image-residues.ensures.permutation c.sorted_image-residues.ensures.sorted
    (subst HasNoRepeat c.as_slice.ensures.value (c.has_repeat.ensures.none c.if-has_repeat.false))
