use Rattle.std.proofs.Common.{sym, subst, ◌∙◌}
use Rattle.heesch_grid.specs.Lattice.{IsReduced}
use Rattle.heesch_tiling.proofs.window.residue_number.Goals as goal

pub returns-clause-is : goal.returns-clause-is
returns-clause-is g c = c.number_of.ensures.is ∙ c.residue_of.ensures.is

pub returns-clause-reduced : goal.returns-clause-reduced
returns-clause-reduced g c = subst (IsReduced g.G.Grid.geometry c.args.triple) (sym c.number_of.ensures.is) c.residue_of.ensures.reduced
