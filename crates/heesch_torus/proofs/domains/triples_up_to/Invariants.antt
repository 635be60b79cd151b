use Rattle.std.proofs.Common.{◌-◌}
use Rattle.heesch_torus.specs.Domains.{AreUpTo}
use Rattle.heesch_torus.proofs.domains.triples_up_to.Given as goal

abbrev pub invariant-loop-tiles : goal.invariant-loop-tiles
invariant-loop-tiles g l = AreUpTo g.G.Grid.geometry l.count (l.tiles - 1) l.all.items
