use Rattle.std.proofs.Common.{◌++◌}
use Rattle.heesch_torus.specs.Domains.{AreUpTo}
use Rattle.heesch_torus.proofs.domains.add_domain.Given as goal

abbrev pub invariant-loop-triple : goal.invariant-loop-triple
invariant-loop-triple g l = AreUpTo g.G.Grid.geometry l.count l.tiles (l.all.items ++ l.triple-iterator)
