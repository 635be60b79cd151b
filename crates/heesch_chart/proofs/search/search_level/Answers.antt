use Rattle.std.proofs.Common.{length}
use Rattle.heesch_chart.proofs.search.search_level.Goals as goal

pub returns-in-Some : goal.returns-in-Some
returns-in-Some g c = c.refuted_at_once.ensures (length c.args.universe.now.vars)
