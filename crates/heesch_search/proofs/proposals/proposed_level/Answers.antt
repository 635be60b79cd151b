use Rattle.std.proofs.Common.{Option, subst}
use Rattle.std.specs.Prelude.{MatchOption}
use Rattle.heesch_cnf.specs.declared.version.Version.TheVariants.{Two}
use Rattle.heesch_cert.specs.Proofs.{IsTooLarge}
use Rattle.heesch_numbers.specs.Sourced.{Sourced}
use Rattle.heesch_search.specs.Said.{HasSource}
use Rattle.heesch_search.proofs.Saying.{some_level_says}
use Rattle.heesch_search.proofs.proposals.proposed_level.Goals as goal

pub returns-in-Some : goal.returns-in-Some
returns-in-Some g c =
    let geometry = g.G.Grid.geometry in
    let a = c.args in
    let shape = a.shape.now in
    let s = c.in-Some.source in
    let has = subst (λ (o : Option Sourced). MatchOption o (IsTooLarge Two geometry shape a.j a.size) (HasSource geometry shape a.j a.size)) c.in-Some.is c.in_ok-source_of.ensures in
    let form = c.cells-cells.ensures.shape.polyform in
    some_level_says geometry g.met.G.Grid.laws shape form a.j a.size s has a.free_levels a.turns c.judged_level.result c.judged_level.ensures.answer c.judged_level.ensures.at_once
