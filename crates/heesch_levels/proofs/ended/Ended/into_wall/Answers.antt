use Rattle.heesch_levels.proofs.LevelFacts.{wall_answer}
use Rattle.heesch_levels.proofs.ended.Ended.into_wall.Goals as goal

pub returns : goal.returns
returns g c = record {
  answer = λ version shape j turns size under.
      let geometry = g.G.Grid.geometry in
      let a = c.args.self.asked in
      wall_answer version geometry g.met.G.Grid.laws shape j turns size a.universe a.free_levels c.args.self.search c.args.self.ending c.requires under c.in_ok-answer.answer c.in_ok-holed.holed c.wall_of.result
      c.in_ok-answer.ensures.no_cut (c.in_ok-holed.ensures version under.formula) c.wall_of.ensures.same (c.wall_of.ensures.holes version geometry shape j turns size) (c.in_ok-answer.ensures.answer version shape j j turns size under);
}
