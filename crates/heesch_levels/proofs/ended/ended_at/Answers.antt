use Rattle.std.proofs.Common.{◌∙◌, sym, ap, subst, ◌≤◌, rules}
use Rattle.heesch_grid.specs.Polyform.{IsPolyform}
use Rattle.heesch_place.specs.Universes.{Levels}
use Rattle.heesch_levels.proofs.LevelFacts.{at_once_from}
use Rattle.heesch_levels.proofs.ended.ended_at.Goals as goal

pub returns-clause-ended : goal.returns-clause-ended
returns-clause-ended g c =
    let asked = c.in_ok-asked.ensures.asked in
    let run = c.in_ok-ending.ensures in
    let level = ap (λ (u : Levels). u.level) c.in_ok-asked.ensures.universe ∙ c.in-Ok.ensures.level in
    record {
      polyform = subst (IsPolyform g.G.Grid.geometry) (sym asked.shape_is) c.cells-cells.ensures.shape.polyform;
      some = subst (λ n. 1 ≤ n) (sym level) c.requires.level.0;
      levels = asked.levels;
      search = run.on.search;
      ends = run.ending;
      at_once = at_once_from c.in_ok-search.search.solver c.run.new.self.solver c.in_ok-ending.ending run.at_once run.on.same c.in_ok-search.ensures.no_lines;
    }

pub run-requires-clause-search : goal.run-requires-clause-search
run-requires-clause-search g c = c.in_ok-search.ensures.search _ _ _ (search rules)
