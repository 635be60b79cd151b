use Rattle.heesch_levels.proofs.SearchFacts.{search_learns}
use Rattle.heesch_levels.proofs.searching.Search.turn.Goals as goal

pub judge-requires-clause-search : goal.judge-requires-clause-search
judge-requires-clause-search g c =
    let a = c.args.asked.now in
    let e = c.in_ok-values.ensures in
    (search_learns g.G.Grid.geometry a.universe a.free_levels c.args.self.now c.next.new.self c.requires.search e.same e.learns e.valid).search

pub returns-in-Refuted-clause-on : goal.returns-in-Refuted-clause-on
returns-in-Refuted-clause-on g c =
    let a = c.args.asked.now in
    let e = c.in_ok-values.ensures in
    search_learns g.G.Grid.geometry a.universe a.free_levels c.args.self.now c.next.new.self c.requires.search e.same e.learns e.valid

pub returns-in-Spent-clause-on : goal.returns-in-Spent-clause-on
returns-in-Spent-clause-on g c =
    let a = c.args.asked.now in
    let e = c.in_ok-values.ensures in
    search_learns g.G.Grid.geometry a.universe a.free_levels c.args.self.now c.next.new.self c.requires.search e.same e.learns e.valid
