use Rattle.std.proofs.Common.{rules}
use Rattle.heesch_cnf.specs.Lines.{IsSpent}
use Rattle.heesch_levels.proofs.SearchFacts.{no_final_with_model}
use Rattle.heesch_levels.proofs.searching.Search.judge.Goals as goal

pub returns-then-len-self-clause-ending : goal.returns-then-len-self-clause-ending
returns-then-len-self-clause-ending g c =
    let p = c.args.self.now.solver in
    let valid = c.requires.search.valid in
    let spent : IsSpent p.vars p.clauses p.turns p.log = search rules in
    (spent, no_final_with_model p c.args.values valid c.requires.kept)
