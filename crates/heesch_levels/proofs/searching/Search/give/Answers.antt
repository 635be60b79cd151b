use Rattle.std.proofs.Common.{sym, subst, ℕ, List, length, ◌&&◌, Bool}
use Rattle.std.specs.Prelude.{Option, nat_eq, nat_le}
use Rattle.std.specs.List.{list_any}
use Rattle.heesch_cnf.specs.Clauses.{IsClause}
use Rattle.heesch_grid.specs.Cells.{meet}
use Rattle.heesch_grid.specs.CoronaFormula.{Variable}
use Rattle.heesch_cert.specs.Cuts.{cut_clause}
use Rattle.heesch_encode.proofs.ClauseLists.{clause_form, wider}
use Rattle.heesch_levels.specs.declared.searching.Search.{Search}
use Rattle.heesch_levels.specs.Searching.{GoesOn}
use Rattle.heesch_levels.proofs.SearchFacts.{search_gives}
use Rattle.heesch_levels.proofs.searching.Search.give.Goals as goal

pub give-requires-clause-form : goal.give-requires-clause-form
give-requires-clause-form g c =
    let vars = c.args.asked.now.universe.vars in
    let cut = c.args.cut in
    let form : IsClause (length vars) (cut_clause vars cut) =
    clause_form vars (λ (x : ℕ × Variable). list_any (nat_eq x.0) cut.border) (λ (x : ℕ × Variable). nat_le x.1.level cut.level && meet x.1.tile cut.hole) in
    wider (length vars) c.args.self.now.solver.vars c.in_ok-clause.clause c.requires.search.within (subst (IsClause (length vars)) (sym c.in_ok-clause.ensures) form)

pub returns-clause-on : goal.returns-clause-on
returns-clause-on g c =
    let geometry = g.G.Grid.geometry in
    let a = c.args.asked.now in
    let s = c.args.self.now in
    subst (λ (h : Option (List Bool)). let t : Search = record { solver = c.give.new.self; turns = s.turns; cuts = c.push.new.self; holed = h } in GoesOn geometry a.universe a.free_levels s t) (sym c.keep_first.ensures)
    (search_gives geometry a.universe a.free_levels s c.give.new.self c.push.new.self c.args.cut c.in_ok-clause.clause c.args.values
    c.requires.search c.requires.up_to c.in_ok-clause.ensures c.in_ok-give.ensures.ok c.in_ok-push.ensures.ok c.in_ok-give.ensures.valid c.requires.kept)
