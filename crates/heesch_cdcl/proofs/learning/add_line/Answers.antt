use Rattle.std.proofs.Common.{◌≡◌, [], ◌∷◌, ◌++◌, sym, ◌∙◌, subst, rules}
use Rattle.heesch_cnf.specs.Clauses.{IsClause}
use Rattle.heesch_cdcl.specs.Searching.{IsSearching, Searches, SameFormula, formula_in}
use Rattle.heesch_cdcl.proofs.Lines.{clause_form, Searching-adds, Searches-own, Formula-own, pop-push}
use Rattle.heesch_cdcl.proofs.learning.add_line.Goals as goal
use Rattle.heesch_cdcl.proofs.learning.add_line.Goals.{After-go_back}

pub add-requires-clause-form : goal.add-requires-clause-form
add-requires-clause-form c =
    subst (IsClause c.args.work.now.trail.vars) (sym (c.in_ok-copy.ensures ∙ c.clause_in.ensures)) (clause_form c.args.work.now.trail.vars c.args.work.now.trail.clauses c.args.line c.requires.next.holds)

pub returns-then-is_err-clause-searching : goal.returns-then-is_err-clause-searching
returns-then-is_err-clause-searching c =
    let same : c.add.new.self ≡ c.args.work.now.trail = search rules in
    let lines = pop-push c.args.lines.now c.push.new.self c.pop.new.self _ c.in_ok-push.ensures.ok c.pop.ensures.rest in
    subst (λ ls. Searches ls c.add.new.self) (sym lines) (subst (Searches c.args.lines.now) (sym same) c.requires.searching)

-- what the search goes on with, over the formula as it was
added : (c : After-go_back) → IsSearching c.args.work.now.trail.vars (formula_in c.args.work.now.trail.clauses c.args.lines.now) (c.args.lines.now ++ c.args.line ∷ []) c.go_back.new.self.trail
added c =
    let t = c.args.work.now.trail in
    let add : c.add.new.self ≡ record t { clauses = t.clauses ++ c.in_ok-copy.copy ∷ [] } = search rules in
    Searching-adds t.vars (formula_in t.clauses c.args.lines.now) c.args.lines.now t c.add.new.self c.go_back.new.self.trail c.args.line c.args.level c.in_ok-copy.copy c.requires.searching c.requires.next
    (c.in_ok-copy.ensures ∙ c.clause_in.ensures) add c.go_back.ensures.back c.go_back.ensures.level c.go_back.ensures.valid

pub returns-clause-searching : goal.returns-clause-searching
returns-clause-searching c =
    let t = c.args.work.now.trail in
    let going = Searches-own t.vars (formula_in t.clauses c.args.lines.now) (c.args.lines.now ++ c.args.line ∷ []) c.go_back.new.self.trail (added (goal.at.returns-clause-searching c).After-go_back) in
    subst (λ ls. Searches ls c.go_back.new.self.trail) (sym c.in_ok-push.ensures.ok) going

pub returns-clause-formula : goal.returns-clause-formula
returns-clause-formula c =
    let t = c.args.work.now.trail in
    let same = Formula-own c.args.lines.now t (c.args.lines.now ++ c.args.line ∷ []) c.go_back.new.self.trail (added (goal.at.returns-clause-formula c).After-go_back) in
    subst (λ ls. SameFormula c.args.lines.now t ls c.go_back.new.self.trail) (sym c.in_ok-push.ensures.ok) same
