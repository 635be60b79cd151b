use Rattle.std.proofs.Common.{not, ◌≤◌, List, length, take, IsTrue, ◌↔◌, subst, arith}
use Rattle.std.proofs.lemmas.List.{take_all}
use Rattle.heesch_cnf.specs.declared.literal.Lit.{Lit}
use Rattle.heesch_cnf.specs.Literals.{held}
use Rattle.heesch_cnf.specs.Clauses.{IsNew}
use Rattle.heesch_cnf.specs.Flat.{Clauses}
use Rattle.heesch_rup.specs.Listed.{SomeFalsified}
use Rattle.heesch_rup.proofs.Containing.{new_by_cases, not_new_when_some}
use Rattle.heesch_rup.proofs.indexed.IndexedFormulaNewnessSource.is_new.Goals as goal

pub returns : goal.returns
returns c =
    let clauses = c.self.inside.formula.now.clauses in
    let values = held c.args.values.now in
    let n = c.len-count.result in
    let clause = c.args.clause.now in
    let yes = not c.contains_listed.result in
    let few : n ≤ length clauses = omega (arith, c.len-count.ensures.count) in
    let all : length clauses ≤ n = omega (arith, c.len-count.ensures.count) in
    let turned = new_by_cases c.contains_listed.result (SomeFalsified values clauses n) (IsNew (take n clauses) clause) c.contains_listed.ensures (not_new_when_some values clauses n clause c.requires.refuted few) in
    subst (λ (x : Clauses). IsTrue yes ↔ IsNew x.clauses clause) c.self.view_is (subst (λ (cs : List (List Lit)). IsTrue yes ↔ IsNew cs clause) (take_all n clauses all) turned)
