use Rattle.std.proofs.Common.{◌≡◌, ◌++◌, List, ℕ, map, sym, ap, subst, ◌∙◌}
use Rattle.heesch_cert.specs.Literals.{literals}
use Rattle.heesch_encode.specs.Literals.{plus_all}
use Rattle.heesch_grid.specs.Cells.{meet}
use Rattle.heesch_grid.specs.CoronaFormula.{exclusion_clauses}
use Rattle.heesch_torus.specs.Variables.{sets_of}
use Rattle.heesch_tori.specs.TorusView.{TorusView}
use Rattle.heesch_tori.proofs.Clauses.{clauses_are}
use Rattle.heesch_tori.proofs.source.TorusSource.lists.Goals as goal

pub returns-clause-clauses : goal.returns-clause-clauses
returns-clause-clauses g c =
    let table = c.self.inside.table in
    subst (λ (s : TorusView). s.formula.clauses ≡ map plus_all c.lists.result.now ++ exclusion_clauses literals meet (sets_of s.variables)) c.self.view_is
    (clauses_are (sets_of table.variables) table.lists ∙ ap (λ (ls : List (List ℕ)). map plus_all ls ++ exclusion_clauses literals meet (sets_of c.self.inside.table.variables)) (sym c.lists.ensures.lists))
