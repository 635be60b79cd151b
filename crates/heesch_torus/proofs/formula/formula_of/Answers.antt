use Rattle.std.proofs.Common.{List, ◌++◌, ap, ◌∙◌}
use Rattle.heesch_cnf.specs.declared.literal.Lit.{Lit}
use Rattle.heesch_cert.specs.Literals.{literals}
use Rattle.heesch_grid.specs.Cells.{meet}
use Rattle.heesch_grid.specs.CoronaFormula.{exclusion_clauses}
use Rattle.heesch_torus.specs.Variables.{sets_of}
use Rattle.heesch_torus.proofs.Numbering.{list_clauses}
use Rattle.heesch_torus.proofs.formula.formula_of.Goals as goal

pub returns-clause-clauses : goal.returns-clause-clauses
returns-clause-clauses g c =
    let incidence = c.args.incidence.now in
    c.in_ok-add_pair_clauses.ensures.adds.clauses
    ∙ ap (λ (cs : List (List Lit)). cs ++ exclusion_clauses literals meet (sets_of c.args.incidence.now.sets.now.variables.now))
    (c.in_ok-formula.ensures.clauses ∙ list_clauses g.G.Grid.geometry incidence.sets.now.triple (sets_of incidence.sets.now.variables.now) incidence.lists.now incidence.covering)
