use Rattle.std.proofs.Common.{◌≡◌, ◌≤◌, ◌↔◌, ℕ, Bool, List, sym, subst}
use Rattle.heesch_cnf.specs.declared.literal.Lit.{Lit}
use Rattle.heesch_cnf.specs.Clauses.{Satisfies}
use Rattle.heesch_grid.specs.Clauses.{formula_size}
use Rattle.heesch_grid.specs.Corona.{AreCoronas, HasCoronas}
use Rattle.heesch_grid.specs.Statements.{chosen_layers}
use Rattle.heesch_cert.specs.Formulas.{IsCountedFormula}
use Rattle.heesch_encode.proofs.encoding.encode.Goals as goal

pub returns : goal.returns
returns g c =
    let geometry = g.G.Grid.geometry in
    let shape = c.args.shape.now in
    let j = c.args.level in
    let flat = c.in_ok-universe.field-0 in
    let e = c.in_ok-universe.ensures in
    let made = c.in_ok-formula.formula in
    let vars : made.vars ≡ flat.formula.vars = c.in_ok-formula.ensures.vars in
    let clauses : made.clauses ≡ flat.formula.clauses = c.in_ok-formula.ensures.clauses in
    record {
      universe = e.universe;
      shape = e.shape;
      level = e.level;
      formula = subst (λ n. IsCountedFormula c.args.version geometry shape j flat.universe.vars n made.clauses) (sym vars) (subst (IsCountedFormula c.args.version geometry shape j flat.universe.vars flat.formula.vars) (sym clauses) e.formula);
      fits = subst (λ cs. formula_size cs ≤ c.args.size) (sym clauses) e.fits;
      too_large = λ never. absurd cc;
      satisfiable = subst (λ (cs : List (List Lit)). ((values : ℕ → Bool) × Satisfies values cs) ↔ HasCoronas geometry shape j) (sym clauses) e.satisfiable;
      models = subst (λ (cs : List (List Lit)). (values : ℕ → Bool) → Satisfies values cs → AreCoronas geometry shape (chosen_layers values flat.universe.vars j)) (sym clauses) e.models;
    }
