-- The torus formula over variables, and how many units a triple has.
use Rattle.std.proofs.Common.{◌≡◌, sym, ap, subst, ◌∙◌, ℕ, ◌*◌, ◌^◌, ◌≤◌, List, length, arith}
use Rattle.std.proofs.Math.Nat.{mul-le-mul_right}
use Rattle.std.proofs.lemmas.List.{length-map}
use Rattle.std.proofs.lemmas.List.Elements.{All-contains}
use Rattle.heesch_cnf.specs.declared.literal.Lit.{Lit}
use Rattle.heesch_cnf.specs.declared.log.Log.{Log}
use Rattle.heesch_cnf.specs.Lines.{clauses_with, FinalHolds, LinesAreNew, Refutes, IsSpent}
use Rattle.heesch_cnf.specs.Meaning.{LearnsAlone}
use Rattle.heesch_grid.specs.declared.Cell.{Cell}
use Rattle.heesch_grid.specs.declared.isometries.Iso.{Iso}
use Rattle.heesch_grid.specs.Geometry.{Geometry, IsGrid, image}
use Rattle.heesch_grid.specs.Lattice.{Triple, IsTriple, IsReduced}
use Rattle.heesch_grid.specs.TorusFormula.{IsReducedFrom, GivesResidues, torus_clauses}
use Rattle.heesch_grid.proofs.TorusFacts.{satisfiable_where_cover}
use Rattle.heesch_grid.proofs.ListFacts.{All-from_members}
use Rattle.heesch_grid.specs.Polyform.{IsPolyform}
use Rattle.heesch_cdcl.proofs.Counting.{few_lines}
use Rattle.heesch_cert.specs.Literals.{literals}
use Rattle.heesch_cert.specs.Proofs.{RefutesTorus}
use Rattle.heesch_cert.proofs.Bridge.{satisfied_log, log_satisfied}
use Rattle.heesch_cert.proofs.TorusSound.{refuted_torus_means_no_cover}
use Rattle.heesch_tiling.proofs.Spots.{window_small}
use Rattle.heesch_torus.specs.Answer.{IsRefutation, IsSpentSearch}
use Rattle.heesch_torus.specs.Covering.{AreCovering}
use Rattle.heesch_torus.specs.Domain.{HasDomain}
use Rattle.heesch_torus.specs.Formula.{reduced_cells, IsFormulaOf, HasModelWhereCover}
use Rattle.heesch_torus.specs.Variables.{TorusVariable, sets_of, AreVariables, IsReducedSet, AreReducedSets}
use Rattle.heesch_torus.proofs.Numbering.{reduced_listed}
use Rattle.heesch_torus.proofs.Solving.{none_given}

units_few : (per u n m : ℕ) → 1 ≤ per → per * u ≡ n * m → n ≤ 32 → m ≤ 12 → u ≤ 384
units_few per u n m some e few tiles =
    let a : 1 * u ≤ per * u = mul-le-mul_right u some in
    let b : n * m ≤ 32 * m = mul-le-mul_right m few in
    omega (arith, a, b, e, tiles)

-- a triple of a domain of at most 12 tiles of at most 32 cells has at most 384 units
pub domain_small : (g : Geometry) → IsGrid g → (n : ℕ) (t : Triple) → n ≤ 32 → HasDomain g n t → t.p * t.q ≤ 384
domain_small g law n t few d = units_few g.per (t.p * t.q) n d.tiles law.per_range.0 d.of_domain.area few d.few

-- such a triple has a list for each of at most 13,824 pairs
pub lists_few : (g : Geometry) → IsGrid g → (t : Triple) → t.p * t.q ≤ 384 → (sets : List (List Cell)) (lists : List (List ℕ)) → AreCovering g t sets lists → (slice : List (List ℕ)) → slice ≡ lists → length slice ≤ 13824
lists_few g law t small sets lists are slice same =
    let few = window_small g.unit t.p t.q law.unit_range.1 in
    let all = are.all in
    let long = ap length same in
    omega (arith, few, all, long, small)

-- residue sets are reduced and rise
pub reduced_sets : (g : Geometry) (shape : List Cell) (t : Triple) (vars : List TorusVariable) → AreVariables g shape t vars → AreReducedSets g t (sets_of vars)
reduced_sets g shape t vars are = All-from_members (IsReducedSet g t) (sets_of vars) (λ r m.
    let k = All-contains (λ r. (by : Iso) × GivesResidues g shape t r by) (sets_of vars) r are.listed.only m in
    let gives : GivesResidues g shape t r k.0 = k.1 in
    record {
      reduced = All-from_members (IsReduced g t) r (λ c n. (All-contains (IsReducedFrom g t (image g k.0 shape)) r c gives.lists.only n).reduced);
      rising = gives.lists.rising;
    })

pub formula_over : (g : Geometry) → IsGrid g → (shape : List Cell) (t : Triple) → IsTriple t → (vars : List TorusVariable) → AreVariables g shape t vars → (count : ℕ) (clauses : List (List Lit)) → count ≡ length vars → clauses ≡ torus_clauses literals (reduced_cells g t) (sets_of vars) → IsFormulaOf g shape t count clauses
formula_over g law shape t triple vars are count clauses e is = record {
  sets = sets_of vars;
  is_formula = record { are_variables = are.listed; reduced = reduced_cells g t; are_reduced = reduced_listed g t law triple; is = is };
  count = e ∙ sym (length-map vars (λ (x : TorusVariable). x.cells));
}

-- what a log says of the torus formula
module _ (g : Geometry) (law : IsGrid g) (shape : List Cell) where
  pub refuted_answer : IsPolyform g shape → (t : Triple) → IsTriple t → (vars : List TorusVariable) → AreVariables g shape t vars → (count : ℕ) (clauses : List (List Lit)) → count ≡ length vars → clauses ≡ torus_clauses literals (reduced_cells g t) (sets_of vars) → (log : Log) → LearnsAlone log.lines × Refutes count clauses log × LinesAreNew clauses log.lines → IsRefutation g shape t log
  refuted_answer form t triple vars are count clauses e is log outcome =
      let f : IsFormulaOf g shape t count clauses = formula_over g law shape t triple vars are count clauses e is in
      let none = none_given log outcome.0 in
      let refutes : RefutesTorus g shape t log = record { vars = f.sets; clauses = clauses; is_formula = f.is_formula; refutes = subst (λ n. Refutes n clauses log) f.count outcome.1 } in
      record {
        alone = none;
        refutes = refutes;
        new_lines = record { sets = f.sets; clauses = clauses; is_formula = f.is_formula; new_lines = outcome.2 };
        none = refuted_torus_means_no_cover g shape t log law form triple none refutes;
      }

  pub spent_answer : (t : Triple) → IsTriple t → (vars : List TorusVariable) → AreVariables g shape t vars → (count : ℕ) (clauses : List (List Lit)) → count ≡ length vars → clauses ≡ torus_clauses literals (reduced_cells g t) (sets_of vars) → (turns : ℕ) (log : Log) → LearnsAlone log.lines × IsSpent count clauses turns log × ((hints : List ℕ) → ¬ FinalHolds (clauses_with clauses log.lines) hints) → IsSpentSearch g shape t turns log
  spent_answer t triple vars are count clauses e is turns log outcome =
      let f : IsFormulaOf g shape t count clauses = formula_over g law shape t triple vars are count clauses e is in
      let spent : IsSpent (length f.sets) clauses turns log = subst (λ n. IsSpent n clauses turns log) f.count outcome.1 in
      record {
        alone = none_given log outcome.0;
        spent = record { vars = f.sets; clauses = clauses; is_formula = f.is_formula; is_spent = spent };
        unfinished = record {
          sets = f.sets;
          clauses = clauses;
          is_formula = f.is_formula;
          no_final = outcome.2;
          few = subst (λ n. n ≤ 3 ^ length f.sets) spent.used (few_lines (length f.sets) clauses log.lines spent.lines spent.new_lines);
        };
      }

-- the torus formula has a model exactly where the triple has a cover
pub model_where_cover : (g : Geometry) → IsGrid g → (shape : List Cell) → IsPolyform g shape → (t : Triple) → IsTriple t → (count : ℕ) (clauses : List (List Lit)) → IsFormulaOf g shape t count clauses → HasModelWhereCover g shape t clauses
model_where_cover g law shape form t triple count clauses f =
    let both = satisfiable_where_cover _ literals g shape t f.sets clauses law form triple f.is_formula in
    ((λ m. both.0 (m.0, log_satisfied m.0 clauses m.1)), (λ c. let m = both.1 c in (m.0, satisfied_log m.0 clauses m.1)))
