-- The clauses of a source: those of the lists, and then those of the pairs.
use Rattle.std.proofs.Common.{◌≡◌, refl, sym, ap, subst, ◌∙◌, ℕ, ◌+◌, ◌-◌, ◌<◌, ◌≤◌, List, [], ◌++◌, map, length, get_or, arith, All}
use Rattle.std.specs.Prelude.{sum, nat_lt}
use Rattle.std.proofs.lemmas.List.{length-map, length-append, get_or-map}
use Rattle.std.proofs.lemmas.List.Elements.{All-append, All-contains}
use Rattle.heesch_cnf.specs.declared.literal.Lit.{Lit}
use Rattle.heesch_cnf.specs.declared.values.Left.{Left}
use Rattle.heesch_cnf.specs.Clauses.{IsClause, AreClauses, IsNew}
use Rattle.heesch_cnf.specs.Left.{IsLeft}
use Rattle.heesch_cnf.specs.Lines.{numbered, refuting}
use Rattle.heesch_cnf.specs.Literals.{Values}
use Rattle.heesch_grid.specs.declared.Cell.{Cell}
use Rattle.heesch_grid.specs.Cells.{meet}
use Rattle.heesch_grid.specs.CoronaFormula.{exclusion_clauses}
use Rattle.heesch_grid.specs.Geometry.{Geometry, IsGrid}
use Rattle.heesch_grid.specs.Lattice.{Triple, IsTriple}
use Rattle.heesch_grid.specs.Listing.{IsRising}
use Rattle.heesch_grid.proofs.ListFacts.{All-from_members}
use Rattle.heesch_grid.proofs.WindowFacts.{map_member}
use Rattle.heesch_cert.specs.Literals.{literals}
use Rattle.heesch_encode.specs.Literals.{plus_all, lit_before}
use Rattle.heesch_numbers.specs.Common.{AllRemain}
use Rattle.heesch_numbers.specs.Seen.{IsSeen}
use Rattle.heesch_numbers.proofs.Newness.{new_where, where_new}
use Rattle.heesch_numbers.proofs.Seeing.{seen_left}
use Rattle.heesch_numbers.proofs.SourceForms.{in_first, in_second, both_new, first_new, second_new}
use Rattle.heesch_torus.specs.Covering.{AreNumbers}
use Rattle.heesch_torus.specs.Formula.{IsFormulaOf}
use Rattle.heesch_torus.specs.Variables.{TorusVariable, sets_of, AreVariables}
use Rattle.heesch_torus.proofs.Formulas.{formula_over}
use Rattle.heesch_torus.proofs.Numbering.{list_clauses, numbers_clause, rising_map}
use Rattle.heesch_tori.specs.Later.{later_counts}
use Rattle.heesch_tori.specs.Shared.{AreCellLists, AreReducedLists}
use Rattle.heesch_tori.specs.TorusView.{table_clauses}
use Rattle.heesch_tori.proofs.Pairs.{pairs_form, pairs_counted}

-- what is left of a cell's clause, by the list of the variables that have it
pub list_left : (values : Values) (list : List ℕ) (left : Left) → IsRising nat_lt list → IsSeen values ([] ++ plus_all list) left → IsLeft values (plus_all list) left
list_left values list left rising h = seen_left values (plus_all list) (plus_all list) (rising_map literals.plus lit_before list rising) (λ l m. m) (λ l m. m) left h

module _ (sets : List (List Cell)) (lists : List (List ℕ)) where
  pub clauses_are : table_clauses sets lists ≡ map plus_all lists ++ exclusion_clauses literals meet sets
  unfolding table_clauses
  clauses_are = refl

  lists_form : All (AreNumbers (length sets)) lists → AreClauses (length sets) (map plus_all lists)
  lists_form numbers = All-from_members (IsClause (length sets)) (map plus_all lists) (λ e m.
      let r = map_member plus_all lists e m in
      subst (IsClause (length sets)) r.2 (numbers_clause (length sets) r.0 (All-contains (AreNumbers (length sets)) lists r.0 numbers r.1)))

  pub clauses_form : All (AreNumbers (length sets)) lists → AreClauses (length sets) (table_clauses sets lists)
  clauses_form numbers = subst (AreClauses (length sets)) (sym clauses_are) (All-append (IsClause (length sets)) (map plus_all lists) (exclusion_clauses literals meet sets) (lists_form numbers) (pairs_form sets))

  -- the variables of the lists have places in the values
  pub lists_room : (n : ℕ) → length sets < n → All (AreNumbers (length sets)) lists → All (All (λ v. v < n)) lists
  lists_room n l numbers i d less =
      let r = (numbers i d less).in_range in
      λ k e m. let high = (r k e m).1 in omega arith

  pub lists_rising : All (AreNumbers (length sets)) lists → All (IsRising nat_lt) lists
  lists_rising numbers i d less = (numbers i d less).rising

  pub clauses_length : (later : List ℕ) → later ≡ later_counts sets → length (table_clauses sets lists) ≡ length lists + sum later
  clauses_length later counts =
      let whole = ap length clauses_are in
      let both = length-append (map plus_all lists) (exclusion_clauses literals meet sets) in
      let cells = length-map lists plus_all in
      let pairs = ap sum counts ∙ pairs_counted sets in
      omega (arith, whole, both, cells, pairs)

  -- the clause of a cell's number
  pub cell_numbered : (number : ℕ) → 1 ≤ number → number - 1 < length lists → numbered (table_clauses sets lists) number ≡ plus_all (get_or lists (number - 1) [])
  cell_numbered number some l =
      let cells = length-map lists plus_all in
      ap (λ cs. numbered cs number) clauses_are
      ∙ in_first (map plus_all lists) (exclusion_clauses literals meet sets) number some (omega arith)
      ∙ get_or-map plus_all lists (number - 1) [] [] l

  -- the clause of a pair's number
  pub pair_numbered : (number place : ℕ) → 1 ≤ number → length lists ≤ number - 1 → place ≡ number - 1 - length lists → numbered (table_clauses sets lists) number ≡ get_or (exclusion_clauses literals meet sets) place []
  pair_numbered number place some le is =
      let cells = length-map lists plus_all in
      ap (λ cs. numbered cs number) clauses_are ∙ in_second (map plus_all lists) (exclusion_clauses literals meet sets) number place (omega arith)

  -- when a clause is new
  module _ (vars : ℕ) (clause : List Lit) (form : IsClause vars clause) (values : Values) (refuted : values ≡ refuting clause) where
    pub clauses_new : AllRemain values (map plus_all lists) → IsNew (exclusion_clauses literals meet sets) clause → IsNew (table_clauses sets lists) clause
    clauses_new remain apart = subst (λ cs. IsNew cs clause) (sym clauses_are) (both_new (map plus_all lists) (exclusion_clauses literals meet sets) clause (new_where vars clause form values refuted (map plus_all lists) remain) apart)

    pub new_remain : IsNew (table_clauses sets lists) clause → AllRemain values (map plus_all lists)
    new_remain new = where_new vars clause form values refuted (map plus_all lists) (first_new (map plus_all lists) (exclusion_clauses literals meet sets) clause (subst (λ cs. IsNew cs clause) clauses_are new))

    pub new_apart : IsNew (table_clauses sets lists) clause → IsNew (exclusion_clauses literals meet sets) clause
    new_apart new = second_new (map plus_all lists) (exclusion_clauses literals meet sets) clause (subst (λ cs. IsNew cs clause) clauses_are new)

-- the source's formula is the torus formula
pub table_formula : (g : Geometry) → IsGrid g → (shape : List Cell) (t : Triple) → IsTriple t → (vars : List TorusVariable) → AreVariables g shape t vars → (lists : List (List ℕ)) → AreReducedLists g t (sets_of vars) lists → IsFormulaOf g shape t (length vars) (table_clauses (sets_of vars) lists)
table_formula g law shape t triple vars are lists reduced =
    formula_over g law shape t triple vars are (length vars) (table_clauses (sets_of vars) lists) refl
    (clauses_are (sets_of vars) lists ∙ ap (λ cs. cs ++ exclusion_clauses literals meet (sets_of vars)) (ap (map plus_all) reduced.is ∙ list_clauses g t (sets_of vars) reduced.covering reduced.are_covering))

pub sets_many : (vars : List TorusVariable) → length (sets_of vars) ≡ length vars
sets_many vars = length-map vars (λ (x : TorusVariable). x.cells)

pub clauses_form_of : (vars : List TorusVariable) (lists : List (List ℕ)) → AreCellLists (sets_of vars) lists → AreClauses (length vars) (table_clauses (sets_of vars) lists)
clauses_form_of vars lists are = subst (λ n. AreClauses n (table_clauses (sets_of vars) lists)) (sets_many vars) (clauses_form (sets_of vars) lists are.numbers)
