-- The clauses of the second formula: their form, their number and their size, by families.
use Rattle.std.proofs.Common.{◌≡◌, ap, subst, ◌∙◌, ℕ, ◌+◌, ◌-◌, ◌≤◌, List, [], ◌++◌, map, filter, length, get_or, arith}
use Rattle.std.specs.Prelude.{nat_le, nat_lt, ◌==◌, ◌&&◌, not}
use Rattle.std.specs.List.{enumerate_from}
use Rattle.std.proofs.lemmas.List.{length-append, get_or_append_left, get_or-append-add}
use Rattle.std.proofs.lemmas.List.Elements.{All-append, All-weaker}
use Rattle.std.proofs.lemmas.List.Sums.{sum_by-append}
use Rattle.heesch_cnf.specs.declared.literal.Lit.{Lit}
use Rattle.heesch_cnf.specs.Clauses.{IsClause, AreClauses, IsNew, IsWithin}
use Rattle.heesch_cnf.specs.Lines.{numbered}
use Rattle.heesch_grid.specs.declared.Cell.{Cell}
use Rattle.heesch_grid.specs.Cells.{has}
use Rattle.heesch_grid.specs.Clauses.{clause_of, no_variable, is_numbered, formula_size}
use Rattle.heesch_grid.specs.Geometry.{Geometry}
use Rattle.heesch_grid.specs.Placement.{touch}
use Rattle.heesch_grid.specs.CoronaFormula.{Variable, covers, first_clauses, covering_clauses, support_clauses}
use Rattle.heesch_grid.proofs.ListFacts.{All-from_members}
use Rattle.heesch_grid.proofs.WindowFacts.{map_member, flat_map_member}
use Rattle.heesch_cert.specs.Literals.{literals}
use Rattle.heesch_encode.specs.Owners.{common_clauses}
use Rattle.heesch_encode.proofs.ClauseLists.{clause_form, wider}
use Rattle.heesch_numbers.specs.OwnerCounts.{owners_of, vars_with}
use Rattle.heesch_numbers.proofs.OwnersByNumber.{owners_form}

-- ---- families 1 to 3

module _ (g : Geometry) (around : List Cell → List Cell) (shape : List Cell) (j : ℕ) (vars : List Variable) where
  first_form : AreClauses (length vars) (first_clauses literals around shape vars)
  first_form =
      All-from_members (IsClause (length vars)) (first_clauses literals around shape vars) (λ e m.
      let r = map_member (λ c. clause_of literals no_variable (covers 1 c) vars) (around shape) e m in
      subst (IsClause (length vars)) r.2 (clause_form vars no_variable (covers 1 r.0)))

  covering_form : AreClauses (length vars) (covering_clauses literals around shape j vars)
  covering_form =
      All-from_members (IsClause (length vars)) (covering_clauses literals around shape j vars) (λ e m.
      let r = flat_map_member (λ (x : ℕ × Variable). map (λ c. clause_of literals (is_numbered x.0) (covers (x.1.level + 1) c) vars) (filter (λ c. not (has shape c)) (around x.1.tile))) (filter (λ (x : ℕ × Variable). nat_lt x.1.level j) (enumerate_from 1 vars)) e m in
      let s = map_member (λ c. clause_of literals (is_numbered r.0.0) (covers (r.0.1.level + 1) c) vars) (filter (λ c. not (has shape c)) (around r.0.1.tile)) e r.2 in
      subst (IsClause (length vars)) s.2 (clause_form vars (is_numbered r.0.0) (covers (r.0.1.level + 1) s.0)))

  support_form : AreClauses (length vars) (support_clauses literals g vars)
  support_form =
      All-from_members (IsClause (length vars)) (support_clauses literals g vars) (λ e m.
      let r = map_member (λ (x : ℕ × Variable). clause_of literals (is_numbered x.0) (λ (y : ℕ × Variable). (y.1.level + 1 == x.1.level) && touch g y.1.tile x.1.tile) vars) (filter (λ (x : ℕ × Variable). nat_le 2 x.1.level) (enumerate_from 1 vars)) e m in
      subst (IsClause (length vars)) r.2 (clause_form vars (is_numbered r.0.0) (λ (y : ℕ × Variable). (y.1.level + 1 == r.0.1.level) && touch g y.1.tile r.0.1.tile)))

  pub common_form : AreClauses (length vars) (common_clauses g around shape j vars)
  common_form = All-append (IsClause (length vars)) (first_clauses literals around shape vars ++ covering_clauses literals around shape j vars) (support_clauses literals g vars) (All-append (IsClause (length vars)) (first_clauses literals around shape vars) (covering_clauses literals around shape j vars) first_form covering_form) support_form

  -- ---- all four, of the cells that several variables have

  module _ (owned : List Cell) where
    abbrev pub all_clauses : List (List Lit)
    all_clauses = common_clauses g around shape j vars ++ owners_of vars owned

    pub all_form : AreClauses (vars_with vars owned) all_clauses
    all_form =
        All-append (IsClause (vars_with vars owned)) (common_clauses g around shape j vars) (owners_of vars owned)
        (All-weaker (IsClause (length vars)) (IsClause (vars_with vars owned)) (λ e h. wider (length vars) (vars_with vars owned) e (omega arith) h) (common_clauses g around shape j vars) common_form)
        (owners_form vars owned)

    pub all_length : length all_clauses ≡ length (common_clauses g around shape j vars) + length (owners_of vars owned)
    all_length = length-append (common_clauses g around shape j vars) (owners_of vars owned)

    pub all_size : formula_size all_clauses ≡ formula_size (common_clauses g around shape j vars) + formula_size (owners_of vars owned)
    all_size = sum_by-append (λ (e : List Lit). length e) (common_clauses g around shape j vars) (owners_of vars owned)

-- ---- clauses of two lists

module _ (xs ys : List (List Lit)) where
  -- a number of the first
  pub in_first : (n : ℕ) → 1 ≤ n → n ≤ length xs → numbered (xs ++ ys) n ≡ numbered xs n
  in_first n low high = get_or_append_left xs ys [] (n - 1) (omega arith)

  -- a number of the second
  pub in_second : (n place : ℕ) → length xs + 1 + place ≡ n → numbered (xs ++ ys) n ≡ get_or ys place []
  in_second n place at = let e : n - 1 ≡ length xs + place = omega arith in ap (λ k. get_or (xs ++ ys) k []) e ∙ get_or-append-add xs ys place []

  pub both_new : (clause : List Lit) → IsNew xs clause → IsNew ys clause → IsNew (xs ++ ys) clause
  both_new clause a b = All-append (λ e. ¬ IsWithin e clause) xs ys a b

  pub first_new : (clause : List Lit) → IsNew (xs ++ ys) clause → IsNew xs clause
  first_new clause n k d l =
      let long = length-append xs ys in
      subst (λ e. ¬ IsWithin e clause) (get_or_append_left xs ys d k l) (n k d (omega arith))

  pub second_new : (clause : List Lit) → IsNew (xs ++ ys) clause → IsNew ys clause
  second_new clause n k d l =
      let long = length-append xs ys in
      subst (λ e. ¬ IsWithin e clause) (get_or-append-add xs ys k d) (n (length xs + k) d (omega arith))
