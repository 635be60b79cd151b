-- What is left of the clause of a number, found in its family.
use Rattle.std.proofs.Common.{◌≡◌, refl, sym, ap, subst, ◌∙◌, ℕ, ◌+◌, ◌-◌, ◌<◌, ◌≤◌, List, [], length, get_or, arith}
use Rattle.std.specs.Prelude.{sum, flat_map}
use Rattle.std.specs.List.{enumerate_from}
use Rattle.std.proofs.lemmas.List.FromFn.{length-enumerate_from}
use Rattle.heesch_cnf.specs.declared.literal.Lit.{Lit}
use Rattle.heesch_cnf.specs.declared.values.Left.{Left}
use Rattle.heesch_cnf.specs.Literals.{Values}
use Rattle.heesch_cnf.specs.Left.{IsLeft}
use Rattle.heesch_cnf.specs.Lines.{numbered}
use Rattle.heesch_grid.specs.declared.Cell.{Cell}
use Rattle.heesch_grid.specs.Cells.{origin}
use Rattle.heesch_grid.specs.Geometry.{Geometry}
use Rattle.heesch_grid.specs.Clauses.{clause_of, no_variable}
use Rattle.heesch_grid.specs.CoronaFormula.{Variable, IsNumbered, covers}
use Rattle.heesch_grid.proofs.ClauseFacts.{entry_made, entry_same}
use Rattle.heesch_cert.specs.Literals.{literals}
use Rattle.heesch_place.specs.Universes.{Levels}
use Rattle.heesch_encode.specs.Families.{covering_at}
use Rattle.heesch_encode.proofs.Numbered.{no_entry}
use Rattle.heesch_encode.proofs.Pieces.{some_at, entry_read, covering_family}
use Rattle.heesch_numbers.specs.Counts.{FallsIn}
use Rattle.heesch_numbers.specs.Common.{common_of, covering_counts}
use Rattle.heesch_numbers.proofs.Counting.{found}
use Rattle.heesch_numbers.proofs.Numbering.{first_of_all, covering_of_all, support_of_all, first_count, covering_count, common_count, in_first, in_covering, in_support, first_numbered, support_clause, support_count, support_numbered}

-- the entry at a place is that of the next number
entry_is : (vars : List Variable) (part : ℕ) (x : Variable) → part < length vars → IsNumbered vars (part + 1) x → get_or (enumerate_from 1 vars) part no_entry ≡ (part + 1, x)
entry_is vars part x l number =
    let y = get_or vars (part + 1 - 1) no_entry.1 in
    let other = some_at vars (part + 1) (omega arith) (omega arith) in
    let same : y ≡ x = entry_same vars (part + 1, y) (part + 1, x) (entry_made vars (part + 1) y other) (entry_made vars (part + 1) x number) refl in
    entry_read vars part l ∙ (λ i. (part + 1, same i))

module _ (g : Geometry) (around : List Cell → List Cell) (u : Levels) (first : List Cell) (first_is : first ≡ around u.shape) where
  pub first_long : length first ≡ length (first_of_all g around u)
  first_long = ap length first_is ∙ sym (first_count g around u)

  pub first_case : (values : Values) (left : Left) (number : ℕ) → number - 1 < length first → IsLeft values (clause_of literals no_variable (covers 1 (get_or first (number - 1) origin)) u.vars) left → IsLeft values (numbered (common_of g around u) number) left
  first_case values left number l h =
      let long = first_long in
      subst (λ (clause : List Lit). IsLeft values clause left) (sym (in_first g around u (number - 1) (omega (arith, l, long)) ∙ first_numbered g around u first (number - 1) first_is l)) h

  module _ (counts : List ℕ) (counts_are : counts ≡ covering_counts around u) where
    pub covering_long : sum counts ≡ length (covering_of_all g around u)
    covering_long = ap sum counts_are ∙ covering_count g around u

    covering_found : (place part rest : ℕ) → FallsIn counts place part rest →
        (part < length (enumerate_from 1 u.vars)) × (rest < length (covering_at around u.shape u.level u.vars (get_or (enumerate_from 1 u.vars) part no_entry))) × (get_or (flat_map (covering_at around u.shape u.level u.vars) (enumerate_from 1 u.vars)) place [] ≡ get_or (covering_at around u.shape u.level u.vars (get_or (enumerate_from 1 u.vars) part no_entry)) rest [])
    covering_found place part rest f = found (covering_at around u.shape u.level u.vars) (enumerate_from 1 u.vars) place part rest no_entry [] (subst (λ ns. FallsIn ns place part rest) counts_are f)

    pub part_range : (place part rest : ℕ) → FallsIn counts place part rest → part < length u.vars
    part_range place part rest f = let long = length-enumerate_from 1 u.vars in let l = (covering_found place part rest f).0 in omega (arith, long, l)

    pub covering_fits : (place part rest : ℕ) (x : Variable) → FallsIn counts place part rest → IsNumbered u.vars (part + 1) x → rest < length (covering_at around u.shape u.level u.vars (part + 1, x))
    covering_fits place part rest x f number =
        subst (λ (e : ℕ × Variable). rest < length (covering_at around u.shape u.level u.vars e)) (entry_is u.vars part x (part_range place part rest f) number) (covering_found place part rest f).1

    pub covering_case : (values : Values) (left : Left) (number place part rest : ℕ) (x : Variable) → length first ≤ number - 1 → place ≡ number - 1 - length first → place < sum counts → FallsIn counts place part rest → IsNumbered u.vars (part + 1) x →
        IsLeft values (get_or (covering_at around u.shape u.level u.vars (part + 1, x)) rest []) left → IsLeft values (numbered (common_of g around u) number) left
    covering_case values left number place part rest x le is less f numbered_x h =
        let long = first_long in
        let total = covering_long in
        let e : get_or (common_of g around u) (number - 1) [] ≡ get_or (covering_of_all g around u) (number - 1 - length (first_of_all g around u)) [] = in_covering g around u (number - 1) (omega (arith, le, long)) (omega (arith, is, less, total, long)) in
        let k : number - 1 - length (first_of_all g around u) ≡ place = omega (arith, is, long) in
        let at : get_or (covering_of_all g around u) place [] ≡ get_or (covering_at around u.shape u.level u.vars (part + 1, x)) rest [] =
        ap (λ cs. get_or cs place []) (sym (covering_family g around u.shape u.level u.vars)) ∙ (covering_found place part rest f).2 ∙ ap (λ (e : ℕ × Variable). get_or (covering_at around u.shape u.level u.vars e) rest []) (entry_is u.vars part x (part_range place part rest f) numbered_x)
        in
        subst (λ (clause : List Lit). IsLeft values clause left) (sym (e ∙ ap (λ k. get_or (covering_of_all g around u) k []) k ∙ at)) h

    module _ (lowest : ℕ) (within : lowest ≤ length u.vars) (low : (n : ℕ) (x : Variable) → IsNumbered u.vars n x → n ≤ lowest → x.level < 2) (high : (n : ℕ) (x : Variable) → IsNumbered u.vars n x → lowest < n → 2 ≤ x.level) where
      pub all_long : length (common_of g around u) ≡ length first + sum counts + (length u.vars - lowest)
      all_long =
          let a = common_count g around u in
          let f = first_long in
          let c = covering_long in
          let s = support_count u.vars lowest low high g in
          omega (arith, a, f, c, s)

      pub support_case : (values : Values) (left : Left) (number k : ℕ) (x : Variable) → number - 1 ≡ length first + sum counts + k → lowest + k < length u.vars → IsNumbered u.vars (lowest + k + 1) x →
          IsLeft values (support_clause u.vars lowest low high g (lowest + k + 1, x)) left → IsLeft values (numbered (common_of g around u) number) left
      support_case values left number k x is less number_x h =
          let f = first_long in
          let c = covering_long in
          let e = in_support g around u (number - 1) (omega (arith, is, f, c)) in
          let at : number - 1 - (length (first_of_all g around u) + length (covering_of_all g around u)) ≡ k = omega (arith, is, f, c) in
          subst (λ (clause : List Lit). IsLeft values clause left) (sym (e ∙ ap (λ j. get_or (support_of_all g around u) j []) at ∙ support_numbered u.vars lowest low high g k x less number_x)) h
