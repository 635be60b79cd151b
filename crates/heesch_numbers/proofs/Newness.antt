-- When a clause contains none of families 1 to 3: when each of them has a literal that the values don't make false which refute it.
use Rattle.std.proofs.Common.{◌≡◌, refl, sym, ap, subst, ◌∙◌, ℕ, ◌+◌, ◌<◌, List, [], ◌∷◌, map, filter, Bool, true, false, cond, not, ◌&&◌, inl, inr, arith, Contains, eqb, eq-eqb}
use Rattle.std.specs.Prelude.{Some, None, nat_lt, nat_le, ◌==◌}
use Rattle.std.proofs.lemmas.Bool.{cases_Bool}
use Rattle.std.proofs.lemmas.Bool.Decides.{Decides-eqb}
use Rattle.std.proofs.lemmas.List.Elements.{All-contains}
use Rattle.heesch_cnf.specs.declared.literal.Lit.{Lit}
use Rattle.heesch_cnf.specs.Literals.{Values, signed, is_false_value}
use Rattle.heesch_cnf.specs.Clauses.{IsClause, IsNew, IsWithin, left_of}
use Rattle.heesch_cnf.specs.Lines.{refuting}
use Rattle.heesch_cnf.proofs.Lists.{Contains-none, Contains-here, Contains-there, Contains-cases}
use Rattle.heesch_cnf.proofs.Rising.{Rises, Rises-from_adjacent}
use Rattle.heesch_grid.specs.declared.Cell.{Cell}
use Rattle.heesch_grid.specs.Cells.{has}
use Rattle.heesch_grid.specs.Geometry.{Geometry}
use Rattle.heesch_grid.specs.Placement.{touch}
use Rattle.heesch_grid.specs.Clauses.{clause_of, is_numbered}
use Rattle.heesch_grid.specs.CoronaFormula.{Variable, IsNumbered, covers}
use Rattle.heesch_grid.proofs.ListFacts.{All-from_members, member_cases, member_filter, no_member}
use Rattle.heesch_grid.proofs.WindowFacts.{map_member}
use Rattle.heesch_grid.proofs.ClauseFacts.{entry_made}
use Rattle.heesch_cert.specs.Literals.{literals}
use Rattle.heesch_place.specs.Universes.{Levels}
use Rattle.heesch_encode.specs.Families.{covering_at, support_at}
use Rattle.heesch_encode.proofs.ClauseLists.{clause_listed}
use Rattle.heesch_numbers.specs.Common.{common_of, AllRemain, VariableRemains}
use Rattle.heesch_numbers.specs.Seen.{is_out}
use Rattle.heesch_numbers.proofs.Numbering.{first_of_all, all_remain, remain_all}
use Rattle.heesch_numbers.proofs.Seeing.{none_pass}

-- ---- the values that refute a clause

same_literal : (x l : Lit) → x.var ≡ l.var → is_false_value (signed l.positive (Some (not x.positive))) ≡ true → x ≡ l
same_literal x l var e = ap (λ (n : ℕ). record x { var = n }) var ∙ ap (λ (b : Bool). record l { positive = b }) (by_signs x.positive l.positive e)
  where
    by_signs : (p q : Bool) → is_false_value (signed q (Some (not p))) ≡ true → p ≡ q
    by_signs true true e = refl
    by_signs true false e = absurd (let bad : false ≡ true = e in cc)
    by_signs false true e = absurd (let bad : false ≡ true = e in cc)
    by_signs false false e = refl

-- what is false is one of its literals
pub out_contains : (clause : List Lit) (l : Lit) → is_out (refuting clause) l ≡ true → Contains clause l
out_contains [] l e = absurd (none_out l.positive e)
  where
    none_out : (p : Bool) → is_false_value (signed p None) ≡ true → ⊥
    none_out true e = let bad : false ≡ true = e in cc
    none_out false e = let bad : false ≡ true = e in cc
out_contains (x ∷ xs) l e = by_test (eqb x.var l.var) ((Decides-eqb x.var l.var).0) (λ rest. out_contains xs l rest) e
  where
    by_test : (t : Bool) → (t ≡ true → x.var ≡ l.var) → (is_out (refuting xs) l ≡ true → Contains xs l) →
        is_false_value (signed l.positive (cond t (Some (not x.positive)) (refuting xs l.var))) ≡ true → Contains (x ∷ xs) l
    by_test true same later e = subst (λ m. Contains (x ∷ xs) m) (same_literal x l (same refl) e) (Contains-here x xs)
    by_test false same later e = Contains-there x xs l (later e)

-- and each of its literals is
contains_out : (clause : List Lit) (l : Lit) → Rises clause → Contains clause l → is_out (refuting clause) l ≡ true
contains_out [] l rises has = absurd (Contains-none l has)
contains_out (x ∷ xs) l rises has = elim (Contains-cases x xs l has) [
  | inl same ↦ subst (λ m. is_out (refuting (x ∷ xs)) m ≡ true) same (here (eqb x.var x.var) ((Decides-eqb x.var x.var).1 refl) x.positive)
  | inr there ↦
      let above : x.var < l.var = All-contains (λ (y : Lit). x.var < y.var) xs l rises.0 there in
      later (eqb x.var l.var) ((Decides-eqb x.var l.var).0) above (contains_out xs l rises.1 there)
]
  where
    here : (t : Bool) → t ≡ true → (p : Bool) → is_false_value (signed p (cond t (Some (not p)) (refuting xs x.var))) ≡ true
    here true e true = refl
    here true e false = refl
    here false e p = absurd (let bad : false ≡ true = e in cc)

    later : (t : Bool) → (t ≡ true → x.var ≡ l.var) → x.var < l.var → is_out (refuting xs) l ≡ true →
        is_false_value (signed l.positive (cond t (Some (not x.positive)) (refuting xs l.var))) ≡ true
    later true same above e = let equal : x.var ≡ l.var = same refl in absurd (omega arith)
    later false same above e = e

-- a clause that has a literal which isn't false remains
remains_by : (values : Values) (clause : List Lit) (l : Lit) → Contains clause l → is_out values l ≡ false → ¬ (left_of values clause ≡ [])
remains_by values clause l m is_open none = no_member l (subst (λ ls. Contains ls l) none (member_filter (λ k. not (is_out values k)) clause l m (ap not is_open)))

module _ (vars : ℕ) (clause : List Lit) (form : IsClause vars clause) (values : Values) (refuted : values ≡ refuting clause) where
  out_inside : (l : Lit) → is_out values l ≡ true → Contains clause l
  out_inside l e = out_contains clause l (subst (λ (v : Values). is_out v l ≡ true) refuted e)

  inside_out : (l : Lit) → Contains clause l → is_out values l ≡ true
  inside_out l m = subst (λ (v : Values). is_out v l ≡ true) (sym refuted) (contains_out clause l (Rises-from_adjacent clause form.rising) m)

  pub new_where : (earlier : List (List Lit)) → AllRemain values earlier → IsNew earlier clause
  new_where earlier h =
      All-from_members (λ e. ¬ (IsWithin e clause)) earlier
      (λ e m within. All-contains (λ c. ¬ (left_of values c ≡ [])) earlier e h m (none_pass (λ k. not (is_out values k)) e (λ l k. ap not (inside_out l (All-contains (Contains clause) e l within k)))))

  pub where_new : (earlier : List (List Lit)) → IsNew earlier clause → AllRemain values earlier
  where_new earlier h =
      All-from_members (λ c. ¬ (left_of values c ≡ [])) earlier
      (λ e m none. All-contains (λ e. ¬ (IsWithin e clause)) earlier e h m
      (All-from_members (Contains clause) e (λ l k. elim (cases_Bool (is_out values l)) [ inl t ↦ out_inside l t | inr f ↦ absurd (remains_by values e l k f none) ])))

  module _ (g : Geometry) (around : List Cell → List Cell) (u : Levels) where
    negated_in : (n : ℕ) (x : Variable) (p : ℕ × Variable → Bool) → IsNumbered u.vars n x → Contains (clause_of literals (is_numbered n) p u.vars) (literals.minus n)
    negated_in n x p number =
        (clause_listed u.vars (is_numbered n) p).every (literals.minus n)
        (record { of = (n, x); is_in = entry_made u.vars n x number; gives = ap (λ b. cond b (Some (literals.minus n)) (cond (p (n, x)) (Some (literals.plus n)) None)) (eq-eqb n n refl) })

    covering_negated : (n : ℕ) (x : Variable) → IsNumbered u.vars n x → (b : Bool) (c : List Lit) → Contains (cond b (map (λ c. clause_of literals (is_numbered n) (covers (x.level + 1) c) u.vars) (filter (λ c. not (has u.shape c)) (around x.tile))) []) c → Contains c (literals.minus n)
    covering_negated n x number false c m = absurd (no_member c m)
    covering_negated n x number true c m =
        let r = map_member (λ c. clause_of literals (is_numbered n) (covers (x.level + 1) c) u.vars) (filter (λ c. not (has u.shape c)) (around x.tile)) c m in
        subst (λ ls. Contains ls (literals.minus n)) r.2 (negated_in n x (covers (x.level + 1) r.0) number)

    support_negated : (n : ℕ) (x : Variable) → IsNumbered u.vars n x → (b : Bool) (c : List Lit) → Contains (cond b (clause_of literals (is_numbered n) (λ y. (y.1.level + 1 == x.level) && touch g y.1.tile x.tile) u.vars ∷ []) []) c → Contains c (literals.minus n)
    support_negated n x number false c m = absurd (no_member c m)
    support_negated n x number true c m =
        elim (member_cases (clause_of literals (is_numbered n) (λ y. (y.1.level + 1 == x.level) && touch g y.1.tile x.tile) u.vars) [] c m) [
          | inl e ↦ subst (λ ls. Contains ls (literals.minus n)) e (negated_in n x (λ y. (y.1.level + 1 == x.level) && touch g y.1.tile x.tile) number)
          | inr none ↦ absurd (no_member c none)
        ]

    -- a variable whose negation isn't false has clauses that remain
    open_remains : (n : ℕ) (x : Variable) → IsNumbered u.vars n x → is_out values (literals.minus n) ≡ false → VariableRemains values g around u (n, x)
    open_remains n x number is_open = (
      All-from_members (λ c. ¬ (left_of values c ≡ [])) (covering_at around u.shape u.level u.vars (n, x)) (λ c m. remains_by values c (literals.minus n) (covering_negated n x number (nat_lt x.level u.level) c m) is_open),
      All-from_members (λ c. ¬ (left_of values c ≡ [])) (support_at g u.vars (n, x)) (λ c m. remains_by values c (literals.minus n) (support_negated n x number (nat_le 2 x.level) c m) is_open),
    )

    abbrev pub NegatedRemain : Type 0
    NegatedRemain = (n : ℕ) (x : Variable) → IsNumbered u.vars n x → Contains clause (literals.minus n) → VariableRemains values g around u (n, x)

    pub new_by : AllRemain values (first_of_all g around u) → NegatedRemain → IsNew (common_of g around u) clause
    new_by first negated =
        new_where (common_of g around u) (all_remain g around u values first (λ n x number.
        elim (cases_Bool (is_out values (literals.minus n))) [ inl t ↦ negated n x number (out_inside (literals.minus n) t) | inr f ↦ open_remains n x number f ]))

    pub by_new : IsNew (common_of g around u) clause → AllRemain values (first_of_all g around u) × NegatedRemain
    by_new h = let r = remain_all g around u values (where_new (common_of g around u) h) in (r.0, λ n x number m. r.1 n x number)
