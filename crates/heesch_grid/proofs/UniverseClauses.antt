-- Clauses of variables of the universe: they are true or false by the values of these variables alone.
use Rattle.std.proofs.Common.{◌≡◌, refl, sym, ap, subst, ◌∙◌, ℕ, ◌+◌, ◌<◌, ◌&&◌, List, [], ◌∷◌, ◌++◌, map, filter, length, Bool, true, false, cond, not, ◌||◌, filter_map, inl, inr, arith, Contains}
use Rattle.std.specs.Prelude.{IsTrue, nat_lt, nat_le, ◌==◌, Some, None}
use Rattle.std.specs.List.{enumerate_from, cons_option}
use Rattle.std.proofs.lemmas.List.Elements.{All-contains, Contains-append_cases}
use Rattle.heesch_grid.specs.declared.Cell.{Cell}
use Rattle.heesch_grid.specs.Cells.{has, meet}
use Rattle.heesch_grid.specs.Geometry.{Geometry}
use Rattle.heesch_grid.specs.Placement.{touch}
use Rattle.heesch_grid.specs.Clauses.{Literals, clause_holds, clause_of, Satisfies, no_variable, is_numbered}
use Rattle.heesch_grid.specs.CoronaFormula.{Variable, covers, first_clauses, covering_clauses, support_clauses, apart_clauses, corona_clauses}
use Rattle.heesch_grid.proofs.ListFacts.{member_cases, member_here, member_there, no_member, All-from_members}
use Rattle.heesch_grid.proofs.WindowFacts.{map_member, flat_map_member}

abbrev pub Entry : Type 0
Entry = ℕ × Variable

-- the number of an entry is below that after the last
pub entry_below : {V : Type 0} (vars : List V) (n : ℕ) (x : ℕ × V) → Contains (enumerate_from n vars) x → x.0 < n + length vars
entry_below [] n x m = absurd (no_member x m)
entry_below (v ∷ vars) n x m =
    elim (member_cases (n, v) (enumerate_from (n + 1) vars) x m) [
      | inl e ↦ let same : n ≡ x.0 = ap (λ y. y.0) e in omega arith
      | inr h ↦ let r : x.0 < n + 1 + length vars = entry_below vars (n + 1) x h in omega arith
    ]

module _ {L : Type 0} (ls : Literals L) where
  -- ---- one clause under two assignments

  module _ (model values : ℕ → Bool) where
    minus_same : (n : ℕ) → values n ≡ model n → ls.holds values (ls.minus n) ≡ ls.holds model (ls.minus n)
    minus_same n e = ls.minus_holds values n ∙ ap not e ∙ sym (ls.minus_holds model n)

    plus_same : (n : ℕ) → values n ≡ model n → ls.holds values (ls.plus n) ≡ ls.holds model (ls.plus n)
    plus_same n e = ls.plus_holds values n ∙ e ∙ sym (ls.plus_holds model n)

    cons_same : (n : ℕ) (rest : List L) (neg ass : Bool) → values n ≡ model n → clause_holds ls values rest ≡ clause_holds ls model rest → clause_holds ls values (cons_option (cond neg (Some (ls.minus n)) (cond ass (Some (ls.plus n)) None)) rest) ≡ clause_holds ls model (cons_option (cond neg (Some (ls.minus n)) (cond ass (Some (ls.plus n)) None)) rest)
    cons_same n rest true ass e r = λ i. minus_same n e i || r i
    cons_same n rest false true e r = λ i. plus_same n e i || r i
    cons_same n rest false false e r = r

    same_in : {V : Type 0} (neg ass : ℕ × V → Bool) (xs : List (ℕ × V)) → ((x : ℕ × V) → Contains xs x → values x.0 ≡ model x.0) → clause_holds ls values (filter_map (λ x. cond (neg x) (Some (ls.minus x.0)) (cond (ass x) (Some (ls.plus x.0)) None)) xs) ≡ clause_holds ls model (filter_map (λ x. cond (neg x) (Some (ls.minus x.0)) (cond (ass x) (Some (ls.plus x.0)) None)) xs)
    same_in neg ass [] same = refl
    same_in neg ass (x ∷ xs) same =
        cons_same x.0 (filter_map (λ x. cond (neg x) (Some (ls.minus x.0)) (cond (ass x) (Some (ls.plus x.0)) None)) xs) (neg x) (ass x) (same x (member_here x xs))
        (same_in neg ass xs (λ y m. same y (member_there x xs y m)))

    pub clause_same : {V : Type 0} (neg ass : ℕ × V → Bool) (vars : List V) → ((x : ℕ × V) → Contains (enumerate_from 1 vars) x → values x.0 ≡ model x.0) → clause_holds ls values (clause_of ls neg ass vars) ≡ clause_holds ls model (clause_of ls neg ass vars)
    clause_same neg ass vars same = same_in neg ass (enumerate_from 1 vars) same

  -- ---- the clauses of the first formula

  module _ (vars : List Variable) where
    -- the clause has variables of the universe alone
    record OfUniverse (c : List L) : Type 0 where
      negated : Entry → Bool
      asserted : Entry → Bool
      is : clause_of ls negated asserted vars ≡ c

    first_are : (around : List Cell → List Cell) (shape : List Cell) (c : List L) → Contains (first_clauses ls around shape vars) c → OfUniverse c
    first_are around shape c m =
        let r = map_member (λ d. clause_of ls no_variable (covers 1 d) vars) (around shape) c m in
        record { negated = no_variable; asserted = covers 1 r.0; is = r.2 }

    covering_are : (around : List Cell → List Cell) (shape : List Cell) (j : ℕ) (c : List L) → Contains (covering_clauses ls around shape j vars) c → OfUniverse c
    covering_are around shape j c m =
        let r = flat_map_member (λ (x : Entry). map (λ d. clause_of ls (is_numbered x.0) (covers (x.1.level + 1) d) vars) (filter (λ d. not (has shape d)) (around x.1.tile))) (filter (λ (x : Entry). nat_lt x.1.level j) (enumerate_from 1 vars)) c m in
        let s = map_member (λ d. clause_of ls (is_numbered r.0.0) (covers (r.0.1.level + 1) d) vars) (filter (λ d. not (has shape d)) (around r.0.1.tile)) c r.2 in
        record { negated = is_numbered r.0.0; asserted = covers (r.0.1.level + 1) s.0; is = s.2 }

    support_are : (g : Geometry) (c : List L) → Contains (support_clauses ls g vars) c → OfUniverse c
    support_are g c m =
        let r = map_member (λ (x : Entry). clause_of ls (is_numbered x.0) (λ y. (y.1.level + 1 == x.1.level) && touch g y.1.tile x.1.tile) vars) (filter (λ (x : Entry). nat_le 2 x.1.level) (enumerate_from 1 vars)) c m in
        record { negated = is_numbered r.0.0; asserted = λ y. (y.1.level + 1 == r.0.1.level) && touch g y.1.tile r.0.1.tile; is = r.2 }

    cover_are : (g : Geometry) (around : List Cell → List Cell) (shape : List Cell) (j : ℕ) (c : List L) → Contains (first_clauses ls around shape vars ++ covering_clauses ls around shape j vars ++ support_clauses ls g vars) c → OfUniverse c
    cover_are g around shape j c m =
        let one : List (List L) = first_clauses ls around shape vars in
        let two : List (List L) = covering_clauses ls around shape j vars in
        elim (Contains-append_cases (one ++ two) (support_clauses ls g vars) c m) [
          | inr h ↦ support_are g c h
          | inl h ↦ elim (Contains-append_cases one two c h) [ inl k ↦ first_are around shape c k | inr k ↦ covering_are around shape j c k ]
        ]

    apart_are : (c : List L) → Contains (apart_clauses ls vars) c → OfUniverse c
    apart_are c m =
        let r = flat_map_member (λ (u : Entry). map (λ (v : Entry). clause_of ls (λ x. is_numbered u.0 x || is_numbered v.0 x) no_variable vars) (filter (λ (v : Entry). nat_lt u.0 v.0 && meet u.1.tile v.1.tile) (enumerate_from 1 vars))) (enumerate_from 1 vars) c m in
        let s = map_member (λ (v : Entry). clause_of ls (λ x. is_numbered r.0.0 x || is_numbered v.0 x) no_variable vars) (filter (λ (v : Entry). nat_lt r.0.0 v.0 && meet r.0.1.tile v.1.tile) (enumerate_from 1 vars)) c r.2 in
        record { negated = λ x. is_numbered r.0.0 x || is_numbered s.0.0 x; asserted = no_variable; is = s.2 }

    -- ---- what one assignment makes true, another that agrees with it makes true

    module _ (model values : ℕ → Bool) (agree : (x : Entry) → Contains (enumerate_from 1 vars) x → values x.0 ≡ model x.0) where
      kept : (cs : List (List L)) → ((c : List L) → Contains cs c → OfUniverse c) → Satisfies ls model cs → Satisfies ls values cs
      kept cs are s =
          All-from_members (λ c. IsTrue (clause_holds ls values c)) cs (λ c m.
          let u = are c m in
          subst (λ k. clause_holds ls values k ≡ clause_holds ls model k) u.is (clause_same model values u.negated u.asserted vars agree) ∙ All-contains (λ c. IsTrue (clause_holds ls model c)) cs c s m)

      -- the first three families
      pub cover_kept : (g : Geometry) (around : List Cell → List Cell) (shape : List Cell) (j : ℕ) → Satisfies ls model (first_clauses ls around shape vars ++ covering_clauses ls around shape j vars ++ support_clauses ls g vars) → Satisfies ls values (first_clauses ls around shape vars ++ covering_clauses ls around shape j vars ++ support_clauses ls g vars)
      cover_kept g around shape j = kept (first_clauses ls around shape vars ++ covering_clauses ls around shape j vars ++ support_clauses ls g vars) (cover_are g around shape j)

      -- and the whole formula
      pub corona_kept : (g : Geometry) (around : List Cell → List Cell) (shape : List Cell) (j : ℕ) → Satisfies ls model (corona_clauses ls g around shape j vars) → Satisfies ls values (corona_clauses ls g around shape j vars)
      corona_kept g around shape j =
          let three : List (List L) = first_clauses ls around shape vars ++ covering_clauses ls around shape j vars ++ support_clauses ls g vars in
          kept (three ++ apart_clauses ls vars) (λ c m. elim (Contains-append_cases three (apart_clauses ls vars) c m) [ inl h ↦ cover_are g around shape j c h | inr h ↦ apart_are c h ])
