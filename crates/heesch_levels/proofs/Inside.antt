-- The universe of the first levels stands first in that of all levels, and a cut over it is one over them all.
use Rattle.std.proofs.Common.{◌≡◌, refl, sym, ap, subst, ◌∙◌, ℕ, zero, suc, ◌+◌, ◌-◌, ◌<◌, ◌≤◌, List, [], ◌∷◌, ◌++◌, length, map, filter, filter_map, cond, Bool, true, false, ◌&&◌, inl, inr, arith, All, Contains, append-nil, ltb-true, eqb-true, leb-true, le-leb, length-append, slice_get, Result}
use Rattle.std.specs.Prelude.{IsTrue, Option, Some, None, Ok, Err, IfOk, MatchOption, nat_lt, nat_le, nat_eq, ◌==◌}
use Rattle.std.specs.List.{enumerate_from, range_with_len, list_any, cons_option}
use Rattle.std.proofs.lemmas.Bool.{cases_Bool, or_cases, and_parts, lt-leb, leb-false}
use Rattle.std.proofs.lemmas.List.Elements.{All-nil, All-cons, All-head, All-tail, All-weaker, All-contains, filter-append, filter_map-append}
use Rattle.std.proofs.lemmas.Option.{slice_get_within}
use Rattle.heesch_grid.specs.declared.Cell.{Cell}
use Rattle.heesch_grid.specs.Cells.{cells_before, meet}
use Rattle.heesch_grid.specs.Geometry.{Geometry}
use Rattle.heesch_grid.specs.Listing.{IsRising}
use Rattle.heesch_grid.specs.Corona.{StaysHoleFree}
use Rattle.heesch_grid.specs.CoronaFormula.{Variable, variable_before, IsVariable, IsUniverse, IsNumbered}
use Rattle.heesch_grid.specs.Statements.{chosen_layer, chosen_layers}
use Rattle.heesch_grid.proofs.ListFacts.{rising_filter, member_filter, filter_member, All-from_members, any_member}
use Rattle.heesch_grid.proofs.Pinned.{one_universe}
use Rattle.heesch_cnf.specs.declared.literal.Lit.{Lit}
use Rattle.heesch_cnf.specs.Clauses.{assignment_of}
use Rattle.heesch_cert.specs.declared.proof.Cut.{Cut}
use Rattle.heesch_cert.specs.Literals.{literals}
use Rattle.heesch_cert.specs.Cuts.{IsLawful, IsBorderVariable, cut_clause}
use Rattle.heesch_grid.specs.Clauses.{clause_holds}
use Rattle.heesch_place.specs.Universes.{Levels, IsUniverseOf}
use Rattle.heesch_cuts.specs.Chosen.{IsOpen, CutsOff}
use Rattle.heesch_levels.specs.Searching.{IsCutUpTo, IsFreeUpTo}

-- ---- the first levels of a universe

abbrev is_below : ℕ → Variable → Bool
is_below h x = nat_le x.level h

above_not_below : (h : ℕ) (x : Variable) → h < x.level → is_below h x ≡ false
above_not_below h x l = lt-leb x.level h l

level_rises : (x y : Variable) → variable_before x y ≡ true → x.level ≤ y.level
level_rises x y t =
    elim (or_cases (nat_lt x.level y.level) ((x.level == y.level) && cells_before x.tile y.tile) t) [
      | inl l ↦ let less = ltb-true x.level y.level l in omega (arith, less)
      | inr r ↦ let same = eqb-true x.level y.level (and_parts (x.level == y.level) (cells_before x.tile y.tile) r).0 in omega (arith, same)
    ]

none_below : (h : ℕ) (xs : List Variable) → All (λ y. h < y.level) xs → filter (is_below h) xs ≡ []
none_below h [] above = refl
none_below h (x ∷ xs) above =
    ap (λ b. cond b (x ∷ filter (is_below h) xs) (filter (is_below h) xs)) (above_not_below h x (All-head (λ y. h < y.level) x xs above))
    ∙ none_below h xs (All-tail (λ y. h < y.level) x xs above)

-- the first list, and then variables above the level
pub record BeginsWith (h : ℕ) (first vars : List Variable) : Type 0 where
  pub rest : List Variable
  pub is : vars ≡ first ++ rest
  pub above : All (λ y. h < y.level) rest

begins : (h : ℕ) (vars : List Variable) → IsRising variable_before vars → BeginsWith h (filter (is_below h) vars) vars
begins h [] r = record { rest = []; is = refl; above = All-nil (λ y. h < y.level) }
begins h (x ∷ xs) r =
    elim (cases_Bool (is_below h x)) [
      | inl t ↦
          let b : BeginsWith h (filter (is_below h) xs) xs = begins h xs r.1 in
          record {
            rest = b.rest;
            is = ap (λ ys. x ∷ ys) b.is ∙ ap (λ c. cond c (x ∷ filter (is_below h) xs) (filter (is_below h) xs) ++ b.rest) (sym t);
            above = b.above;
          }
      | inr f ↦
          let here : h < x.level = leb-false x.level h f in
          let later : All (λ y. h < y.level) xs = All-weaker (λ y. IsTrue (variable_before x y)) (λ y. h < y.level) (λ y t. let l = level_rises x y t in omega (arith, here, l)) xs r.0 in
          let all : All (λ y. h < y.level) (x ∷ xs) = All-cons (λ y. h < y.level) x xs here later in
          record { rest = x ∷ xs; is = ap (λ ys. ys ++ x ∷ xs) (sym (none_below h (x ∷ xs) all)); above = all }
    ]

lists_below : (g : Geometry) (shape : List Cell) (h j : ℕ) (vars : List Variable) → h ≤ j → IsUniverse g shape j vars → IsUniverse g shape h (filter (is_below h) vars)
lists_below g shape h j vars l u = record {
  rising = rising_filter variable_before (is_below h) vars u.rising;
  only = All-from_members (IsVariable g shape h) (filter (is_below h) vars) (λ x m.
      let found = filter_member (is_below h) vars x m in
      let v : IsVariable g shape j x = All-contains (IsVariable g shape j) vars x u.only found.0 in
      record { level_from = v.level_from; level_to = leb-true x.level h found.1; at_level = v.at_level });
  every = λ x v. let to = v.level_to in member_filter (is_below h) vars x (u.every x (record { level_from = v.level_from; level_to = omega (arith, to, l); at_level = v.at_level })) (le-leb x.level h v.level_to);
}

first_levels : (g : Geometry) (shape : List Cell) (h j : ℕ) (first vars : List Variable) → h ≤ j → IsUniverse g shape h first → IsUniverse g shape j vars → BeginsWith h first vars
first_levels g shape h j first vars l inner whole =
    subst (λ xs. BeginsWith h xs vars) (one_universe g shape h (filter (is_below h) vars) first (lists_below g shape h j vars l whole) inner) (begins h vars whole.rising)

-- ---- what speaks of the first levels alone

enumerate_append : {X : Type 0} (n : ℕ) (xs ys : List X) → enumerate_from n (xs ++ ys) ≡ enumerate_from n xs ++ enumerate_from (n + length xs) ys
enumerate_append n [] ys = ap (λ k. enumerate_from k ys) (let e : n ≡ n + 0 = omega arith in e)
enumerate_append n (x ∷ xs) ys =
    ap (λ es. (n, x) ∷ es) (enumerate_append (n + 1) xs ys ∙ ap (λ k. enumerate_from (n + 1) xs ++ enumerate_from k ys) (let e : n + 1 + length xs ≡ n + length (x ∷ xs) = omega arith in e))

module _ (h : ℕ) (first vars : List Variable) (b : BeginsWith h first vars) where
  -- the layers of the levels up to h
  layer_inside : (values : ℕ → Bool) (k : ℕ) → k ≤ h → chosen_layer values vars k ≡ chosen_layer values first k
  layer_inside values k l =
      ap (λ vs. chosen_layer values vs k) b.is
      ∙ ap (λ es. map (λ (y : ℕ × Variable). y.1.tile) (filter (λ (x : ℕ × Variable). (x.1.level == k) && values x.0) es)) (enumerate_append 1 first b.rest)
      ∙ ap (map (λ (y : ℕ × Variable). y.1.tile)) (filter-append (λ (x : ℕ × Variable). (x.1.level == k) && values x.0) (enumerate_from 1 first) (enumerate_from (1 + length first) b.rest))
      ∙ ap (λ es. map (λ (y : ℕ × Variable). y.1.tile) (filter (λ (x : ℕ × Variable). (x.1.level == k) && values x.0) (enumerate_from 1 first) ++ es)) (none_chosen b.rest (1 + length first) b.above)
      ∙ ap (map (λ (y : ℕ × Variable). y.1.tile)) (append-nil (filter (λ (x : ℕ × Variable). (x.1.level == k) && values x.0) (enumerate_from 1 first)))
    where
      not_level : (x : Variable) → h < x.level → (x.level == k) ≡ false
      not_level x above =
          elim (cases_Bool (x.level == k)) [
            | inl t ↦ let same = eqb-true x.level k t in absurd (omega (arith, above, same, l))
            | inr f ↦ f
          ]

      none_chosen : (xs : List Variable) (n : ℕ) → All (λ y. h < y.level) xs → filter (λ (x : ℕ × Variable). (x.1.level == k) && values x.0) (enumerate_from n xs) ≡ []
      none_chosen [] n above = refl
      none_chosen (x ∷ xs) n above =
          let rest = filter (λ (y : ℕ × Variable). (y.1.level == k) && values y.0) (enumerate_from (n + 1) xs) in
          ap (λ c. cond (c && values n) ((n, x) ∷ rest) rest) (not_level x (All-head (λ y. h < y.level) x xs above))
          ∙ none_chosen xs (n + 1) (All-tail (λ y. h < y.level) x xs above)

  pub layers_inside : (values : ℕ → Bool) → chosen_layers values vars h ≡ chosen_layers values first h
  layers_inside values = go 1 h (omega arith)
    where
      go : (from n : ℕ) → from + n ≤ h + 1 → map (chosen_layer values vars) (range_with_len from n) ≡ map (chosen_layer values first) (range_with_len from n)
      go from zero l = refl
      go from (suc n) l =
          let here : chosen_layer values vars from ≡ chosen_layer values first from = layer_inside values from (omega (arith, l)) in
          let later = go (from + 1) n (omega (arith, l)) in
          λ i. here i ∷ later i

  -- a variable of the first levels has its number among all
  still_at : (n : ℕ) (x : Variable) → IsNumbered first n x → IsNumbered vars n x
  still_at n x at = (at.0, subst (λ vs. slice_get vs (n - 1) ≡ Some x) (sym b.is) (get_first first b.rest (n - 1) x at.1))
    where
      get_first : (xs ys : List Variable) (i : ℕ) (x : Variable) → slice_get xs i ≡ Some x → slice_get (xs ++ ys) i ≡ Some x
      get_first [] ys i x e = absurd (let n : ⊥ = cc in n)
      get_first (y ∷ xs) ys zero x e = e
      get_first (y ∷ xs) ys (suc i) x e = get_first xs ys i x e

  module _ (g : Geometry) (shape : List Cell) (j : ℕ) (most : h ≤ j) (cut : Cut) (lawful : IsLawful g shape h first cut) where
    pub lawful_still : IsLawful g shape j vars cut
    lawful_still = record {
      level_from = lawful.level_from;
      level_to = let to = lawful.level_to in omega (arith, to, most);
      some = lawful.some;
      is_set = lawful.is_set;
      outside = lawful.outside;
      rising = lawful.rising;
      border = All-weaker (IsBorderVariable first cut.level cut.hole) (IsBorderVariable vars cut.level cut.hole) (λ n v. record { variable = v.variable; is_variable = still_at n v.variable v.is_variable; level = v.level; apart = v.apart }) cut.border lawful.border;
      enclosed = λ c d m a. elim (lawful.enclosed c d m a) [
        | inl inside ↦ inl inside
        | inr o ↦ elim o [
          | inl s ↦ inr (inl s)
          | inr k ↦ inr (inr (record { number = k.number; in_border = k.in_border; variable = k.variable; is_variable = still_at k.number k.variable k.is_variable; member = k.member }))
        ]
      ];
    }

    abbrev fills : ℕ × Variable → Bool
    fills x = nat_le x.1.level cut.level && meet x.1.tile cut.hole

    abbrev literal : ℕ × Variable → Option Lit
    literal x = cond (list_any (nat_eq x.0) cut.border) (Some (literals.minus x.0)) (cond (fills x) (Some (literals.plus x.0)) None)

    border_low : (n : ℕ) → Contains cut.border n → n ≤ length first
    border_low n m =
        let v : IsBorderVariable first cut.level cut.hole n = All-contains (IsBorderVariable first cut.level cut.hole) cut.border n lawful.border m in
        let low = slice_get_within first (n - 1) v.variable v.is_variable.1 in
        let some = v.is_variable.0 in
        omega (arith, low, some)

    not_bordering : (n : ℕ) → length first < n → list_any (nat_eq n) cut.border ≡ false
    not_bordering n past =
        elim (cases_Bool (list_any (nat_eq n) cut.border)) [
          | inl t ↦
              let r = any_member (nat_eq n) cut.border t in
              let same : n ≡ r.0 = eqb-true n r.0 r.2 in
              let low = border_low r.0 r.1 in
              absurd (omega (arith, same, low, past))
          | inr f ↦ f
        ]

    none_written : (xs : List Variable) (n : ℕ) → length first < n → All (λ y. h < y.level) xs → filter_map literal (enumerate_from n xs) ≡ []
    none_written [] n past above = refl
    none_written (x ∷ xs) n past above =
        let to = lawful.level_to in
        let high = All-head (λ y. h < y.level) x xs above in
        let fills_none : nat_le x.level cut.level ≡ false = above_not_below cut.level x (omega (arith, to, high)) in
        ap (λ o. cons_option o (filter_map literal (enumerate_from (n + 1) xs)))
        (ap (λ c. cond c (Some (literals.minus n)) (cond (fills (n, x)) (Some (literals.plus n)) None)) (not_bordering n past) ∙ ap (λ c. cond (c && meet x.tile cut.hole) (Some (literals.plus n)) None) fills_none)
        ∙ none_written xs (n + 1) (omega (arith, past)) (All-tail (λ y. h < y.level) x xs above)

    pub clause_still : cut_clause vars cut ≡ cut_clause first cut
    clause_still =
        ap (λ vs. cut_clause vs cut) b.is
        ∙ ap (filter_map literal) (enumerate_append 1 first b.rest)
        ∙ filter_map-append literal (enumerate_from 1 first) (enumerate_from (1 + length first) b.rest)
        ∙ ap (λ ls. cut_clause first cut ++ ls) (none_written b.rest (1 + length first) (omega arith) b.above)
        ∙ append-nil (cut_clause first cut)

-- ---- the universe of the first levels

module _ (g : Geometry) (u inner : Levels) (whole : IsUniverseOf g u) (part : IsUniverseOf g inner) (shape : inner.shape ≡ u.shape) (k : ℕ) (level : inner.level ≡ k) (lower : k ≤ u.level) (values : List Bool) where
  stands_first : BeginsWith inner.level inner.vars u.vars
  stands_first = first_levels g u.shape inner.level u.level inner.vars u.vars (omega (arith, level, lower)) (subst (λ cells. IsUniverse g cells inner.level inner.vars) shape part) whole

  -- it has no more variables
  pub fewer_inside : length inner.vars ≤ length u.vars
  fewer_inside = let long : length u.vars ≡ length inner.vars + length stands_first.rest = ap length stands_first.is ∙ length-append inner.vars stands_first.rest in omega (arith, long)

  pub cut_inside : (cut : Cut) → CutsOff g inner values cut → CutsOff g u values cut × IsCutUpTo g u k cut
  cut_inside cut c =
      let lawful : IsLawful g u.shape inner.level inner.vars cut = subst (λ cells. IsLawful g cells inner.level inner.vars cut) shape c.lawful in
      let still : IsLawful g u.shape u.level u.vars cut = lawful_still inner.level inner.vars u.vars stands_first g u.shape u.level (omega (arith, level, lower)) cut lawful in
      let clause : cut_clause u.vars cut ≡ cut_clause inner.vars cut = clause_still inner.level inner.vars u.vars stands_first g u.shape u.level (omega (arith, level, lower)) cut lawful in
      let to = lawful.level_to in (
        record { lawful = still; fails = ap (clause_holds literals (assignment_of values)) clause ∙ c.fails },
        record { lawful = still; up_to = omega (arith, to, level) },
      )

  pub free_inside : IsOpen g inner values → IsFreeUpTo g u k values
  free_inside free =
      subst (λ n. IsFreeUpTo g u n values) level
      (subst (StaysHoleFree g (u.shape ∷ [])) (sym (layers_inside inner.level inner.vars u.vars stands_first (assignment_of values)))
      (subst (λ cells. StaysHoleFree g (cells ∷ []) (chosen_layers (assignment_of values) inner.vars inner.level)) shape free))

-- what an answer with a cut or without says, said of other things
pub if_ok_option : {X E P R : Type 0} (Q S : X → Type 0) → (P → R) → ((x : X) → Q x → S x) → (r : Result (Option X) E) → IfOk r (λ o. MatchOption o P Q) → IfOk r (λ o. MatchOption o R S)
if_ok_option Q S f h (Ok None) p = f p
if_ok_option Q S f h (Ok (Some x)) q = h x q
if_ok_option Q S f h (Err e) t = tt
