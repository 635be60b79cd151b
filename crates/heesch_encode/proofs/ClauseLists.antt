-- Clauses as lists of literals with rising variables.
use Rattle.std.proofs.Common.{◌≡◌, refl, sym, ap, subst, ◌∙◌, ℕ, zero, suc, ◌+◌, ◌-◌, ◌<◌, ◌≤◌, List, [], ◌∷◌, map, filter, length, get_or, Bool, true, false, cond, ◌||◌, inl, inr, ◌⊎◌, arith, Contains, true≢false, filter_map, ltb-true, lt-ltb, eq-eqb, eqb-true}
use Rattle.std.specs.Prelude.{IsTrue, Some, None, unwrap_or, nat_lt, Option, ◌==◌}
use Rattle.std.specs.List.{slice_get, enumerate_from, cons_option, AllAdjacentBelow}
use Rattle.std.proofs.lemmas.List.Elements.{All-nil, All-cons, All-contains}
use Rattle.std.proofs.lemmas.Bool.{cases_Bool, or_cases, or_left, or_right}
use Rattle.heesch_cnf.specs.declared.literal.Lit.{Lit}
use Rattle.heesch_cnf.specs.Clauses.{IsClause}
use Rattle.heesch_grid.specs.Listing.{IsRising, ListsExactly}
use Rattle.heesch_grid.specs.Clauses.{clause_of, is_numbered, no_variable}
use Rattle.heesch_grid.proofs.ListFacts.{member_cases, member_here, member_there, no_member, All-from_members, filter_member, member_filter, same_rising, rising_filter}
use Rattle.heesch_grid.proofs.WindowFacts.{map_member, member_map}
use Rattle.heesch_grid.proofs.ClauseFacts.{entry_at, entry_same, entries_rising}
use Rattle.heesch_cert.specs.Literals.{literals}
use Rattle.heesch_encode.specs.Literals.{plus_all, lit_before, IsOfImplication}
use Rattle.heesch_encode.proofs.Rising.{nat_lt-irreflexive, nat_lt-asymmetric, rising_map}

pub lit_before-irreflexive : (l : Lit) → lit_before l l ≡ false
lit_before-irreflexive l = nat_lt-irreflexive l.var

pub lit_before-asymmetric : (l m : Lit) → lit_before l m ≡ true → lit_before m l ≡ false
lit_before-asymmetric l m t = nat_lt-asymmetric l.var m.var t

-- ---- what a function that may give nothing gives

module _ {X Y : Type 0} (h : X → Option Y) where
  member_option : (o : Option Y) (ys : List Y) (y : Y) → Contains (cons_option o ys) y → (o ≡ Some y) ⊎ Contains ys y
  member_option None ys y m = inr m
  member_option (Some x) ys y m = elim (member_cases x ys y m) [ inl e ↦ inl (ap (λ z. Some z) e) | inr k ↦ inr k ]

  option_here : (o : Option Y) (ys : List Y) (y : Y) → o ≡ Some y → Contains (cons_option o ys) y
  option_here o ys y e = subst (λ w. Contains (cons_option w ys) y) (sym e) (member_here y ys)

  option_there : (o : Option Y) (ys : List Y) (y : Y) → Contains ys y → Contains (cons_option o ys) y
  option_there None ys y m = m
  option_there (Some x) ys y m = member_there x ys y m

  pub filter_map_member : (xs : List X) (y : Y) → Contains (filter_map h xs) y → (x : X) × Contains xs x × (h x ≡ Some y)
  filter_map_member [] y m = absurd (no_member y m)
  filter_map_member (x ∷ xs) y m =
      elim (member_option (h x) (filter_map h xs) y m) [
        | inl e ↦ (x, member_here x xs, e)
        | inr k ↦ let r : (x : X) × Contains xs x × (h x ≡ Some y) = filter_map_member xs y k in (r.0, member_there x xs r.0 r.1, r.2)
      ]

  pub member_filter_map : (xs : List X) (x : X) (y : Y) → Contains xs x → h x ≡ Some y → Contains (filter_map h xs) y
  member_filter_map [] x y m e = absurd (no_member x m)
  member_filter_map (z ∷ xs) x y m e =
      elim (member_cases z xs x m) [
        | inl s ↦ option_here (h z) (filter_map h xs) y (ap h s ∙ e)
        | inr k ↦ option_there (h z) (filter_map h xs) y (member_filter_map xs x y k e)
      ]

  pub rising_filter_map : (before : X → X → Bool) (after : Y → Y → Bool) → ((x x' : X) (y y' : Y) → h x ≡ Some y → h x' ≡ Some y' → before x x' ≡ true → after y y' ≡ true) → (xs : List X) → IsRising before xs → IsRising after (filter_map h xs)
  rising_filter_map before after keeps [] r = tt
  rising_filter_map before after keeps (x ∷ xs) r = go (rising_filter_map before after keeps xs r.1) (h x) refl
    where
      go : IsRising after (filter_map h xs) → (o : Option Y) → h x ≡ o → IsRising after (cons_option o (filter_map h xs))
      go rest None e = rest
      go rest (Some y) e =
          (All-from_members (λ z. IsTrue (after y z)) (filter_map h xs) (λ z m. let s = filter_map_member xs z m in keeps x s.0 y z e s.2 (All-contains (λ z. IsTrue (before x z)) xs s.0 r.0 s.1)), rest)

-- ---- the form of a clause

adjacent_of : (xs : List Lit) → IsRising lit_before xs → AllAdjacentBelow (λ (l m : Lit). l.var < m.var) xs (length xs)
adjacent_of [] r k d l = absurd (omega arith)
adjacent_of (x ∷ xs) r zero d l =
    let next : zero + 1 ≡ suc zero = omega arith in
    subst (λ n. x.var < (get_or (x ∷ xs) n d).var) (sym next) (ltb-true x.var (get_or xs 0 d).var (r.0 0 d (omega arith)))
adjacent_of (x ∷ xs) r (suc k) d l =
    let next : suc (k + 1) ≡ suc k + 1 = omega arith in
    subst (λ n. (get_or xs k d).var < (get_or (x ∷ xs) n d).var) next (adjacent_of xs r.1 k d (omega arith))

-- a clause over some variables is one over more
pub wider : (m n : ℕ) (clause : List Lit) → m ≤ n → IsClause m clause → IsClause n clause
wider m n clause le c = record { in_range = λ k d l. let r = c.in_range k d l in (r.0, omega arith); rising = c.rising }

-- an element stands below the length
pub some_below : {X : Type 0} (xs : List X) (i : ℕ) (x : X) → slice_get xs i ≡ Some x → i < length xs
some_below [] i x e = absurd (none_some e)
  where
    none_some : {X : Type 0} {x : X} → None ≡ Some x → ⊥
    none_some e = cc
some_below (y ∷ ys) zero x e = omega arith
some_below (y ∷ ys) (suc i) x e = let l = some_below ys i x e in omega arith

module _ {V : Type 0} (vars : List V) where
  -- the number of an entry is that of a variable
  pub entry_range : (x : ℕ × V) → Contains (enumerate_from 1 vars) x → (1 ≤ x.0) × (x.0 ≤ length vars)
  entry_range x m = let r = entry_at vars 1 x m in let low = r.0 in let l = some_below vars (x.0 - 1) x.1 r.1 in (low, omega arith)

  module _ (negated asserted : ℕ × V → Bool) where
    abbrev pub lit_of : ℕ × V → Option Lit
    lit_of x = cond (negated x) (Some (literals.minus x.0)) (cond (asserted x) (Some (literals.plus x.0)) None)

    -- the literal is that of a variable
    pub record IsLiteral (l : Lit) : Type 0 where
      pub of : ℕ × V
      pub is_in : Contains (enumerate_from 1 vars) of
      pub gives : lit_of of ≡ Some l

    lit_var : (x : ℕ × V) (l : Lit) → lit_of x ≡ Some l → l.var ≡ x.0
    lit_var x l e = go (negated x) (asserted x) e
      where
        go : (b c : Bool) → cond b (Some (literals.minus x.0)) (cond c (Some (literals.plus x.0)) None) ≡ Some l → l.var ≡ x.0
        go true c e = ap (λ o. (unwrap_or o l).var) (sym e)
        go false true e = ap (λ o. (unwrap_or o l).var) (sym e)
        go false false e = absurd cc

    pub clause_listed : ListsExactly lit_before IsLiteral (clause_of literals negated asserted vars)
    clause_listed = record {
      rising = rising_filter_map lit_of (λ (x y : ℕ × V). nat_lt x.0 y.0) lit_before (λ x y l m e f t. ap (λ n. nat_lt n m.var) (lit_var x l e) ∙ ap (λ n. nat_lt x.0 n) (lit_var y m f) ∙ t) (enumerate_from 1 vars) (entries_rising vars 1);
      only = All-from_members IsLiteral (clause_of literals negated asserted vars) (λ l m. let r = filter_map_member lit_of (enumerate_from 1 vars) l m in record { of = r.0; is_in = r.1; gives = r.2 });
      every = λ l s. member_filter_map lit_of (enumerate_from 1 vars) s.of l s.is_in s.gives;
    }

    -- a rising list of the same literals is the clause
    pub clause_is : (P : Lit → Type 0) (clause : List Lit) → ListsExactly lit_before P clause → ((l : Lit) → P l → IsLiteral l) → ((l : Lit) → IsLiteral l → P l) → clause ≡ clause_of literals negated asserted vars
    clause_is P clause made to back =
        same_rising lit_before lit_before-irreflexive lit_before-asymmetric clause (clause_of literals negated asserted vars) made.rising clause_listed.rising
        (λ l m. clause_listed.every l (to l (All-contains P clause l made.only m)))
        (λ l m. made.every l (back l (All-contains IsLiteral (clause_of literals negated asserted vars) l clause_listed.only m)))

    pub clause_form : IsClause (length vars) (clause_of literals negated asserted vars)
    clause_form = record {
      in_range = All-from_members (λ (l : Lit). (1 ≤ l.var) × (l.var ≤ length vars)) (clause_of literals negated asserted vars) (λ l m. let s = All-contains IsLiteral (clause_of literals negated asserted vars) l clause_listed.only m in subst (λ n. (1 ≤ n) × (n ≤ length vars)) (sym (lit_var s.of l s.gives)) (entry_range s.of s.is_in));
      rising = adjacent_of (clause_of literals negated asserted vars) clause_listed.rising;
    }

  -- ---- the clauses that are made

  abbrev pub numbers : List (ℕ × V) → List ℕ
  numbers xs = map (λ (x : ℕ × V). x.0) xs

  -- the numbers of the variables that pass rise
  pub numbers_rising : (p : ℕ × V → Bool) → IsRising nat_lt (numbers (filter p (enumerate_from 1 vars)))
  numbers_rising p =
      rising_map (λ (x y : ℕ × V). nat_lt x.0 y.0) nat_lt (λ (x : ℕ × V). x.0) (λ x y t. t) (filter p (enumerate_from 1 vars)) (rising_filter (λ (x y : ℕ × V). nat_lt x.0 y.0) p (enumerate_from 1 vars) (entries_rising vars 1))

  -- the variables that pass
  pub choice_is : (p : ℕ × V → Bool) → plus_all (numbers (filter p (enumerate_from 1 vars))) ≡ clause_of literals no_variable p vars
  choice_is p = go (enumerate_from 1 vars)
    where
      go : (xs : List (ℕ × V)) → plus_all (numbers (filter p xs)) ≡ filter_map (λ (x : ℕ × V). cond (p x) (Some (literals.plus x.0)) None) xs
      go [] = refl
      go (x ∷ xs) =
          elim (p x) as (λ b. plus_all (numbers (cond b (x ∷ filter p xs) (filter p xs))) ≡ cons_option (cond b (Some (literals.plus x.0)) None) (filter_map (λ (x : ℕ × V). cond (p x) (Some (literals.plus x.0)) None) xs)) [
            | true ↦ ap (λ zs. literals.plus x.0 ∷ zs) (go xs)
            | false ↦ go xs
          ]

  -- a negated variable among those that pass, where it doesn't
  pub implication_is : (p : ℕ × V → Bool) (n : ℕ) (v : V) (clause : List Lit) → Contains (enumerate_from 1 vars) (n, v) → p (n, v) ≡ false → ListsExactly lit_before (IsOfImplication n (numbers (filter p (enumerate_from 1 vars)))) clause → clause ≡ clause_of literals (is_numbered n) p vars
  implication_is p n v clause entry off made = clause_is (is_numbered n) p (IsOfImplication n (numbers (filter p (enumerate_from 1 vars)))) clause made to back
    where
      entries : List (ℕ × V)
      entries = enumerate_from 1 vars

      passing : (x : ℕ × V) → Contains (enumerate_from 1 vars) x → p x ≡ true → (x.0 == n) ≡ false
      passing x m t =
          elim (cases_Bool (x.0 == n)) [
            | inr f ↦ f
            | inl e ↦
                let number : x.0 ≡ n = eqb-true x.0 n e in
                let value : x.1 ≡ v = entry_same vars x (n, v) m entry number in
                let same : x ≡ (n, v) = λ i. (number i, value i) in
                absurd (true≢false (sym t ∙ ap p same ∙ off))
          ]

      to : (l : Lit) → IsOfImplication n (numbers (filter p (enumerate_from 1 vars))) l → IsLiteral (is_numbered n) p l
      to l (inl e) = record { of = (n, v); is_in = entry; gives = ap (λ b. cond b (Some (literals.minus n)) (cond (p (n, v)) (Some (literals.plus n)) None)) (eq-eqb n n refl) ∙ ap (λ z. Some z) (sym e) }
      to l (inr h) =
          let r = map_member (λ (x : ℕ × V). x.0) (filter p (enumerate_from 1 vars)) h.0 h.1.0 in
          let k = filter_member p (enumerate_from 1 vars) r.0 r.1 in
          record {
            of = r.0;
            is_in = k.0;
            gives = ap (λ b. cond b (Some (literals.minus r.0.0)) (cond (p r.0) (Some (literals.plus r.0.0)) None)) (passing r.0 k.0 k.1) ∙ ap (λ b. cond b (Some (literals.plus r.0.0)) None) k.1 ∙ ap (λ m. Some (literals.plus m)) r.2 ∙ ap (λ z. Some z) (sym h.1.1);
          }

      back_at : (l : Lit) (x : ℕ × V) → Contains (enumerate_from 1 vars) x → (b c : Bool) → (x.0 == n) ≡ b → p x ≡ c → cond b (Some (literals.minus x.0)) (cond c (Some (literals.plus x.0)) None) ≡ Some l → IsOfImplication n (numbers (filter p (enumerate_from 1 vars))) l
      back_at l x m true c eb ec e = inl (ap (λ o. unwrap_or o l) (sym e) ∙ ap literals.minus (eqb-true x.0 n eb))
      back_at l x m false true eb ec e = inr (x.0, (member_map (λ (x : ℕ × V). x.0) (filter p (enumerate_from 1 vars)) x (member_filter p (enumerate_from 1 vars) x m ec), ap (λ o. unwrap_or o l) (sym e)))
      back_at l x m false false eb ec e = absurd cc

      back : (l : Lit) → IsLiteral (is_numbered n) p l → IsOfImplication n (numbers (filter p (enumerate_from 1 vars))) l
      back l s = back_at l s.of s.is_in (s.of.0 == n) (p s.of) refl refl s.gives

  -- two negated variables, the lower number first
  pub exclusion_is : (u w : ℕ × V) → Contains (enumerate_from 1 vars) u → Contains (enumerate_from 1 vars) w → u.0 < w.0 → literals.minus u.0 ∷ literals.minus w.0 ∷ [] ≡ clause_of literals (λ x. is_numbered u.0 x || is_numbered w.0 x) no_variable vars
  exclusion_is u w in_u in_w less = clause_is (λ x. is_numbered u.0 x || is_numbered w.0 x) no_variable (Contains pair) pair made to back
    where
      pair : List Lit
      pair = literals.minus u.0 ∷ literals.minus w.0 ∷ []

      made : ListsExactly lit_before (Contains pair) pair
      made = record {
        rising = (All-cons (λ m. IsTrue (lit_before (literals.minus u.0) m)) (literals.minus w.0) [] (lt-ltb u.0 w.0 less) (All-nil (λ m. IsTrue (lit_before (literals.minus u.0) m))), (All-nil (λ m. IsTrue (lit_before (literals.minus w.0) m)), tt));
        only = All-from_members (Contains pair) pair (λ l m. m);
        every = λ l m. m;
      }

      literal_at : (x : ℕ × V) → Contains (enumerate_from 1 vars) x → ((x.0 == u.0) || (x.0 == w.0)) ≡ true → (l : Lit) → literals.minus x.0 ≡ l → IsLiteral (λ x. is_numbered u.0 x || is_numbered w.0 x) no_variable l
      literal_at x m t l e = record { of = x; is_in = m; gives = ap (λ b. cond b (Some (literals.minus x.0)) None) t ∙ ap (λ z. Some z) e }

      to : (l : Lit) → Contains pair l → IsLiteral (λ x. is_numbered u.0 x || is_numbered w.0 x) no_variable l
      to l m =
          elim (member_cases (literals.minus u.0) (literals.minus w.0 ∷ []) l m) [
            | inl e ↦ literal_at u in_u (or_left (u.0 == u.0) (u.0 == w.0) (eq-eqb u.0 u.0 refl)) l e
            | inr k ↦ elim (member_cases (literals.minus w.0) [] l k) [
              | inl e ↦ literal_at w in_w (or_right (w.0 == u.0) (w.0 == w.0) (eq-eqb w.0 w.0 refl)) l e
              | inr none ↦ absurd (no_member l none)
            ]
          ]

      back_at : (l : Lit) (x : ℕ × V) (b : Bool) → ((x.0 == u.0) || (x.0 == w.0)) ≡ b → cond b (Some (literals.minus x.0)) None ≡ Some l → Contains pair l
      back_at l x false eb e = absurd cc
      back_at l x true eb e =
          let same : literals.minus x.0 ≡ l = ap (λ o. unwrap_or o l) e in
          elim (or_cases (x.0 == u.0) (x.0 == w.0) eb) [
            | inl h ↦ subst (λ z. Contains pair z) (ap literals.minus (sym (eqb-true x.0 u.0 h)) ∙ same) (member_here (literals.minus u.0) (literals.minus w.0 ∷ []))
            | inr h ↦ subst (λ z. Contains pair z) (ap literals.minus (sym (eqb-true x.0 w.0 h)) ∙ same) (member_there (literals.minus u.0) (literals.minus w.0 ∷ []) (literals.minus w.0) (member_here (literals.minus w.0) []))
          ]

      back : (l : Lit) → IsLiteral (λ x. is_numbered u.0 x || is_numbered w.0 x) no_variable l → Contains pair l
      back l s = back_at l s.of ((s.of.0 == u.0) || (s.of.0 == w.0)) refl s.gives
