use Rattle.std.proofs.Common.{inl, inr, ◌≡◌, ℕ, ◌+◌, ◌<◌, ◌≤◌, Bool, true, false, not, cond, eqb, None, Some, List, [], ◌∷◌, ◌++◌, length, get_or, take, IsTrue, ◌↔◌, MatchBool, sym, ap, ◌∙◌, subst, refl, arith, get_or-take, length-take-le, length-append}
use Rattle.std.specs.List.{Contains}
use Rattle.std.proofs.lemmas.Bool.{cases_lt}
use Rattle.std.proofs.lemmas.Bool.Decides.{Decides-eqb}
use Rattle.std.proofs.lemmas.List.{get_or_default, get_or_append_left, get_or-append-add, get_or-map, length-map}
use Rattle.std.proofs.lemmas.List.Elements.{All-append, All-head, All-tail, All-weaker, All-contains}
use Rattle.heesch_cnf.specs.declared.literal.Lit.{Lit}
use Rattle.heesch_cnf.specs.declared.log.Line.{Line}
use Rattle.heesch_cnf.specs.declared.log.Line.TheVariants.{Given}
use Rattle.heesch_cnf.specs.Literals.{Values, lit_value, signed}
use Rattle.heesch_cnf.specs.Clauses.{IsClause, AreClauses, IsNew, IsWithin}
use Rattle.heesch_cnf.specs.Lines.{refuting, clause_of, clauses_of, clauses_with}
use Rattle.heesch_cnf.proofs.Lists.{Contains-none, Contains-here, Contains-there, Contains-cases}
use Rattle.heesch_cnf.proofs.Rising.{Rises, Rises-from_adjacent}
use Rattle.heesch_cnf.specs.Flat.{code_of}
use Rattle.heesch_rup.specs.Answer.{AreNewBetween}
use Rattle.heesch_rup.specs.Listed.{slot_of, IsFalsified, SomeFalsified, NoneFalsifiedAt}
use Rattle.heesch_rup.proofs.Forms.{take-map}
use Rattle.heesch_rup.proofs.Rarest.{rarest-of}

same_literal : (x l : Lit) → x.var ≡ l.var → signed l.positive (Some (not x.positive)) ≡ Some false → x ≡ l
same_literal x l var e = ap (λ (n : ℕ). record x { var = n }) var ∙ ap (λ (b : Bool). record l { positive = b }) (by_signs x.positive l.positive e)
  where
    by_signs : (p q : Bool) → signed q (Some (not p)) ≡ Some false → p ≡ q
    by_signs true true e = refl
    by_signs true false e = absurd (let bad : true ≡ false = cc in cc)
    by_signs false true e = absurd (let bad : true ≡ false = cc in cc)
    by_signs false false e = refl

-- what is false under the values that refute a clause is one of its literals
false_contains : (clause : List Lit) (l : Lit) → lit_value (refuting clause) l ≡ Some false → Contains clause l
false_contains [] l e = absurd (open_ l.positive e)
  where
    open_ : (p : Bool) → signed p None ≡ Some false → ⊥
    open_ true e = let bad : None ≡ Some false = e in cc
    open_ false e = let bad : None ≡ Some false = e in cc
false_contains (x ∷ xs) l e = by_test (eqb x.var l.var) ((Decides-eqb x.var l.var).0) (λ rest. false_contains xs l rest) e
  where
    by_test : (t : Bool) → (t ≡ true → x.var ≡ l.var) → (lit_value (refuting xs) l ≡ Some false → Contains xs l) →
        signed l.positive (cond t (Some (not x.positive)) (refuting xs l.var)) ≡ Some false → Contains (x ∷ xs) l
    by_test true same later e = subst (λ m. Contains (x ∷ xs) m) (same_literal x l (same refl) e) (Contains-here x xs)
    by_test false same later e = Contains-there x xs l (later e)

-- each literal of a clause is false under the values that refute it
contains_false : (clause : List Lit) (l : Lit) → Rises clause → Contains clause l → lit_value (refuting clause) l ≡ Some false
contains_false [] l rises has = absurd (Contains-none l has)
contains_false (x ∷ xs) l rises has = elim (Contains-cases x xs l has) [
  | inl same ↦ subst (λ m. lit_value (refuting (x ∷ xs)) m ≡ Some false) same (here (eqb x.var x.var) ((Decides-eqb x.var x.var).1 refl) x.positive)
  | inr there ↦
      let above : x.var < l.var = All-contains (λ (y : Lit). x.var < y.var) xs l rises.0 there in
      later (eqb x.var l.var) ((Decides-eqb x.var l.var).0) above (contains_false xs l rises.1 there)
]
  where
    here : (t : Bool) → t ≡ true → (p : Bool) → signed p (cond t (Some (not p)) (refuting xs x.var)) ≡ Some false
    here true e true = refl
    here true e false = refl
    here false e p = absurd (let bad : false ≡ true = e in cc)

    later : (t : Bool) → (t ≡ true → x.var ≡ l.var) → x.var < l.var → lit_value (refuting xs) l ≡ Some false →
        signed l.positive (cond t (Some (not x.positive)) (refuting xs l.var)) ≡ Some false
    later true same above e = let equal : x.var ≡ l.var = same refl in absurd (omega arith)
    later false same above e = e

-- the values that refute a clause make just those clauses false that it contains
pub falsified_within : (vars : ℕ) (earlier clause : List Lit) → IsClause vars clause → IsWithin earlier clause → IsFalsified (refuting clause) earlier
falsified_within vars earlier clause form within =
    All-weaker (Contains clause) (λ l. lit_value (refuting clause) l ≡ Some false) (λ l has. contains_false clause l (Rises-from_adjacent clause form.rising) has) earlier within

pub within_falsified : (earlier clause : List Lit) → IsFalsified (refuting clause) earlier → IsWithin earlier clause
within_falsified earlier clause falsified =
    All-weaker (λ l. lit_value (refuting clause) l ≡ Some false) (Contains clause) (λ l e. false_contains clause l e) earlier falsified

-- a clause is new among the first n exactly where it contains none of them, place by place
IsNew-from : (clauses : List (List Lit)) (n : ℕ) (clause : List Lit) → n ≤ length clauses → ((k : ℕ) → k < n → IsWithin (get_or clauses k []) clause → ⊥) → IsNew (take n clauses) clause
IsNew-from clauses n clause le none k d lt =
    let below : k < n = omega (arith, lt, length-take-le n clauses le) in
    subst (λ e. IsWithin e clause → ⊥) (sym (get_or-take n clauses k d below ∙ get_or_default clauses k d [] (omega arith))) (none k below)

IsNew-at : (clauses : List (List Lit)) (n : ℕ) (clause : List Lit) → n ≤ length clauses → IsNew (take n clauses) clause → (k : ℕ) → k < n → IsWithin (get_or clauses k []) clause → ⊥
IsNew-at clauses n clause le fresh k below =
    subst (λ e. IsWithin e clause → ⊥) (get_or-take n clauses k [] below) (fresh k [] (omega (arith, length-take-le n clauses le)))

-- where no clause of the empty clause's slot, nor of a slot of a literal of the clause, is falsified, the clause is new
pub new_when_none : (counts : List ℕ) (vars : ℕ) (values : Values) (clauses : List (List Lit)) (n : ℕ) (clause : List Lit) → values ≡ refuting clause → IsClause vars clause → n ≤ length clauses →
    NoneFalsifiedAt counts values clauses n 0 → ((j : ℕ) (d : Lit) → j < length clause → NoneFalsifiedAt counts values clauses n (code_of (get_or clause j d))) → IsNew (take n clauses) clause
new_when_none counts vars values clauses n clause is form le none_empty none = IsNew-from clauses n clause le (λ k lt. by_form k lt (get_or clauses k []) refl)
  where
    falsified : (e : List Lit) → IsWithin e clause → IsFalsified values e
    falsified e within = subst (λ (v : Values). IsFalsified v e) (sym is) (falsified_within vars e clause form within)

    by_form : (k : ℕ) → k < n → (e : List Lit) → get_or clauses k [] ≡ e → IsWithin e clause → ⊥
    by_form k lt [] at within = none_empty k lt (ap (slot_of counts) at) (subst (IsFalsified values) (sym at) (falsified [] within))
    by_form k lt (l ∷ ls) at within =
        let one = rarest-of counts (Contains clause) l ls (All-head (Contains clause) l ls within) (All-tail (Contains clause) l ls within) in
        let has = one.1.0 in
        let slot = ap (slot_of counts) at ∙ one.1.1 ∙ ap code_of (sym has.2) in
        none has.0 one.0 has.1 k lt slot (subst (IsFalsified values) (sym at) (falsified (l ∷ ls) within))

-- a falsified clause among the first n lies within the clause
pub not_new_when_some : (values : Values) (clauses : List (List Lit)) (n : ℕ) (clause : List Lit) → values ≡ refuting clause → n ≤ length clauses → SomeFalsified values clauses n → IsNew (take n clauses) clause → ⊥
not_new_when_some values clauses n clause is le some fresh =
    IsNew-at clauses n clause le fresh some.0 some.1.0 (within_falsified (get_or clauses some.0 []) clause (subst (λ (v : Values). IsFalsified v (get_or clauses some.0 [])) is some.1.1))

-- the answer, turned
pub new_by_cases : (contains : Bool) (Some_ New : Type 0) → MatchBool contains Some_ New → (Some_ → New → ⊥) → IsTrue (not contains) ↔ New
new_by_cases true Some_ New h apart = (λ e. absurd (let bad : false ≡ true = e in cc), λ fresh. absurd (apart h fresh))
new_by_cases false Some_ New h apart = (λ e. h, λ fresh. refl)

-- one line more is new
pub fresh_more : (clauses : List (List Lit)) (lines : List Line) (i : ℕ) (clause : List Lit) → ((d : Line) → clause ≡ clause_of (get_or lines i d)) →
    ((k : ℕ) (d : Line) → k < i → IsNew (clauses_with clauses (take k lines)) (clause_of (get_or lines k d))) → IsNew (clauses_with clauses (take i lines)) clause →
    (k : ℕ) (d : Line) → k < i + 1 → IsNew (clauses_with clauses (take k lines)) (clause_of (get_or lines k d))
fresh_more clauses lines i clause is before here k d below = elim (cases_lt k i) [
  | inl less ↦ before k d less
  | inr past ↦
      let same : i ≡ k = omega arith in
      subst (λ n. IsNew (clauses_with clauses (take n lines)) (clause_of (get_or lines n d))) same (subst (λ (c : List Lit). IsNew (clauses_with clauses (take i lines)) c) (is d) here)
]

-- a clause is new among two lists exactly where it is in both
pub new_in_both : (clauses more : List (List Lit)) (clause : List Lit) → IsNew clauses clause → IsNew more clause → IsNew (clauses ++ more) clause
new_in_both clauses more clause one two = All-append (λ e. IsWithin e clause → ⊥) clauses more one two

pub new_in_first : (clauses more : List (List Lit)) (clause : List Lit) → IsNew (clauses ++ more) clause → IsNew clauses clause
new_in_first clauses more clause fresh k d lt = subst (λ e. IsWithin e clause → ⊥) (get_or_append_left clauses more d k lt) (fresh k d (omega (arith, lt, length-append clauses more)))

pub new_in_second : (clauses more : List (List Lit)) (clause : List Lit) → IsNew (clauses ++ more) clause → IsNew more clause
new_in_second clauses more clause fresh k d lt = subst (λ e. IsWithin e clause → ⊥) (get_or-append-add clauses more k d) (fresh (length clauses + k) d (omega (arith, lt, length-append clauses more)))

-- that a line is new, among the clauses of the formula and the first that lines added, and among those before it
pub fresh_line : (clauses added : List (List Lit)) (lines : List Line) (i : ℕ) (clause : List Lit) → added ≡ clauses_of lines → IsNew (clauses ++ take i added) clause → IsNew (clauses_with clauses (take i lines)) clause
fresh_line clauses added lines i clause same fresh =
    subst (λ (cs : List (List Lit)). IsNew (clauses ++ cs) clause) (ap (λ (cs : List (List Lit)). take i cs) same ∙ take-map i lines) fresh

pub line_of_new : (clauses added : List (List Lit)) (lines : List Line) (i : ℕ) (clause : List Lit) → added ≡ clauses_of lines → ((d : Line) → clause ≡ clause_of (get_or lines i d)) →
    ((d : Line) → IsNew (clauses_with clauses (take i lines)) (clause_of (get_or lines i d))) → IsNew (clauses ++ take i added) clause
line_of_new clauses added lines i clause same is fresh =
    let d : Line = Given [] in
    let here = subst (λ (c : List Lit). IsNew (clauses_with clauses (take i lines)) c) (sym (is d)) (fresh d) in
    subst (λ (cs : List (List Lit)). IsNew (clauses ++ cs) clause) (sym (ap (λ (cs : List (List Lit)). take i cs) same ∙ take-map i lines)) here

-- one line more of those from a first one is new
pub between_more : (clauses : List (List Lit)) (lines : List Line) (from i : ℕ) (clause : List Lit) → ((d : Line) → clause ≡ clause_of (get_or lines i d)) → AreNewBetween clauses lines from i →
    IsNew (clauses_with clauses (take i lines)) clause → AreNewBetween clauses lines from (i + 1)
between_more clauses lines from i clause is before here k d le lt = elim (cases_lt k i) [
  | inl less ↦ before k d le less
  | inr past ↦
      let same : i ≡ k = omega arith in
      subst (λ n. IsNew (clauses_with clauses (take n lines)) (clause_of (get_or lines n d))) same (subst (λ (c : List Lit). IsNew (clauses_with clauses (take i lines)) c) (is d) here)
]

-- the clause of a line, which was added, is one over the variables
pub line_clause : (vars : ℕ) (added : List (List Lit)) (lines : List Line) (i : ℕ) → AreClauses vars added → added ≡ clauses_of lines → i < length added → (d : Line) → IsClause vars (clause_of (get_or lines i d))
line_clause vars added lines i form is lt d =
    let e : List Lit = clause_of d in
    let few : i < length lines = omega (arith, lt, ap length is, length-map lines clause_of) in
    subst (IsClause vars) (ap (λ (cs : List (List Lit)). get_or cs i e) is ∙ get_or-map clause_of lines i d e few) (form i e lt)
