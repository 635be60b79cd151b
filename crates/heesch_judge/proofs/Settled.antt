-- What is left of a clause, whether it has a true literal or two open ones, and the clauses of lines.
use Rattle.std.proofs.Common.{◌≡◌, refl, sym, ap, subst, ◌∙◌, ℕ, ◌+◌, ◌<◌, ◌≤◌, Bool, true, false, not, cond, Option, None, Some, List, [], ◌∷◌, ◌++◌, take, filter, length, get_or, arith, inl, inr, ◌⊎◌, All, true≢false}
use Rattle.std.specs.Prelude.{◌↔◌, IsTrue}
use Rattle.std.specs.List.{Contains}
use Rattle.std.proofs.lemmas.List.{get_or_default, get_or-map, length-map}
use Rattle.std.proofs.lemmas.List.Elements.{All-append, All-contains, All-head, Contains-append_left, Contains-append_right}
use Rattle.heesch_grid.proofs.ListFacts.{All-from_members}
use Rattle.heesch_cnf.specs.declared.literal.Lit.{Lit}
use Rattle.heesch_cnf.specs.declared.log.Line.{Line}
use Rattle.heesch_cnf.specs.declared.log.Line.TheVariants.{Learn, Given}
use Rattle.heesch_cnf.specs.declared.values.Left.{Left}
use Rattle.heesch_cnf.specs.declared.values.Left.TheVariants.{Nothing, One, More}
use Rattle.heesch_cnf.specs.Clauses.{AreClauses, IsClause, left_of}
use Rattle.heesch_cnf.specs.Left.{IsLeft}
use Rattle.heesch_cnf.specs.Lines.{LineHolds, LinesHold, clause_of, clauses_of, clauses_with}
use Rattle.heesch_cnf.specs.Literals.{Values, is_false_value, is_true_value, lit_value, signed}
use Rattle.heesch_cnf.proofs.Lists.{Contains-cases, Contains-filter, Contains-here, Contains-none, Contains-there}
use Rattle.heesch_cnf.proofs.Rising.{Rises, Rises-filter, Rises-from_adjacent}
use Rattle.heesch_trail.specs.Fixpoint.{IsFixpoint, IsSettled}
use Rattle.heesch_judge.specs.Propagation.{Extends}
use Rattle.heesch_logs.proofs.Equal.{granted, refused}
use Rattle.heesch_logs.proofs.LogLines.{each_more}

-- what a test lets through is there, and passes it
filtered : {X : Type 0} (p : X → Bool) (xs : List X) (x : X) → Contains (filter p xs) x → Contains xs x × (p x ≡ true)
filtered p [] x h = absurd (Contains-none x h)
filtered p (y ∷ ys) x h = by_test (p y) refl h (filtered p ys x)
  where
    by_test : (t : Bool) → p y ≡ t → Contains (cond t (y ∷ filter p ys) (filter p ys)) x → (Contains (filter p ys) x → Contains ys x × (p x ≡ true)) → Contains (y ∷ ys) x × (p x ≡ true)
    by_test true passes h later = elim (Contains-cases y (filter p ys) x h) [
      | inl e ↦ (subst (Contains (y ∷ ys)) e (Contains-here y ys), ap p (sym e) ∙ passes)
      | inr more ↦ let rest = later more in (Contains-there y ys x rest.0, rest.1)
    ]
    by_test false fails h later = let rest = later h in (Contains-there y ys x rest.0, rest.1)

open_or_true : (o : Option Bool) → not (is_false_value o) ≡ true → (o ≡ Some true) ⊎ (o ≡ None)
open_or_true None e = inr refl
open_or_true (Some true) e = inl refl
open_or_true (Some false) e = absurd (let bad : false ≡ true = e in cc)

only : (x l : Lit) → Contains (x ∷ []) l → x ≡ l
only x l h = elim (Contains-cases x [] l h) [ inl e ↦ e | inr none ↦ absurd (Contains-none l none) ]

-- a literal that isn't false stays so under fewer values
not_false_before : (others values : Values) → Extends others values → (l : Lit) → not (is_false_value (lit_value others l)) ≡ true → not (is_false_value (lit_value values l)) ≡ true
not_false_before others values extends l h = by_value (values l.var) refl
  where
    open_stays : (sign : Bool) → not (is_false_value (signed sign None)) ≡ true
    open_stays true = refl
    open_stays false = refl

    by_value : (o : Option Bool) → values l.var ≡ o → not (is_false_value (lit_value values l)) ≡ true
    by_value None e = ap (λ o. not (is_false_value (signed l.positive o))) e ∙ open_stays l.positive
    by_value (Some b) e = ap (λ o. not (is_false_value (signed l.positive o))) (e ∙ sym (extends l.var b e)) ∙ h

-- what is left of a clause that is settled under further values
module _ (others values : Values) (extends : Extends others values) (clause : List Lit) where
  not_false_left : (l : Lit) → Contains clause l → not (is_false_value (lit_value others l)) ≡ true → Contains (left_of values clause) l
  not_false_left l has h = Contains-filter (λ m. not (is_false_value (lit_value values m))) clause l has (not_false_before others values extends l h)

  true_left : (l : Lit) → Contains clause l → lit_value others l ≡ Some true → Contains (left_of values clause) l
  true_left l has e = not_false_left l has (ap (λ o. not (is_false_value o)) e)

  open_left : (l : Lit) → Contains clause l → lit_value others l ≡ None → Contains (left_of values clause) l
  open_left l has e = not_false_left l has (ap (λ o. not (is_false_value o)) e)

  -- nothing is left
  pub unsettled : left_of values clause ≡ [] → ¬ IsSettled others clause
  unsettled none (inl t) = Contains-none t.0 (subst (λ ls. Contains ls t.0) none (true_left t.0 t.1.0 t.1.1))
  unsettled none (inr two) = Contains-none two.one (subst (λ ls. Contains ls two.one) none (open_left two.one two.has_one two.one_open))

  -- one literal is left, which is true then
  pub one_true : (l : Lit) → left_of values clause ≡ l ∷ [] → IsSettled others clause → lit_value others l ≡ Some true
  one_true l alone (inl t) = ap (lit_value others) (only l t.0 (subst (λ ls. Contains ls t.0) alone (true_left t.0 t.1.0 t.1.1))) ∙ t.1.1
  one_true l alone (inr two) =
      let one = only l two.one (subst (λ ls. Contains ls two.one) alone (open_left two.one two.has_one two.one_open)) in
      let other = only l two.other (subst (λ ls. Contains ls two.other) alone (open_left two.other two.has_other two.other_open)) in
      absurd (two.differ (sym one ∙ other))

module _ (values : Values) (clause : List Lit) where
  pub left_there : (l : Lit) → Contains (left_of values clause) l → Contains clause l × ((lit_value values l ≡ Some true) ⊎ (lit_value values l ≡ None))
  left_there l h = let both = filtered (λ m. not (is_false_value (lit_value values m))) clause l h in (both.0, open_or_true (lit_value values l) both.1)

  -- two are left, of different variables
  two_left : (left : List Lit) → left_of values clause ≡ left → Rises left → 2 ≤ length left → IsSettled values clause
  two_left [] is rises few = absurd (omega arith)
  two_left (x ∷ []) is rises few = absurd (omega arith)
  two_left (x ∷ y ∷ ls) is rises few =
      let one = left_there x (subst (λ ls. Contains ls x) (sym is) (Contains-here x (y ∷ ls))) in
      let other = left_there y (subst (λ ls. Contains ls y) (sym is) (Contains-there x (y ∷ ls) y (Contains-here y ls))) in
      let below : x.var < y.var = All-head (λ (m : Lit). x.var < m.var) y ls rises.0 in
      elim one.1 [
        | inl t ↦ inl (x, (one.0, t))
        | inr first ↦ elim other.1 [
          | inl t ↦ inl (y, (other.0, t))
          | inr second ↦ inr (record { one = x; other = y; has_one = one.0; has_other = other.0; differ = λ same. (let e : x.var ≡ y.var = ap (λ (m : Lit). m.var) same in omega (arith, e, below)); one_open = first; other_open = second })
        ]
      ]

  pub settled_more : (vars : ℕ) → IsClause vars clause → 2 ≤ length (left_of values clause) → IsSettled values clause
  settled_more vars form more =
      two_left (left_of values clause) refl (Rises-filter (λ m. not (is_false_value (lit_value values m))) clause (Rises-from_adjacent clause form.rising)) more

-- ---- the clauses of lines

module _ (vars : ℕ) (lines : List Line) (i : ℕ) (below : i < length lines) (clause : List Lit) (at : (d : Line) → clause ≡ clause_of (get_or lines i d)) where
  pub line_same : clause ≡ get_or (clauses_of lines) i []
  line_same = at (Given []) ∙ sym (get_or-map clause_of lines i (Given []) [] below)

  pub line_below : i < length (clauses_of lines)
  line_below = omega (arith, below, length-map lines clause_of)

  -- there is a place for each variable of the clause
  pub line_fits : AreClauses vars (clauses_of lines) → (n : ℕ) → vars < n → All (λ (l : Lit). l.var < n) clause
  line_fits form n room =
      let is = subst (IsClause vars) (sym line_same) (form i [] line_below) in
      λ k d lt. (let high = (is.in_range k d lt).1 in omega (arith, high, room))

-- lines that hold have clauses over the variables
line_form : (vars : ℕ) (clauses : List (List Lit)) (line : Line) → LineHolds vars clauses line → IsClause vars (clause_of line)
line_form vars clauses (Learn clause hints) h = h.1.0
line_form vars clauses (Given clause) h = h

pub lines_form : (vars : ℕ) (clauses : List (List Lit)) (lines : List Line) → LinesHold vars clauses lines → AreClauses vars (clauses_of lines)
lines_form vars clauses lines hold i d below =
    let few : i < length lines = omega (arith, below, length-map lines clause_of) in
    subst (IsClause vars) (sym (get_or-map clause_of lines i (Given []) d few)) (line_form vars (clauses_with clauses (take i lines)) (get_or lines i (Given [])) (hold i few (Given [])))
