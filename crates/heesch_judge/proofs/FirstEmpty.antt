-- The first clause without literals.
use Rattle.std.proofs.Common.{◌≡◌, ◌≢◌, refl, sym, ap, subst, ◌∙◌, ℕ, ◌+◌, ◌-◌, ◌<◌, ◌≤◌, Bool, true, false, not, cond, None, List, [], ◌∷◌, length, arith, inl, inr}
use Rattle.std.specs.Prelude.{◌↔◌}
use Rattle.std.specs.List.{Contains}
use Rattle.std.proofs.lemmas.Bool.{cases_lt}
use Rattle.std.proofs.lemmas.List.Elements.{All-nil}
use Rattle.heesch_cnf.specs.declared.literal.Lit.{Lit}
use Rattle.heesch_cnf.specs.declared.values.Left.{Left}
use Rattle.heesch_cnf.specs.declared.values.Left.TheVariants.{Nothing, One, More}
use Rattle.heesch_cnf.specs.Clauses.{IsNew, IsWithin, left_of}
use Rattle.heesch_cnf.specs.Left.{IsLeft}
use Rattle.heesch_cnf.specs.Lines.{numbered, refuting}
use Rattle.heesch_cnf.specs.Literals.{Values, is_false_value, signed}
use Rattle.heesch_cdcl.specs.Empty.{IsFirstEmpty, NoneEmpty}

-- where all variables are open, all of a clause is left
all_left : (clause : List Lit) → left_of (refuting []) clause ≡ clause
all_left [] = refl
all_left (l ∷ ls) = ap (λ t. cond t (l ∷ left_of (refuting []) ls) (left_of (refuting []) ls)) (stays l.positive) ∙ ap (λ (m : List Lit). l ∷ m) (all_left ls)
  where
    stays : (sign : Bool) → not (is_false_value (signed sign None)) ≡ true
    stays true = refl
    stays false = refl

pub nothing_left : (values : Values) (clause : List Lit) (left : Left) → values ≡ refuting [] → IsLeft values clause left → (left ≡ Nothing) ↔ (clause ≡ [])
nothing_left values clause left are is = by_left left (subst (λ (vs : Values). IsLeft vs clause left) are is)
  where
    by_left : (left : Left) → IsLeft (refuting []) clause left → (left ≡ Nothing) ↔ (clause ≡ [])
    by_left Nothing none = ((λ e. sym (all_left clause) ∙ none), (λ e. refl))
    by_left (One l) one = ((λ e. absurd (let bad : ⊥ = cc in bad)), (λ e. absurd (let bad : [] ≡ l ∷ [] = sym e ∙ sym (all_left clause) ∙ one in cc)))
    by_left More two = ((λ e. absurd (let bad : ⊥ = cc in bad)), (λ e. absurd (let long : length (left_of (refuting []) clause) ≡ 0 = ap length (all_left clause ∙ e) in omega (arith, long, two))))

module _ (clauses : List (List Lit)) where
  -- where the empty clause is new, none is empty
  pub none_of_new : IsNew clauses [] → NoneEmpty clauses
  none_of_new fresh n number e =
      let low = number.0 in
      let high = number.1 in
      fresh (n - 1) [] (omega (arith, low, high)) (subst (λ (c : List Lit). IsWithin c []) (sym e) (All-nil (Contains [])))

  -- the first so many clauses aren't empty
  abbrev pub NoneUpTo : ℕ → Type 0
  NoneUpTo i = (k : ℕ) → 1 ≤ k → k ≤ i → numbered clauses k ≢ []

  pub one_more : (i : ℕ) → NoneUpTo i → numbered clauses (i + 1) ≢ [] → NoneUpTo (i + 1)
  one_more i before here k low high = elim (cases_lt k (i + 1)) [
    | inl less ↦ before k low (omega (arith, less))
    | inr top ↦ let same : i + 1 ≡ k = omega (arith, top, high) in subst (λ n. numbered clauses n ≢ []) same here
  ]

  pub first_of : (i : ℕ) → NoneUpTo i → i < length clauses → numbered clauses (i + 1) ≡ [] → IsFirstEmpty clauses (i + 1)
  first_of i before below nothing = record { number = (omega arith, omega (arith, below)); nothing = nothing; least = λ k low less. before k low (omega (arith, less)) }

  pub none_of_all : (i : ℕ) → NoneUpTo i → length clauses ≤ i → NoneEmpty clauses
  none_of_all i before all n number = let low = number.0 in let high = number.1 in before n low (omega (arith, high, all))
