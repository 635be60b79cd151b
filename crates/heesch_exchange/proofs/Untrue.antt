-- Clauses of which no literal is true.
use Rattle.std.proofs.Common.{◌≡◌, ℕ, ◌+◌, ◌-◌, ◌<◌, ◌≤◌, Bool, List, [], take, length, get_or, take_all, sym, subst, arith}
use Rattle.heesch_cnf.specs.declared.literal.Lit.{Lit}
use Rattle.heesch_cnf.specs.Clauses.{IsMadeTrue, IsSatisfied, Satisfies}
use Rattle.heesch_exchange.specs.ClauseTexts.{IsFirstFalse}

-- none of the first literals is true
pub record NoneTrue (v : ℕ → Bool) (clause : List Lit) (count : ℕ) : Type 0 where
  pub false_at : (k : ℕ) (d : Lit) → k < count → ¬ (IsMadeTrue v (get_or clause k d))

pub first_is : (v : ℕ → Bool) (clauses : List (List Lit)) (i : ℕ) → i < length clauses → ¬ (IsSatisfied v (get_or clauses i [])) → Satisfies v (take i clauses) → IsFirstFalse v clauses (i + 1)
first_is v clauses i lt is_false others =
    let back : i + 1 - 1 ≡ i = omega arith in
    record {
      is_number = (omega arith, omega arith);
      is_false = λ s. is_false (subst (λ (k : ℕ). IsSatisfied v (get_or clauses k [])) back s);
      others = subst (λ (k : ℕ). Satisfies v (take k clauses)) (sym back) others;
    }

pub all_true : (v : ℕ → Bool) (clauses : List (List Lit)) (i : ℕ) → length clauses ≤ i → Satisfies v (take i clauses) → Satisfies v clauses
all_true v clauses i le all = subst (Satisfies v) (take_all i clauses le) all
