-- The slot of a clause is the number of one of its literals.
use Rattle.std.proofs.Common.{◌≡◌, ℕ, ◌+◌, ◌*◌, ◌<◌, ◌≤◌, Bool, true, false, cond, nat_lt, List, [], ◌∷◌, All, sym, subst, refl, arith}
use Rattle.std.proofs.lemmas.List.Elements.{All-head, All-tail, All-weaker}
use Rattle.heesch_cnf.specs.declared.literal.Lit.{Lit}
use Rattle.heesch_cnf.specs.Flat.{code_of}
use Rattle.heesch_cnf.specs.Clauses.{IsClause}
use Rattle.heesch_rup.specs.Listed.{count_at, rarest, slot_of}

-- what holds of each literal holds of the rarest
pub rarest-of : (counts : List ℕ) (P : Lit → Type 0) (first : Lit) (ls : List Lit) → P first → All P ls → (m : Lit) × (P m × (rarest counts (code_of first) ls ≡ code_of m))
rarest-of counts P first [] p all = (first, (p, refl))
rarest-of counts P first (l ∷ ls) p all =
    by_test (nat_lt (count_at counts (code_of l)) (count_at counts (code_of first))) (rarest-of counts P l ls (All-head P l ls all) (All-tail P l ls all)) (rarest-of counts P first ls p (All-tail P l ls all))
  where
    by_test : (t : Bool) → (m : Lit) × (P m × (rarest counts (code_of l) ls ≡ code_of m)) → (m : Lit) × (P m × (rarest counts (code_of first) ls ≡ code_of m)) →
        (m : Lit) × (P m × (rarest counts (cond t (code_of l) (code_of first)) ls ≡ code_of m))
    by_test true one other = one
    by_test false one other = other

pub code-lt : (l : Lit) (vars n : ℕ) → l.var ≤ vars → 2 * vars + 1 < n → code_of l < n
code-lt l vars n le room = by_sign l.positive
  where
    by_sign : (p : Bool) → 2 * l.var + cond p 1 0 < n
    by_sign true = omega arith
    by_sign false = omega arith

-- the literals of a clause over the variables have slots
pub codes-lt : (vars n : ℕ) (clause : List Lit) → IsClause vars clause → 2 * vars + 1 < n → All (λ l. code_of l < n) clause
codes-lt vars n clause form room = All-weaker (λ l. (1 ≤ l.var) × (l.var ≤ vars)) (λ l. code_of l < n) (λ l h. code-lt l vars n h.1 room) clause form.in_range

-- a clause over the variables has a slot
pub slot_of-lt : (counts : List ℕ) (vars n : ℕ) (clause : List Lit) → IsClause vars clause → 2 * vars + 1 < n → slot_of counts clause < n
slot_of-lt counts vars n [] form room = omega arith
slot_of-lt counts vars n (l ∷ ls) form room =
    let P : Lit → Type 0 = λ m. code_of m < n in
    let all = codes-lt vars n (l ∷ ls) form room in
    let one = rarest-of counts P l ls (All-head P l ls all) (All-tail P l ls all) in
    subst (λ k. k < n) (sym one.1.1) one.1.0
