use Rattle.std.proofs.Common.{ℕ, ◌+◌, ◌*◌, ◌^◌, ◌<◌, ◌≤◌, List, [], ◌∷◌, length, get_or, take, All, sum_by, arith}
use Rattle.std.proofs.Math.Nat.{mul-le-mul}
use Rattle.std.proofs.lemmas.List.Elements.{All-head, All-tail, All-weaker}
use Rattle.std.proofs.lemmas.List.Sums.{sum_by-le, sum_by_more_le}
use Rattle.heesch_cnf.specs.declared.literal.Lit.{Lit}
use Rattle.heesch_cnf.specs.Clauses.{IsClause, AreClauses}
use Rattle.heesch_cnf.proofs.Rising.{Rises, Rises-from_adjacent}

-- rising variables above a number and up to another are at most as many as lie between
length-rising : (vars low : ℕ) (xs : List Lit) → low ≤ vars → Rises xs → All (λ (l : Lit). l.var ≤ vars) xs → All (λ (l : Lit). low < l.var) xs → low + length xs ≤ vars
length-rising vars low [] le rises within above = omega arith
length-rising vars low (x ∷ xs) le rises within above =
    let bound : x.var ≤ vars = All-head (λ (l : Lit). l.var ≤ vars) x xs within in
    let past : low < x.var = All-head (λ (l : Lit). low < l.var) x xs above in
    let rest = length-rising vars x.var xs bound rises.1 (All-tail (λ (l : Lit). l.var ≤ vars) x xs within) rises.0 in
    omega arith

-- a clause has at most as many literals as there are variables
pub length-clause : (vars : ℕ) (clause : List Lit) → IsClause vars clause → length clause ≤ vars
length-clause vars clause form =
    let P : Lit → Type 0 = λ l. (1 ≤ l.var) × (l.var ≤ vars) in
    let bound = length-rising vars 0 clause (omega arith) (Rises-from_adjacent clause form.rising)
    (All-weaker P (λ (l : Lit). l.var ≤ vars) (λ l h. h.1) clause form.in_range) (All-weaker P (λ (l : Lit). 0 < l.var) (λ l h. omega (arith, h.0)) clause form.in_range) in
    omega arith

-- the literals of the clauses up to one, that one among them, fit 64 bits
pub literals_fit : (vars : ℕ) (clauses : List (List Lit)) (i : ℕ) (d : List Lit) → vars < 2 ^ 32 → length clauses ≤ 2 ^ 31 → AreClauses vars clauses → i < length clauses →
    sum_by length (take i clauses) + length (get_or clauses i d) < 2 ^ 64
literals_fit vars clauses i d small few form lt =
    let part = sum_by_more_le length clauses i d lt in
    let whole = sum_by-le length vars clauses (All-weaker (IsClause vars) (λ c. length c ≤ vars) (λ c f. length-clause vars c f) clauses form) in
    let narrow : vars ≤ 2 ^ 32 = omega arith in
    let product : length clauses * vars ≤ 2 ^ 31 * 2 ^ 32 = mul-le-mul few narrow in
    omega arith
