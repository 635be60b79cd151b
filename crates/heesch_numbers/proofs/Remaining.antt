-- Clauses that remain, piece by piece.
use Rattle.std.proofs.Common.{◌≡◌, refl, sym, subst, ℕ, ◌+◌, ◌<◌, ◌≤◌, List, [], ◌∷◌, length, get_or, take, true, false, true≢false}
use Rattle.std.specs.Prelude.{Bool, MatchBool, IsTrue, ◌↔◌, flat_map}
use Rattle.std.proofs.lemmas.List.{take_all}
use Rattle.std.proofs.lemmas.List.Elements.{All-nil, All-cons, All-append, All-contains, Contains-get_or}
use Rattle.heesch_cnf.specs.declared.literal.Lit.{Lit}
use Rattle.heesch_cnf.specs.Literals.{Values}
use Rattle.heesch_cnf.specs.Clauses.{left_of}
use Rattle.heesch_grid.proofs.ListFacts.{All-from_members, member_here}
use Rattle.heesch_grid.proofs.WindowFacts.{member_flat_map}
use Rattle.heesch_encode.proofs.Rising.{pieces_more}
use Rattle.heesch_numbers.specs.Common.{AllRemain}

module _ (values : Values) where
  abbrev Remains : List Lit → Type 0
  Remains clause = ¬ (left_of values clause ≡ [])

  pub none_to_remain : AllRemain values []
  none_to_remain = All-nil Remains

  pub one_remains : (clause : List Lit) → Remains clause → AllRemain values (clause ∷ [])
  one_remains clause h = All-cons Remains clause [] h (All-nil Remains)

  pub one_fails : (clause : List Lit) → left_of values clause ≡ [] → ¬ AllRemain values (clause ∷ [])
  one_fails clause none h = All-contains Remains (clause ∷ []) clause h (member_here clause []) none

  module _ {X : Type 0} (f : X → List (List Lit)) (xs : List X) (i : ℕ) (d : X) (less : i < length xs) where
    pub piece_remains : AllRemain values (flat_map f (take i xs)) → AllRemain values (f (get_or xs i d)) → AllRemain values (flat_map f (take (i + 1) xs))
    piece_remains s t = subst (AllRemain values) (sym (pieces_more f xs i d less)) (All-append Remains (flat_map f (take i xs)) (f (get_or xs i d)) s t)

    pub piece_fails : ¬ AllRemain values (f (get_or xs i d)) → ¬ AllRemain values (flat_map f xs)
    piece_fails fails h = fails (All-from_members Remains (f (get_or xs i d)) (λ c m. All-contains Remains (flat_map f xs) c h (member_flat_map f xs (get_or xs i d) c (Contains-get_or xs i d less) m)))

  pub pieces_remain : {X : Type 0} (f : X → List (List Lit)) (xs : List X) (i : ℕ) → length xs ≤ i → AllRemain values (flat_map f (take i xs)) → AllRemain values (flat_map f xs)
  pieces_remain f xs i l h = subst (λ ys. AllRemain values (flat_map f ys)) (take_all i xs l) h

-- what an answer says, once it is known
pub when_true : (b : Bool) (P Q : Type 0) → b ≡ true → MatchBool b P Q → P
when_true b P Q e h = subst (λ b. MatchBool b P Q) e h

pub when_false : (b : Bool) (P Q : Type 0) → b ≡ false → MatchBool b P Q → Q
when_false b P Q e h = subst (λ b. MatchBool b P Q) e h

-- an answer on one clause, as one on a list of it
pub one_answer : (values : Values) (clause : List Lit) (clauses : List (List Lit)) (b : Bool) → clause ∷ [] ≡ clauses → MatchBool b (¬ (left_of values clause ≡ [])) (left_of values clause ≡ []) → MatchBool b (AllRemain values clauses) (¬ AllRemain values clauses)
one_answer values clause clauses true is h = subst (AllRemain values) is (one_remains values clause h)
one_answer values clause clauses false is h = λ all. one_fails values clause h (subst (AllRemain values) (sym is) all)

-- one fact more
pub both_answer : (A B : Type 0) (b : Bool) → A → MatchBool b B (¬ B) → MatchBool b (A × B) (¬ (A × B))
both_answer A B true a h = (a, h)
both_answer A B false a h = λ both. h both.1

-- an answer on one fact, as one on another that holds just where it does
pub same_answer : (b : Bool) (N W : Type 0) → MatchBool b N (¬ N) → (N → W) → (W → N) → IsTrue b ↔ W
same_answer true N W h to back = (λ t. to h, λ w. refl)
same_answer false N W h to back = (λ t. absurd (true≢false (sym t)), λ w. absurd (h (back w)))
