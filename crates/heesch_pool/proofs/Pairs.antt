-- Lists of tickets and of pairs.
use Rattle.std.proofs.Common.{◌≡◌, ℕ, ◌+◌, ◌<◌, ◌≤◌, max, List, [], ◌∷◌, ◌++◌, refl, sym, ap, ◌∙◌, subst, arith, append_assoc}
use Rattle.std.specs.Prelude.{Result, Ok}
use Rattle.std.proofs.lemmas.List.Elements.{All-push}
use Rattle.heesch_io.specs.declared.NoMemory.{NoMemory}
use Rattle.heesch_claims.specs.Machine.{times}
use Rattle.heesch_pool.specs.Pool.{tickets_of, AnswersEach}
use Rattle.heesch_claims.proofs.Sound.{times_here, times-append}

-- one more than the greatest of the tickets, or 0
abbrev pub bound_of : List ℕ → ℕ
bound_of [] = 0
bound_of (x ∷ xs) = max (x + 1) (bound_of xs)

-- a number above each ticket is at least the bound
pub bound_le : (xs : List ℕ) (t : ℕ) → ((x : ℕ) → 0 < times x xs → x < t) → bound_of xs ≤ t
bound_le [] t h = omega arith
bound_le (y ∷ ys) t h =
    let here : y < t = h y (let e = times_here y y refl in let s = times-append y (y ∷ []) ys in omega arith) in
    let rest : bound_of ys ≤ t = bound_le ys t (λ x p. h x (let s = times-append x (y ∷ []) ys in omega arith)) in omega arith

pub bound_snoc : (xs : List ℕ) (t : ℕ) → t < bound_of (xs ++ t ∷ [])
bound_snoc [] t = omega arith
bound_snoc (x ∷ xs) t = let r = bound_snoc xs t in omega arith

module _ {T : Type 0} where
  pub tickets-append : (ps qs : List (ℕ × T)) → tickets_of (ps ++ qs) ≡ tickets_of ps ++ tickets_of qs
  tickets-append [] qs = refl
  tickets-append (p ∷ ps) qs = ap (λ (l : List ℕ). p.0 ∷ l) (tickets-append ps qs)

  pub gained_snoc : (now start : List ℕ) (ps qs : List (ℕ × T)) (t : ℕ) (x : T) → now ≡ start ++ tickets_of ps → qs ≡ ps ++ (t, x) ∷ [] → now ++ t ∷ [] ≡ start ++ tickets_of qs
  gained_snoc now start ps qs t x e f =
      ap (λ (l : List ℕ). l ++ t ∷ []) e
      ∙ (append_assoc start (tickets_of ps) (t ∷ []) ∙ ap (λ (l : List ℕ). start ++ l) (sym (tickets-append ps ((t, x) ∷ [])) ∙ ap tickets_of (sym f)))

  pub answers_snoc : (R : ℕ → Result T NoMemory → Type 0) (from : ℕ) (ps qs : List (ℕ × T)) (t : ℕ) (x : T) → AnswersEach R from ps → R (from + t) (Ok x) → qs ≡ ps ++ (t, x) ∷ [] → AnswersEach R from qs
  answers_snoc R from ps qs t x h r f = subst (AnswersEach R from) (sym f) (All-push (λ p. R (from + p.0) (Ok p.1)) ps (t, x) h r)
