-- Two groups of workers together.
use Rattle.std.proofs.Common.{◌≡◌, ℕ, zero, suc, ◌+◌, true, List, [], ◌∷◌, ◌++◌, refl, sym, ap, ◌∙◌, subst, arith, length, take, drop, length-append, Vec, Global}
use Rattle.std.specs.Prelude.{All, Result, Ok, Err, IfOk, OnOk}
use Rattle.std.proofs.lemmas.List.Elements.{All-append, All-head, All-tail, All-nil, All-push}
use Rattle.std.proofs.lemmas.List.{take-append-drop}
use Rattle.heesch_io.specs.declared.NoMemory.{NoMemory}
use Rattle.heesch_claims.specs.Machine.{times}
use Rattle.heesch_claims.specs.Board.{BoardView, SeatView, BelongsTo, IsSamePlace}
use Rattle.heesch_claims.proofs.Sound.{times-append}
use Rattle.heesch_pool.specs.Pool.{tickets_of, AnswersEach, AreReady, AreTogether, shares_of, stands_with, HaveWorked}
use Rattle.heesch_pool.proofs.Pairs.{tickets-append}

pub shares-append : (ss ts : List SeatView) → shares_of (ss ++ ts) ≡ shares_of ss + shares_of ts
shares-append [] ts = omega arith
shares-append (s ∷ ss) ts = let r = shares-append ss ts in omega arith

pub stands-append : (x : ℕ) (ss ts : List SeatView) → stands_with x (ss ++ ts) ≡ stands_with x ss + stands_with x ts
stands-append x [] ts = omega arith
stands-append x (s ∷ ss) ts = let r = stands-append x ss ts in omega arith

pub worked_both : (b : BoardView) (os ot ns nt : List SeatView) (ks kt : List ℕ) → HaveWorked b os ns ks → HaveWorked b ot nt kt → HaveWorked b (os ++ ot) (ns ++ nt) (kt ++ ks)
worked_both b os ot ns nt ks kt p q = record {
  ended = All-append (λ s. BelongsTo s b × (s.ended ≡ true)) ns nt p.ended q.ended;
  some = length-append ns nt ∙ (let a = p.some in let c = q.some in let e = length-append os ot in omega arith);
  shares = let a = p.shares in let c = q.shares in let e = shares-append os ot in let f = shares-append ns nt in omega arith;
  claimed = λ x. let a = p.claimed x in let c = q.claimed x in let e = stands-append x ns nt in let f = times-append x kt ks in omega arith;
}

pub ready_apart : (b : BoardView) (seats rest : List SeatView) (seat : SeatView) → seats ≡ seat ∷ rest → AreReady b seats → (BelongsTo seat b × (seat.tickets ≡ [])) × AreReady b rest
ready_apart b seats rest seat is h = let all = subst (AreReady b) is h in (All-head (λ s. BelongsTo s b × (s.tickets ≡ [])) seat rest all, All-tail (λ s. BelongsTo s b × (s.tickets ≡ [])) seat rest all)

module _ {T : Type 0} where
  -- a worker alone, whose seat had claimed nothing
  pub worked_alone : (b : BoardView) (old new rest : List SeatView) (o n : SeatView) (r : Result (Vec (ℕ × T) Global) NoMemory) → old ≡ o ∷ rest → new ≡ n ∷ rest → length rest ≡ 0
      → AreReady b old → IsSamePlace o n × (n.shares ≡ o.shares) → OnOk r (n.ended ≡ true) → IfOk r (λ p. n.tickets ≡ o.tickets ++ tickets_of p.items)
      → IfOk r (λ p. HaveWorked b old new (tickets_of p.items))
  worked_alone b old new [] o n (Ok p) is will none ready same ended gained =
      let fresh = (ready_apart b old [] o is ready).0 in rw (is, will) record {
        ended = All-push (λ s. BelongsTo s b × (s.ended ≡ true)) [] n (All-nil (λ s. BelongsTo s b × (s.ended ≡ true))) ((same.0.0 ∙ fresh.0.0, same.0.1 ∙ fresh.0.1), ended);
        some = refl;
        shares = ap (λ (s : ℕ). s + 0) same.1;
        claimed = λ x. let e = ap (times x) (gained ∙ ap (λ (l : List ℕ). l ++ tickets_of p.items) fresh.1) in omega arith;
      }
  worked_alone b old new (s ∷ rest) o n r is will none ready same ended gained = absurd (omega (arith, none))
  worked_alone b old new [] o n (Err e) is will none ready same ended gained = tt

  pub worked_apart : (b : BoardView) (old new os : List SeatView) (o : SeatView) (low high r : Result (Vec (ℕ × T) Global) NoMemory) → old ≡ o ∷ os
      → IfOk low (λ p. HaveWorked b (o ∷ []) (take 1 new) (tickets_of p.items)) → IfOk high (λ p. HaveWorked b os (drop 1 new) (tickets_of p.items))
      → IfOk r (AreTogether low high) → IfOk r (λ p. HaveWorked b old new (tickets_of p.items))
  worked_apart b old new os o (Ok l) (Ok h) (Ok p) is w v whole =
      let worked = worked_both b (o ∷ []) os (take 1 new) (drop 1 new) (tickets_of l.items) (tickets_of h.items) w v in
      rw (is, ap tickets_of whole ∙ tickets-append h.items l.items) (subst (λ (ns : List SeatView). HaveWorked b (o ∷ os) ns (tickets_of h.items ++ tickets_of l.items)) (take-append-drop 1 new) worked)
  worked_apart b old new os o (Err e) high (Ok p) is w v whole = absurd whole
  worked_apart b old new os o (Ok l) (Err e) (Ok p) is w v whole = absurd whole
  worked_apart b old new os o low high (Err e) is w v whole = tt

  pub answers_apart : (R : ℕ → Result T NoMemory → Type 0) (from : ℕ) (low high r : Result (Vec (ℕ × T) Global) NoMemory) → IfOk low (λ p. AnswersEach R from p.items) → IfOk high (λ p. AnswersEach R from p.items)
      → IfOk r (AreTogether low high) → IfOk r (λ p. AnswersEach R from p.items)
  answers_apart R from (Ok l) (Ok h) (Ok p) w v whole = subst (AnswersEach R from) (sym whole) (All-append (λ x. R (from + x.0) (Ok x.1)) h.items l.items v w)
  answers_apart R from (Err e) high (Ok p) w v whole = absurd whole
  answers_apart R from (Ok l) (Err e) (Ok p) w v whole = absurd whole
  answers_apart R from low high (Err e) w v whole = tt

pub shares_push : (ss : List SeatView) (s : SeatView) → shares_of (ss ++ s ∷ []) ≡ shares_of ss + s.shares
shares_push ss s = let r : shares_of (ss ++ s ∷ []) ≡ shares_of ss + (s.shares + 0) = shares-append ss (s ∷ []) in omega arith

pub stands_push : (x : ℕ) (ss : List SeatView) (s : SeatView) → stands_with x (ss ++ s ∷ []) ≡ stands_with x ss + times x s.tickets
stands_push x ss s = let r : stands_with x (ss ++ s ∷ []) ≡ stands_with x ss + (times x s.tickets + 0) = stands-append x ss (s ∷ []) in omega arith

-- a list whose last item leaves
module _ {A : Type 0} (P : A → Type 0) where
  front_of : (xs : List A) (x : A) → All P (xs ++ x ∷ []) → All P xs
  front_of [] x h k d lt = absurd (omega arith)
  front_of (y ∷ ys) x h zero d lt = h zero d (omega arith)
  front_of (y ∷ ys) x h (suc k) d lt = front_of ys x (λ j e l. h (suc j) e (omega arith)) k d (omega arith)

  last_of : (xs : List A) (x : A) → All P (xs ++ x ∷ []) → P x
  last_of [] x h = h zero x (omega arith)
  last_of (y ∷ ys) x h = last_of ys x (λ j e l. h (suc j) e (omega arith))

  pub popped_front : (old new : List A) (x : A) → old ≡ new ++ x ∷ [] → All P old → All P new
  popped_front old new x is h = front_of new x (subst (All P) is h)

  pub popped_last : (old new : List A) (x : A) → old ≡ new ++ x ∷ [] → All P old → P x
  popped_last old new x is h = last_of new x (subst (All P) is h)
