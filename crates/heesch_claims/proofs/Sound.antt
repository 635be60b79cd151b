-- Every state that a lawful run reaches is sound.
use Rattle.std.proofs.Common.{◌≡◌, ◌≢◌, ℕ, zero, suc, ◌+◌, ◌-◌, ◌<◌, ◌≤◌, Bool, true, false, ◌||◌, List, [], ◌∷◌, ◌++◌, ◌⊎◌, inl, inr, ⊎_elim, set, refl, sym, ap, ◌∙◌, subst, arith, eq-eqb, ne_eqb}
use Rattle.std.specs.Prelude.{Option, Some, None, is_some, IsSome, IsSomeAnd, nat_lt, if◌then◌else◌}
use native.Mathlib.Decide.{ℕ_discrete}
use mathlib.Core.Logic.{dite}
use borrow.Author.Tests.{ltb-true, ltb-false}
use Rattle.heesch_claims.specs.declared.event.Event.{Event}
use Rattle.heesch_claims.specs.declared.event.Event.TheVariants.{Split, Draw, Join}
use Rattle.heesch_claims.specs.Machine.{Worker, worker, Claims, claims, first_claims, ALL_SHARES, worker_at, after_split, after_draw, after_join, merged, if_live, after, IsLawful, run, IsLawfulRun, IsReached, times, total, held, EachLive, ClaimsEachOnce, SharesTheWhole, EveryRunIsSound}

abbrev Places : Type 0
Places = List (Option Worker)

-- lists of workers

total_set : (f : Worker → ℕ) (l : Places) (i : ℕ) (v : Worker) (x : Option Worker) → worker_at l i ≡ Some v → total f (set l i x) + f v ≡ total f l + if_live x 0 f
total_set f [] i v x e = absurd (let n : ⊥ = cc in n)
total_set f (y ∷ ys) zero v x e = let is : if_live y 0 f ≡ f v = ap (λ (o : Option Worker). if_live o 0 f) e in omega arith
total_set f (y ∷ ys) (suc i) v x e = let r = total_set f ys i v x e in omega arith

pub total_swap : (f : Worker → ℕ) (l : Places) (i : ℕ) (v w : Worker) → worker_at l i ≡ Some v → total f (set l i (Some w)) + f v ≡ total f l + f w
total_swap f l i v w e = total_set f l i v (Some w) e

pub total_clear : (f : Worker → ℕ) (l : Places) (i : ℕ) (v : Worker) → worker_at l i ≡ Some v → total f (set l i None) + f v ≡ total f l
total_clear f l i v e = let s : total f (set l i None) + f v ≡ total f l + 0 = total_set f l i v None e in omega arith

pub total_push : (f : Worker → ℕ) (l : Places) (w : Worker) → total f (l ++ Some w ∷ []) ≡ total f l + f w
total_push f [] w = omega arith
total_push f (y ∷ ys) w = let r = total_push f ys w in omega arith

-- what a list adds up to is no more than where each worker counts for more
pub total_le : (f g : Worker → ℕ) (l : Places) → ((w : Worker) → f w ≤ g w) → total f l ≤ total g l
total_le f g [] h = omega arith
total_le f g (None ∷ ys) h = let r = total_le f g ys h in omega arith
total_le f g (Some w ∷ ys) h = let r = total_le f g ys h in let k = h w in omega arith

pub at_set : (l : Places) (i j : ℕ) (x : Option Worker) (w : Worker) → worker_at (set l i x) j ≡ Some w → ((j ≡ i) × (x ≡ Some w)) ⊎ ((j ≢ i) × (worker_at l j ≡ Some w))
at_set [] i j x w e = absurd (let n : ⊥ = cc in n)
at_set (y ∷ ys) zero zero x w e = inl (refl, e)
at_set (y ∷ ys) zero (suc j) x w e = inr ((λ h. omega arith), e)
at_set (y ∷ ys) (suc i) zero x w e = inr ((λ h. omega arith), e)
at_set (y ∷ ys) (suc i) (suc j) x w e = ⊎_elim (λ t. inl (ap suc t.0, t.1)) (λ t. let n = t.0 in inr ((λ h. n (omega arith)), t.1)) (at_set ys i j x w e)

pub at_snoc : (l : Places) (j : ℕ) (x : Option Worker) (w : Worker) → worker_at (l ++ x ∷ []) j ≡ Some w → (worker_at l j ≡ Some w) ⊎ (x ≡ Some w)
at_snoc [] zero x w e = inr e
at_snoc [] (suc j) x w e = absurd (let n : ⊥ = cc in n)
at_snoc (y ∷ ys) zero x w e = inl e
at_snoc (y ∷ ys) (suc j) x w e = at_snoc ys j x w e

pub at_set_else : (l : Places) (i j : ℕ) (x : Option Worker) → j ≢ i → worker_at (set l i x) j ≡ worker_at l j
at_set_else [] i j x n = refl
at_set_else (y ∷ ys) zero zero x n = absurd (n refl)
at_set_else (y ∷ ys) zero (suc j) x n = refl
at_set_else (y ∷ ys) (suc i) zero x n = refl
at_set_else (y ∷ ys) (suc i) (suc j) x n = at_set_else ys i j x (λ e. n (ap suc e))

each_set : (P : Worker → Type 0) (l : Places) (i : ℕ) (x : Option Worker) → EachLive P l → ((w : Worker) → x ≡ Some w → P w) → EachLive P (set l i x)
each_set P l i x h k j w e = ⊎_elim (λ t. k w t.1) (λ t. h j w t.1) (at_set l i j x w e)

each_snoc : (P : Worker → Type 0) (l : Places) (x : Option Worker) → EachLive P l → ((w : Worker) → x ≡ Some w → P w) → EachLive P (l ++ x ∷ [])
each_snoc P l x h k j w e = ⊎_elim (λ t. h j w t) (λ t. k w t) (at_snoc l j x w e)

pub each_swap : (P : Worker → Type 0) (l : Places) (i : ℕ) (v : Worker) → EachLive P l → P v → EachLive P (set l i (Some v))
each_swap P l i v h p = each_set P l i (Some v) h (λ w e. let is : v ≡ w = cc in subst P is p)

pub each_clear : (P : Worker → Type 0) (l : Places) (i : ℕ) → EachLive P l → EachLive P (set l i None)
each_clear P l i h = each_set P l i None h (λ w e. absurd (let n : ⊥ = cc in n))

pub each_push : (P : Worker → Type 0) (l : Places) (v : Worker) → EachLive P l → P v → EachLive P (l ++ Some v ∷ [])
each_push P l v h p = each_snoc P l (Some v) h (λ w e. let is : v ≡ w = cc in subst P is p)

-- how often a number stands in a list

pub times-append : (x : ℕ) (xs ys : List ℕ) → times x (xs ++ ys) ≡ times x xs + times x ys
times-append x [] ys = omega arith
times-append x (y ∷ xs) ys = let r = times-append x xs ys in omega arith

pub times_here : (x y : ℕ) → y ≡ x → times x (y ∷ []) ≡ 1
times_here x y e = rw (eq-eqb y x e) refl

pub times_else : (x y : ℕ) → y ≢ x → times x (y ∷ []) ≡ 0
times_else x y n = rw (ne_eqb y x n) refl

-- What every lawful event keeps. An ended worker's shares bound how often next went past count

abbrev pub late : Worker → ℕ
late w = if w.ended then w.shares else 0

pub record Kept (c : Claims) : Type 0 where
  pub below : (x : ℕ) → 0 < held x c.workers → (x < c.count) × (x < c.next)
  pub once : (x : ℕ) → held x c.workers ≤ 1
  pub every : (x : ℕ) → x < c.count → x < c.next → held x c.workers ≡ 1
  pub ended : EachLive (λ w. w.ended ≡ true → c.count ≤ c.next) c.workers
  pub shares : EachLive (λ w. 0 < w.shares) c.workers
  pub whole : total (λ w. w.shares) c.workers ≡ ALL_SHARES
  pub past : c.next ≤ c.count + total late c.workers

pub kept_first : (n : ℕ) → Kept (first_claims n)
kept_first n = record {
  below = λ x h. absurd (omega arith);
  once = λ x. omega arith;
  every = λ x h k. absurd (omega arith);
  ended = each_push (λ w. w.ended ≡ true → n ≤ 0) [] (worker [] ALL_SHARES false) (none _) (λ e. absurd (let n : ⊥ = cc in n));
  shares = each_push (λ w. 0 < w.shares) [] (worker [] ALL_SHARES false) (none _) (omega arith);
  whole = refl;
  past = omega arith;
}
  where
    none : (P : Worker → Type 0) → EachLive P []
    none P who w e = absurd (let n : ⊥ = cc in n)

late_of : (w : Worker) (b : Bool) → w.ended ≡ b → late w ≡ (if b then w.shares else 0)
late_of w b e = ap (λ (v : Bool). if v then w.shares else 0) e

merge_le : (a b : Bool) (m n : ℕ) → (if a then m else 0) + (if b then n else 0) ≤ (if a || b then m + n else 0)
merge_le true true m n = omega arith
merge_le true false m n = omega arith
merge_le false true m n = omega arith
merge_le false false m n = omega arith

-- one live worker claims, ends, splits or takes in another
module _ (c : Claims) (who : ℕ) (w : Worker) (at : worker_at c.workers who ≡ Some w) (k : Kept c) where
  abbrev took : Worker
  took = worker (w.tickets ++ c.next ∷ []) w.shares w.ended

  held_took : (x : ℕ) → held x (set c.workers who (Some took)) ≡ held x c.workers + times x (c.next ∷ [])
  held_took x =
      let s : held x (set c.workers who (Some took)) + times x w.tickets ≡ held x c.workers + times x (w.tickets ++ c.next ∷ []) = total_swap (λ v. times x v.tickets) c.workers who w took at in
      let a = times-append x w.tickets (c.next ∷ []) in omega arith

  unclaimed : (x : ℕ) → c.next ≤ x → held x c.workers ≡ 0
  unclaimed x h = dite (ℕ_discrete (held x c.workers) 0) (λ z. z) (λ n. absurd (let b : x < c.next = (k.below x (omega arith)).1 in omega arith))

  pub kept_took : w.ended ≡ false → c.next < c.count → Kept (claims c.count (c.next + 1) (set c.workers who (Some took)))
  kept_took still room = record {
    below = λ x h. dite (ℕ_discrete c.next x) (λ e. (omega arith, omega arith)) (λ n. let p : 0 < held x c.workers = omega (arith, held_took x, times_else x c.next n) in let b = k.below x p in (b.0, omega (arith, b.1)));
    once = λ x. dite (ℕ_discrete c.next x) (λ e. omega (arith, held_took x, times_here x c.next e, unclaimed x (omega arith))) (λ n. omega (arith, held_took x, times_else x c.next n, k.once x));
    every = λ x h g. dite (ℕ_discrete c.next x) (λ e. omega (arith, held_took x, times_here x c.next e, unclaimed x (omega arith))) (λ n. omega (arith, held_took x, times_else x c.next n, k.every x h (omega arith)));
    ended = each_swap (λ v. v.ended ≡ true → c.count ≤ c.next + 1) c.workers who took (λ j v e t. omega (arith, k.ended j v e t)) (λ t. absurd (let n : ⊥ = cc in n));
    shares = each_swap (λ v. 0 < v.shares) c.workers who took k.shares (k.shares who w at);
    whole = let s : total (λ v. v.shares) (set c.workers who (Some took)) + w.shares ≡ total (λ v. v.shares) c.workers + w.shares = total_swap (λ v. v.shares) c.workers who w took at in omega (arith, k.whole);
    past = let s : total late (set c.workers who (Some took)) + late w ≡ total late c.workers + late w = total_swap late c.workers who w took at in omega (arith, k.past);
  }

  abbrev stopped : Worker
  stopped = worker w.tickets w.shares true

  held_stopped : (x : ℕ) → held x (set c.workers who (Some stopped)) ≡ held x c.workers
  held_stopped x =
      let s : held x (set c.workers who (Some stopped)) + times x w.tickets ≡ held x c.workers + times x w.tickets = total_swap (λ v. times x v.tickets) c.workers who w stopped at in omega arith

  pub kept_stopped : w.ended ≡ false → c.count ≤ c.next → Kept (claims c.count (c.next + 1) (set c.workers who (Some stopped)))
  kept_stopped still full = record {
    below = λ x h. let b = k.below x (omega (arith, held_stopped x)) in (b.0, omega (arith, b.1));
    once = λ x. omega (arith, held_stopped x, k.once x);
    every = λ x h g. omega (arith, held_stopped x, k.every x h (omega arith));
    ended = each_swap (λ v. v.ended ≡ true → c.count ≤ c.next + 1) c.workers who stopped (λ j v e t. omega (arith, k.ended j v e t)) (λ t. omega arith);
    shares = each_swap (λ v. 0 < v.shares) c.workers who stopped k.shares (k.shares who w at);
    whole = let s : total (λ v. v.shares) (set c.workers who (Some stopped)) + w.shares ≡ total (λ v. v.shares) c.workers + w.shares = total_swap (λ v. v.shares) c.workers who w stopped at in omega (arith, k.whole);
    past = let s : total late (set c.workers who (Some stopped)) + late w ≡ total late c.workers + w.shares = total_swap late c.workers who w stopped at in let z : late w ≡ 0 = late_of w false still in
        let p : 0 < w.shares = k.shares who w at in omega (arith, k.past);
  }

  by_draw : (ended room : Bool) → w.ended ≡ ended → nat_lt c.next c.count ≡ room
      → Kept (if ended then c else if room then claims c.count (c.next + 1) (set c.workers who (Some (worker (w.tickets ++ c.next ∷ []) w.shares w.ended))) else claims c.count (c.next + 1) (set c.workers who (Some (worker w.tickets w.shares true))))
  by_draw true room e f = k
  by_draw false true e f = kept_took e (ltb-true c.next c.count f)
  by_draw false false e f = kept_stopped e (ltb-false c.next c.count f)

  pub kept_draw : Kept (after_draw c who w)
  kept_draw = by_draw w.ended (nat_lt c.next c.count) refl refl

  abbrev lesser : Worker
  lesser = worker w.tickets (w.shares - 1) w.ended

  abbrev newcomer : Worker
  newcomer = worker [] 1 false

  split_total : (f : Worker → ℕ) → total f (after_split c who w).workers + f w ≡ total f c.workers + (f lesser + f newcomer)
  split_total f =
      let s : total f (set c.workers who (Some lesser)) + f w ≡ total f c.workers + f lesser = total_swap f c.workers who w lesser at in
      let p : total f (after_split c who w).workers ≡ total f (set c.workers who (Some lesser)) + f newcomer = total_push f (set c.workers who (Some lesser)) newcomer in omega arith

  held_split : (x : ℕ) → held x (after_split c who w).workers ≡ held x c.workers
  held_split x = let s : held x (after_split c who w).workers + times x w.tickets ≡ held x c.workers + (times x w.tickets + 0) = split_total (λ v. times x v.tickets) in omega arith

  pub kept_split : w.ended ≡ false → 2 ≤ w.shares → Kept (after_split c who w)
  kept_split still two = record {
    below = λ x h. k.below x (omega (arith, held_split x));
    once = λ x. omega (arith, held_split x, k.once x);
    every = λ x h g. omega (arith, held_split x, k.every x h g);
    ended = each_push (λ v. v.ended ≡ true → c.count ≤ c.next) (set c.workers who (Some lesser)) newcomer (each_swap (λ v. v.ended ≡ true → c.count ≤ c.next) c.workers who lesser k.ended (k.ended who w at)) (λ t. absurd (let n : ⊥ = cc in n));
    shares = each_push (λ v. 0 < v.shares) (set c.workers who (Some lesser)) newcomer (each_swap (λ v. 0 < v.shares) c.workers who lesser k.shares (omega arith)) (omega arith);
    whole = let s : total (λ v. v.shares) (after_split c who w).workers + w.shares ≡ total (λ v. v.shares) c.workers + (w.shares - 1 + 1) = split_total (λ v. v.shares) in omega (arith, k.whole);
    past = let s : total late (after_split c who w).workers + late w ≡ total late c.workers + (late lesser + 0) = split_total late in
        let z : late w ≡ 0 = late_of w false still in omega (arith, k.past);
  }

  module _ (from : ℕ) (v : Worker) (there : worker_at c.workers from ≡ Some v) (apart : who ≢ from) where
    there_after : (x : Option Worker) → worker_at (set c.workers who x) from ≡ Some v
    there_after x = at_set_else c.workers who from x (λ e. apart (sym e)) ∙ there

    join_total : (f : Worker → ℕ) → total f (after_join c who w from v).workers + (f w + f v) ≡ total f c.workers + f (merged w v)
    join_total f =
        let s : total f (set c.workers who (Some (merged w v))) + f w ≡ total f c.workers + f (merged w v) = total_swap f c.workers who w (merged w v) at in
        let p : total f (after_join c who w from v).workers + f v ≡ total f (set c.workers who (Some (merged w v))) = total_clear f (set c.workers who (Some (merged w v))) from v (there_after (Some (merged w v))) in omega arith

    held_join : (x : ℕ) → held x (after_join c who w from v).workers ≡ held x c.workers
    held_join x = let s : held x (after_join c who w from v).workers + (times x w.tickets + times x v.tickets) ≡ held x c.workers + times x (w.tickets ++ v.tickets) = join_total (λ u. times x u.tickets) in
        let a = times-append x w.tickets v.tickets in omega arith

    late_merged : late w + late v ≤ late (merged w v)
    late_merged = merge_le w.ended v.ended w.shares v.shares

    ended_merged : (a b : Bool) → w.ended ≡ a → v.ended ≡ b → (a || b) ≡ true → c.count ≤ c.next
    ended_merged true b e f t = k.ended who w at e
    ended_merged false true e f t = k.ended from v there f
    ended_merged false false e f t = absurd (let n : ⊥ = cc in n)

    pub kept_join : Kept (after_join c who w from v)
    kept_join = record {
      below = λ x h. k.below x (omega (arith, held_join x));
      once = λ x. omega (arith, held_join x, k.once x);
      every = λ x h g. omega (arith, held_join x, k.every x h g);
      ended = each_clear (λ u. u.ended ≡ true → c.count ≤ c.next) (set c.workers who (Some (merged w v))) from (each_swap (λ u. u.ended ≡ true → c.count ≤ c.next) c.workers who (merged w v) k.ended (ended_merged w.ended v.ended refl refl));
      shares = each_clear (λ u. 0 < u.shares) (set c.workers who (Some (merged w v))) from (each_swap (λ u. 0 < u.shares) c.workers who (merged w v) k.shares (let p : 0 < w.shares = k.shares who w at in omega arith));
      whole = let s : total (λ u. u.shares) (after_join c who w from v).workers + (w.shares + v.shares) ≡ total (λ u. u.shares) c.workers + (w.shares + v.shares) = join_total (λ u. u.shares) in omega (arith, k.whole);
      past = let s : total late (after_join c who w from v).workers + (late w + late v) ≡ total late c.workers + late (merged w v) = join_total late in omega (arith, k.past, late_merged);
    }

by_live : (o : Option Worker) → IsSome o → (w : Worker) × (o ≡ Some w)
by_live None e = absurd (let n : ⊥ = cc in n)
by_live (Some w) e = (w, refl)

-- the workers that a lawful event names
abbrev pub Named : Claims → Event → Type 0
Named c (Split from) = (w : Worker) × (worker_at c.workers from ≡ Some w) × (w.ended ≡ false) × (2 ≤ w.shares)
Named c (Draw who) = (w : Worker) × (worker_at c.workers who ≡ Some w)
Named c (Join into from) = ((v : Worker) × (worker_at c.workers into ≡ Some v)) × ((w : Worker) × (worker_at c.workers from ≡ Some w)) × (into ≢ from)

pub named : (c : Claims) (e : Event) → IsLawful c e → Named c e
named c (Split from) law = by_split (worker_at c.workers from) law
  where
    by_split : (o : Option Worker) → IsSomeAnd o (λ w. (w.ended ≡ false) × (2 ≤ w.shares)) → (w : Worker) × (o ≡ Some w) × (w.ended ≡ false) × (2 ≤ w.shares)
    by_split None n = absurd n
    by_split (Some w) l = (w, refl, l.0, l.1)
named c (Draw who) law = by_live (worker_at c.workers who) law
named c (Join into from) law = (by_live (worker_at c.workers into) law.0, by_live (worker_at c.workers from) law.1, law.2)

pub lawful : (c : Claims) (e : Event) → Named c e → IsLawful c e
lawful c (Split from) l = subst (λ (o : Option Worker). IsSomeAnd o (λ w. (w.ended ≡ false) × (2 ≤ w.shares))) (sym l.1) (l.2, l.3)
lawful c (Draw who) l = ap is_some l.1
lawful c (Join into from) l = (ap is_some l.0.1, ap is_some l.1.1, l.2)

-- every lawful event keeps it, and so does every run

pub kept_after : (c : Claims) (e : Event) → Named c e → Kept c → Kept (after c e)
kept_after c (Split from) l k = subst (λ (o : Option Worker). Kept (if_live o c (λ w. after_split c from w))) (sym l.1) (kept_split c from l.0 l.1 k l.2 l.3)
kept_after c (Draw who) l k = subst (λ (o : Option Worker). Kept (if_live o c (λ w. after_draw c who w))) (sym l.1) (kept_draw c who l.0 l.1 k)
kept_after c (Join into from) l k =
    subst (λ (o : Option Worker). Kept (if_live o c (λ v. if_live (worker_at c.workers from) c (λ w. after_join c into v from w)))) (sym l.0.1)
    (subst (λ (o : Option Worker). Kept (if_live o c (λ w. after_join c into l.0.0 from w))) (sym l.1.1) (kept_join c into l.0.0 l.0.1 k from l.1.0 l.1.1 l.2))

kept_run : (c : Claims) (es : List Event) → IsLawfulRun c es → Kept c → Kept (run c es)
kept_run c [] l k = k
kept_run c (e ∷ es) l k = kept_run (after c e) es l.1 (kept_after c e (named c e l.0) k)

pub kept_reached : (c : Claims) → IsReached c → Kept c
kept_reached c r = subst Kept r.reaches (kept_run (first_claims c.count) r.events r.lawful (kept_first c.count))

pub sound : (c : Claims) → Kept c → ClaimsEachOnce c × SharesTheWhole c
sound c k = (
  record { below = λ x h. (k.below x h).0; once = k.once; every = k.every; ended = k.ended },
  record {
    some = k.shares;
    whole = k.whole;
    past = let t : total late c.workers ≤ total (λ w. w.shares) c.workers = total_le late (λ w. w.shares) c.workers (λ w. late_le w.ended w.shares) in omega (arith, k.past, k.whole);
  },
)
  where
    late_le : (b : Bool) (n : ℕ) → (if b then n else 0) ≤ n
    late_le true n = omega arith
    late_le false n = omega arith

pub every_run_is_sound : EveryRunIsSound
every_run_is_sound n es law = sound (run (first_claims n) es) (kept_run (first_claims n) es law (kept_first n))

pub reached_is_sound : (c : Claims) → IsReached c → ClaimsEachOnce c × SharesTheWhole c
reached_is_sound c r = sound c (kept_reached c r)

-- one event more

same_count : (c : Claims) (e : Event) → (after c e).count ≡ c.count
same_count c (Split from) = by_one (worker_at c.workers from)
  where
    by_one : (o : Option Worker) → (if_live o c (λ w. after_split c from w)).count ≡ c.count
    by_one None = refl
    by_one (Some w) = refl
same_count c (Draw who) = by_one (worker_at c.workers who)
  where
    by_draws : (w : Worker) (a b : Bool) → (if a then c else if b then claims c.count (c.next + 1) (set c.workers who (Some (worker (w.tickets ++ c.next ∷ []) w.shares w.ended))) else claims c.count (c.next + 1) (set c.workers who (Some (worker w.tickets w.shares true)))).count ≡ c.count
    by_draws w true b = refl
    by_draws w false true = refl
    by_draws w false false = refl

    by_one : (o : Option Worker) → (if_live o c (λ w. after_draw c who w)).count ≡ c.count
    by_one None = refl
    by_one (Some w) = by_draws w w.ended (nat_lt c.next c.count)
same_count c (Join into from) = by_two (worker_at c.workers into) (worker_at c.workers from)
  where
    by_two : (o p : Option Worker) → (if_live o c (λ v. if_live p c (λ w. after_join c into v from w))).count ≡ c.count
    by_two None p = refl
    by_two (Some v) None = refl
    by_two (Some v) (Some w) = refl

run-append : (c : Claims) (es : List Event) (e : Event) → run c (es ++ e ∷ []) ≡ after (run c es) e
run-append c [] e = refl
run-append c (x ∷ xs) e = run-append (after c x) xs e

lawful-append : (c : Claims) (es : List Event) (e : Event) → IsLawfulRun c es → IsLawful (run c es) e → IsLawfulRun c (es ++ e ∷ [])
lawful-append c [] e l k = (k, tt)
lawful-append c (x ∷ xs) e l k = (l.0, lawful-append (after c x) xs e l.1 k)

reached_after : (c : Claims) (e : Event) → IsLawful c e → IsReached c → IsReached (after c e)
reached_after c e l r =
    let from = first_claims c.count in
    let runs : run from (r.events ++ e ∷ []) ≡ after c e = run-append from r.events e ∙ ap (λ (d : Claims). after d e) r.reaches in
    let law : IsLawfulRun from (r.events ++ e ∷ []) = lawful-append from r.events e r.lawful (subst (λ (d : Claims). IsLawful d e) (sym r.reaches) l) in
    record {
      events = r.events ++ e ∷ [];
      lawful = subst (λ (n : ℕ). IsLawfulRun (first_claims n) (r.events ++ e ∷ [])) (sym (same_count c e)) law;
      reaches = subst (λ (n : ℕ). run (first_claims n) (r.events ++ e ∷ []) ≡ after c e) (sym (same_count c e)) runs;
    }

-- a state that an event leads to from a reached one is reached
pub reached_by : (c d : Claims) (e : Event) → IsLawful c e → IsReached c → after c e ≡ d → IsReached d
reached_by c d e l r is = subst IsReached is (reached_after c e l r)

pub reached_first : (n : ℕ) → IsReached (first_claims n)
reached_first n = record { events = []; lawful = tt; reaches = refl }
