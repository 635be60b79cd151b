-- Lists of views, and what they show.
use Rattle.std.proofs.Common.{◌≡◌, ℕ, zero, suc, ◌+◌, ◌^◌, ◌<◌, ◌≤◌, Bool, false, List, [], ◌∷◌, ◌++◌, ⊎_elim, map, length, set, get_or, refl, sym, ap, ◌∙◌, subst, arith, ne_eqb}
use Rattle.std.specs.Prelude.{Option, Some, None, nat_eq, if◌then◌else◌}
use mathlib.Core.Option.{some, some-injective, some-ne-none}
use mathlib.Core.Logic.{dite}
use native.Mathlib.Decide.{ℕ_discrete}
use lib.ListN.{get_elem?}
use Rattle.atomic_table.specs.Table.{State}
use Rattle.atomic_table.proofs.Lists.{at_set, at_snoc}
use Rattle.heesch_claims.specs.declared.view.View.{View}
use Rattle.heesch_claims.specs.Machine.{Worker, worker_at, if_live, times, total, held, IsReached}
use Rattle.heesch_claims.specs.Views.{shown, shown_claims, worker_of, sum_views, stands, EachView, IsSpentOrLive, CountsPast, MeetsSixPoints, IsBoard}
use Rattle.heesch_claims.proofs.Sound.{kept_reached}

pub sum_set : (f : View → ℕ) (l : List View) (i : ℕ) (v w : View) → get_elem? l i ≡ some v → sum_views f (set l i w) + f v ≡ sum_views f l + f w
sum_set f [] i v w e = absurd (some-ne-none v (sym e))
sum_set f (y ∷ ys) zero v w e = let is : f y ≡ f v = ap f (some-injective y v e) in omega arith
sum_set f (y ∷ ys) (suc i) v w e = let r = sum_set f ys i v w e in omega arith

pub sum_snoc : (f : View → ℕ) (l : List View) (w : View) → sum_views f (l ++ w ∷ []) ≡ sum_views f l + f w
sum_snoc f [] w = omega arith
sum_snoc f (y ∷ ys) w = let r = sum_snoc f ys w in omega arith

pub sum_at : (f : View → ℕ) (l : List View) (i : ℕ) (v : View) → get_elem? l i ≡ some v → f v ≤ sum_views f l
sum_at f [] i v e = absurd (some-ne-none v (sym e))
sum_at f (y ∷ ys) zero v e = let is : f y ≡ f v = ap f (some-injective y v e) in omega arith
sum_at f (y ∷ ys) (suc i) v e = let r = sum_at f ys i v e in omega arith

pub each_set : (P : View → Type 0) (l : List View) (i : ℕ) (w : View) → EachView P l → P w → EachView P (set l i w)
each_set P l i w h p j v e = ⊎_elim (λ t. subst P t.1 p) (λ t. h j v t.1) (at_set l i j w v e)

pub each_snoc : (P : View → Type 0) (l : List View) (w : View) → EachView P l → P w → EachView P (l ++ w ∷ [])
each_snoc P l w h p j v e = ⊎_elim (λ t. h j v t) (λ t. subst P t p) (at_snoc l w v j e)

pub shown_at : (l : List View) (i : ℕ) (v : View) → get_elem? l i ≡ some v → worker_at (map shown l) i ≡ shown v
shown_at [] i v e = absurd (some-ne-none v (sym e))
shown_at (y ∷ ys) zero v e = ap shown (some-injective y v e)
shown_at (y ∷ ys) (suc i) v e = shown_at ys i v e

pub shown_live : (v : View) → 0 < v.shares → shown v ≡ Some (worker_of v)
shown_live v h = ap (λ (b : Bool). if b then None else Some (worker_of v)) (ne_eqb v.shares 0 (λ e. omega arith))

pub shown_spent : (v : View) → v.shares ≡ 0 → shown v ≡ None
shown_spent v z = ap (λ (n : ℕ). if nat_eq n 0 then None else Some (worker_of v)) z

-- what the views add up to is what the live workers do, where a spent view counts for nothing
pub sum_is : (f : Worker → ℕ) (g : View → ℕ) (l : List View) → EachView (λ v. g v ≡ if_live (shown v) 0 f) l → sum_views g l ≡ total f (map shown l)
sum_is f g [] h = refl
sum_is f g (y ∷ ys) h = let a = h 0 y refl in let r = sum_is f g ys (λ i v e. h (suc i) v e) in omega arith

counts_alike : (f : Worker → ℕ) (g : View → ℕ) (v : View) → g v ≡ f (worker_of v) → (v.shares ≡ 0 → g v ≡ 0) → g v ≡ if_live (shown v) 0 f
counts_alike f g v live spent = dite (ℕ_discrete v.shares 0)
    (λ z. spent z ∙ sym (ap (λ (o : Option Worker). if_live o 0 f) (shown_spent v z)))
    (λ n. live ∙ sym (ap (λ (o : Option Worker). if_live o 0 f) (shown_live v (omega arith))))

pub stands_is : (x : ℕ) (l : List View) → EachView IsSpentOrLive l → stands x l ≡ held x (map shown l)
stands_is x l h = sum_is (λ w. times x w.tickets) (λ v. times x v.tickets) l
    (λ i v e. counts_alike (λ w. times x w.tickets) (λ u. times x u.tickets) v refl (λ z. ap (λ (u : View). times x u.tickets) (h i v e z)))

pub shares_are : (l : List View) → sum_views (λ v. v.shares) l ≡ total (λ w. w.shares) (map shown l)
shares_are l = sum_is (λ w. w.shares) (λ v. v.shares) l (λ i v e. counts_alike (λ w. w.shares) (λ u. u.shares) v refl (λ z. z))

-- a reached state, with views that are spent or live and count their draws past the end, meets the points
pub points_of : (n m : ℕ) (l : List View) → IsReached (shown_claims n m l) → EachView IsSpentOrLive l → EachView CountsPast l → m ≤ n + sum_views (λ v. v.past) l → MeetsSixPoints n m l
points_of n m l reached spent counted past =
    let k = kept_reached (shown_claims n m l) reached in
    record {
      below = λ i v e x h. let is = stands_is x l spent in let among : times x v.tickets ≤ stands x l = sum_at (λ u. times x u.tickets) l i v e in let b = k.below x (omega arith) in (b.1, b.0);
      once = λ x. let is = stands_is x l spent in let b = k.once x in omega arith;
      every = λ x h g. let is = stands_is x l spent in let b : held x (map shown l) ≡ 1 = k.every x g h in omega arith;
      ended = λ i v e t. dite (ℕ_discrete v.shares 0) (λ z. absurd (let s : v.ended ≡ false = ap (λ (u : View). u.ended) (spent i v e z) in let n : ⊥ = cc in n))
          (λ some. k.ended i (worker_of v) (shown_at l i v e ∙ shown_live v (omega arith)) t);
      shares = (spent, shares_are l ∙ k.whole);
      past = (counted, past);
    }

pub board_of : (n m : ℕ) (s : State (Unit {0}) View) → length s.words ≡ 1 → get_or s.words 0 0 ≡ m → n < 2 ^ 32 → EachView (λ v. 0 < v.shares → v.count ≡ n) s.views
    → IsReached (shown_claims n m s.views) → EachView IsSpentOrLive s.views → EachView CountsPast s.views → m ≤ n + sum_views (λ v. v.past) s.views → IsBoard n s
board_of n m s wide word small same reached spent counted past = record {
  one_word = wide;
  small = small;
  same_count = same;
  reached = subst (λ (k : ℕ). IsReached (shown_claims n k s.views)) (sym word) reached;
  points = subst (λ (k : ℕ). MeetsSixPoints n k s.views) (sym word) (points_of n m s.views reached spent counted past);
}

pub each_none : (P : View → Type 0) → EachView P []
each_none P i v e = absurd (some-ne-none v (sym e))

pub set_there : (l : List View) (i : ℕ) (v w : View) → get_elem? l i ≡ some v → get_elem? (set l i w) i ≡ some w
set_there [] i v w e = absurd (some-ne-none v (sym e))
set_there (y ∷ ys) zero v w e = refl
set_there (y ∷ ys) (suc i) v w e = set_there ys i v w e
