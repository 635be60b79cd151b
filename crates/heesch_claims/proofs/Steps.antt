-- What the code of a step leaves is what the machine says.
use Rattle.std.proofs.Common.{◌≡◌, ◌≢◌, ℕ, zero, suc, ◌+◌, ◌-◌, ◌<◌, ◌^◌, Bool, true, false, List, [], ◌∷◌, ◌++◌, length, set, get_or, refl, sym, ap, ◌∙◌, subst, arith}
use Rattle.std.specs.Prelude.{Option, Some, None, nat_lt, if◌then◌else◌, Result, IfOk, OnErr, Ok, Err}
use Rattle.heesch_io.specs.declared.NoMemory.{NoMemory}
use Rattle.heesch_claims.specs.declared.event.Event.{Event}
use Rattle.heesch_claims.specs.declared.event.Event.TheVariants.{Split, Draw, Join}
use Rattle.heesch_claims.specs.declared.event.Told.{Told}
use Rattle.heesch_claims.specs.Machine.{Worker, worker, Claims, claims, worker_at, after_split, after_draw, after_join, merged, if_live, after, told, IsLawful, IsReached, total, ClaimsEachOnce, SharesTheWhole}
use Rattle.heesch_claims.proofs.Sound.{Named, named, at_set_else, total_clear, kept_reached, reached_by, reached_is_sound}

abbrev Places : Type 0
Places = List (Option Worker)

module _ {A : Type 0} where
  pub set_comm : (l : List A) (i j : ℕ) (a b : A) → i ≢ j → set (set l i a) j b ≡ set (set l j b) i a
  set_comm [] i j a b n = refl
  set_comm (x ∷ xs) zero zero a b n = absurd (n refl)
  set_comm (x ∷ xs) zero (suc j) a b n = refl
  set_comm (x ∷ xs) (suc i) zero a b n = refl
  set_comm (x ∷ xs) (suc i) (suc j) a b n = ap (λ (l : List A). x ∷ l) (set_comm xs i j a b (λ e. n (ap suc e)))

  set_twice : (l : List A) (i : ℕ) (a b : A) → set (set l i a) i b ≡ set l i b
  set_twice [] i a b = refl
  set_twice (x ∷ xs) zero a b = refl
  set_twice (x ∷ xs) (suc i) a b = ap (λ (l : List A). x ∷ l) (set_twice xs i a b)

  set_same : (l : List A) (i : ℕ) (a : A) → a ≡ get_or l i a → set l i a ≡ l
  set_same [] i a e = refl
  set_same (x ∷ xs) zero a e = ap (λ (y : A). y ∷ xs) e
  set_same (x ∷ xs) (suc i) a e = ap (λ (l : List A). x ∷ l) (set_same xs i a e)

  set_before : (l : List A) (i : ℕ) (a z : A) → i < length l → set (l ++ z ∷ []) i a ≡ set l i a ++ z ∷ []
  set_before [] i a z h = absurd (omega arith)
  set_before (x ∷ xs) zero a z h = refl
  set_before (x ∷ xs) (suc i) a z h = ap (λ (l : List A). x ∷ l) (set_before xs i a z (omega arith))

-- a place that reads as a worker, whatever stands past the end, is that worker's
read_at : (l : Places) (i : ℕ) (v w : Worker) → worker_at l i ≡ Some v → Some w ≡ get_or l i (Some w) → w ≡ v
read_at [] i v w e f = absurd (let n : ⊥ = cc in n)
read_at (y ∷ ys) zero v w e f = let g : Some w ≡ Some v = f ∙ e in cc
read_at (y ∷ ys) (suc i) v w e f = read_at ys i v w e f

live_below : (l : Places) (i : ℕ) (v : Worker) → worker_at l i ≡ Some v → i < length l
live_below [] i v e = absurd (let n : ⊥ = cc in n)
live_below (y ∷ ys) zero v e = omega arith
live_below (y ∷ ys) (suc i) v e = let r = live_below ys i v e in omega arith

at_before : (l : Places) (i : ℕ) (v : Worker) (z : Option Worker) → worker_at l i ≡ Some v → worker_at (l ++ z ∷ []) i ≡ Some v
at_before [] i v z e = absurd (let n : ⊥ = cc in n)
at_before (y ∷ ys) zero v z e = e
at_before (y ∷ ys) (suc i) v z e = at_before ys i v z e

pub split_is : (c : Claims) (from : ℕ) (w : Worker) → worker_at c.workers from ≡ Some w → after c (Split from) ≡ after_split c from w
split_is c from w e = ap (λ (o : Option Worker). if_live o c (λ u. after_split c from u)) e

pub join_is : (c : Claims) (into from : ℕ) (v w : Worker) → worker_at c.workers into ≡ Some v → worker_at c.workers from ≡ Some w → after c (Join into from) ≡ after_join c into v from w
join_is c into from v w e f =
    ap (λ (o : Option Worker). if_live o c (λ u. if_live (worker_at c.workers from) c (λ t. after_join c into u from t))) e ∙ ap (λ (o : Option Worker). if_live o c (λ t. after_join c into v from t)) f

-- the newcomer is pushed first, and then the splitting worker gives a share
pub split_leads : (c : Claims) (from : ℕ) (l : Places) (w n : Worker) → IsLawful c (Split from) → l ≡ c.workers ++ Some n ∷ [] → n ≡ worker [] 1 false → Some w ≡ get_or l from (Some w)
    → after c (Split from) ≡ claims c.count c.next (set l from (Some (worker w.tickets (w.shares - 1) w.ended)))
split_leads c from l w n law is new read =
    let giver = named c (Split from) law in
    let v = giver.0 in
    let here : worker_at l from ≡ Some v = ap (λ (k : Places). worker_at k from) is ∙ at_before c.workers from v (Some n) giver.1 in
    let same : w ≡ v = read_at l from v w here read in
    let given : Option Worker = Some (worker w.tickets (w.shares - 1) w.ended) in
    let moved : set l from given ≡ set c.workers from given ++ Some n ∷ [] = ap (λ (k : Places). set k from given) is ∙ set_before c.workers from given (Some n) (live_below c.workers from v giver.1) in
    split_is c from v giver.1
    ∙ (ap (λ (u : Worker). after_split c from u) (sym same)
    ∙ ap (claims c.count c.next) (ap (λ (u : Worker). set c.workers from given ++ Some u ∷ []) (sym new) ∙ sym moved))

module _ (c : Claims) (into from : ℕ) (t g : Worker) (law : IsLawful c (Join into from)) (gives : Some g ≡ get_or c.workers from (Some g)) (takes : Some t ≡ get_or (set c.workers from None) into (Some t)) where
  abbrev pair : Named c (Join into from)
  pair = named c (Join into from) law

  giver_is : g ≡ pair.1.0
  giver_is = read_at c.workers from pair.1.0 g pair.1.1 gives

  taker_is : t ≡ pair.0.0
  taker_is = read_at (set c.workers from None) into pair.0.0 t (at_set_else c.workers from into None pair.2 ∙ pair.0.1) takes

  -- the giver is taken out first, and then the taker takes in what it had
  pub join_leads : (u : Worker) → u ≡ merged t g → after c (Join into from) ≡ claims c.count c.next (set (set c.workers from None) into (Some u))
  join_leads u is =
      let both : merged pair.0.0 pair.1.0 ≡ u = ap (λ (v : Worker). merged v pair.1.0) (sym taker_is) ∙ (ap (λ (v : Worker). merged t v) (sym giver_is) ∙ sym is) in
      join_is c into from pair.0.0 pair.1.0 pair.0.1 pair.1.1
      ∙ (ap (λ (v : Worker). claims c.count c.next (set (set c.workers into (Some v)) from None)) both
      ∙ ap (claims c.count c.next) (set_comm c.workers into from (Some u) None pair.2))

  -- both are put back as they were
  pub join_undone : set (set (set c.workers from None) into (Some t)) from (Some g) ≡ c.workers
  join_undone =
      ap (λ (l : Places). set l from (Some g)) (set_same (set c.workers from None) into (Some t) takes)
      ∙ (set_twice c.workers from None (Some g) ∙ set_same c.workers from (Some g) gives)

  -- the two have no more shares than there are
  pub join_fits : IsReached c → t.shares + g.shares < 2 ^ 32
  join_fits r =
      let k = kept_reached c r in
      let a : worker_at (set c.workers from None) into ≡ Some pair.0.0 = at_set_else c.workers from into None pair.2 ∙ pair.0.1 in
      let s : total (λ w. w.shares) (set c.workers from None) + pair.1.0.shares ≡ total (λ w. w.shares) c.workers = total_clear (λ w. w.shares) c.workers from pair.1.0 pair.1.1 in
      let p : total (λ w. w.shares) (set (set c.workers from None) into None) + pair.0.0.shares ≡ total (λ w. w.shares) (set c.workers from None) = total_clear (λ w. w.shares) (set c.workers from None) into pair.0.0 a in
      let x : t.shares ≡ pair.0.0.shares = ap (λ (w : Worker). w.shares) taker_is in
      let y : g.shares ≡ pair.1.0.shares = ap (λ (w : Worker). w.shares) giver_is in
      let whole = k.whole in omega arith

-- a step leaves a sound state, also where it was refused
pub sound_step : (c d : Claims) (e : Event) (r : Result Told NoMemory) → IsLawful c e → IsReached c → IfOk r (λ t. (d ≡ after c e) × (t ≡ told c e)) → OnErr r (d ≡ c) → ClaimsEachOnce d × SharesTheWhole d
sound_step c d e (Ok t) law r ok err = reached_is_sound d (reached_by c d e law r (sym ok.0))
sound_step c d e (Err t) law r ok err = reached_is_sound d (subst IsReached (sym err) r)

pub draw_is : (c : Claims) (who : ℕ) (w : Worker) → worker_at c.workers who ≡ Some w → after c (Draw who) ≡ after_draw c who w
draw_is c who w e = ap (λ (o : Option Worker). if_live o c (λ u. after_draw c who u)) e

pub took_is : (c : Claims) (who : ℕ) (w : Worker) → w.ended ≡ false → nat_lt c.next c.count ≡ true → after_draw c who w ≡ claims c.count (c.next + 1) (set c.workers who (Some (worker (w.tickets ++ c.next ∷ []) w.shares w.ended)))
took_is c who w still room =
    let x : Claims = claims c.count (c.next + 1) (set c.workers who (Some (worker (w.tickets ++ c.next ∷ []) w.shares w.ended))) in
    let y : Claims = claims c.count (c.next + 1) (set c.workers who (Some (worker w.tickets w.shares true))) in
    ap (λ (b : Bool). if b then c else if nat_lt c.next c.count then x else y) still ∙ ap (λ (b : Bool). if b then x else y) room

pub stopped_is : (c : Claims) (who : ℕ) (w : Worker) → w.ended ≡ false → nat_lt c.next c.count ≡ false → after_draw c who w ≡ claims c.count (c.next + 1) (set c.workers who (Some (worker w.tickets w.shares true)))
stopped_is c who w still full =
    let x : Claims = claims c.count (c.next + 1) (set c.workers who (Some (worker (w.tickets ++ c.next ∷ []) w.shares w.ended))) in
    let y : Claims = claims c.count (c.next + 1) (set c.workers who (Some (worker w.tickets w.shares true))) in
    ap (λ (b : Bool). if b then c else if nat_lt c.next c.count then x else y) still ∙ ap (λ (b : Bool). if b then x else y) full
