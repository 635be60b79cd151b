-- The machine in which workers claim numbers: its states, its events, and what each tells.
use Rattle.std.specs.Prelude.{◌≡◌, ◌≢◌, ℕ, ◌+◌, ◌-◌, ◌<◌, ◌≤◌, Bool, true, false, ◌||◌, nat_lt, nat_eq, if◌then◌else◌, List, [], ◌∷◌, ◌++◌, length, set, slice_index_or, Option, Some, None, IsSome, IsSomeAnd}
use Rattle.heesch_claims.specs.declared.event.Event.{Event}
use Rattle.heesch_claims.specs.declared.event.Event.TheVariants.{Split, Draw, Join}
use Rattle.heesch_claims.specs.declared.event.Told.{Told}
use Rattle.heesch_claims.specs.declared.event.Told.TheVariants.{Made, Ticket, End, Joined}

-- a live worker: the numbers that it claimed, its shares of the whole, and whether it was told that no number is left
pub record Worker : Type 0 where
  pub tickets : List ℕ
  pub shares : ℕ
  pub ended : Bool

abbrev pub worker : List ℕ → ℕ → Bool → Worker
worker tickets shares ended = record { tickets = tickets; shares = shares; ended = ended }

-- The numbers below count are to be claimed, and next is the next one. Worker i is the i-th that was made, and its place is empty once it was joined away
pub record Claims : Type 0 where
  pub count : ℕ
  pub next : ℕ
  pub workers : List (Option Worker)

abbrev pub claims : ℕ → ℕ → List (Option Worker) → Claims
claims count next workers = record { count = count; next = next; workers = workers }

-- as many shares as there are
abbrev pub ALL_SHARES : ℕ
ALL_SHARES = 64

-- at first there is one worker, with all shares
abbrev pub first_claims : ℕ → Claims
first_claims count = claims count 0 (Some (worker [] ALL_SHARES false) ∷ [])

-- the worker of this number, if it was made and not joined away
abbrev pub worker_at : List (Option Worker) → ℕ → Option Worker
worker_at workers who = slice_index_or workers who None

-- What each event does, where the workers that it names are live

abbrev pub after_split : Claims → ℕ → Worker → Claims
after_split c from w =
    claims c.count c.next (set c.workers from (Some (worker w.tickets (w.shares - 1) w.ended)) ++ Some (worker [] 1 false) ∷ [])

abbrev pub after_draw : Claims → ℕ → Worker → Claims
after_draw c who w =
    if w.ended then c
    else if nat_lt c.next c.count
    then claims c.count (c.next + 1) (set c.workers who (Some (worker (w.tickets ++ c.next ∷ []) w.shares w.ended)))
    else claims c.count (c.next + 1) (set c.workers who (Some (worker w.tickets w.shares true)))

abbrev pub told_by_draw : Claims → Worker → Told
told_by_draw c w = if w.ended then End else if nat_lt c.next c.count then Ticket c.next else End

abbrev pub merged : Worker → Worker → Worker
merged v w = worker (v.tickets ++ w.tickets) (v.shares + w.shares) (v.ended || w.ended)

abbrev pub after_join : Claims → ℕ → Worker → ℕ → Worker → Claims
after_join c into v from w = claims c.count c.next (set (set c.workers into (Some (merged v w))) from None)

-- f of the worker, if there is one
abbrev pub if_live : {A : Type 0} → Option Worker → A → (Worker → A) → A
if_live None a f = a
if_live (Some w) a f = f w

abbrev pub after : Claims → Event → Claims
after c (Split from) = if_live (worker_at c.workers from) c (λ w. after_split c from w)
after c (Draw who) = if_live (worker_at c.workers who) c (λ w. after_draw c who w)
after c (Join into from) = if_live (worker_at c.workers into) c (λ v. if_live (worker_at c.workers from) c (λ w. after_join c into v from w))

abbrev pub told : Claims → Event → Told
told c (Split from) = Made (length c.workers)
told c (Draw who) = if_live (worker_at c.workers who) End (λ w. told_by_draw c w)
told c (Join into from) = Joined

-- An event is lawful where the workers that it names are live. A worker that splits isn't ended and has at least 2 shares, and the two that join differ
abbrev pub IsLawful : Claims → Event → Type 0
IsLawful c (Split from) = IsSomeAnd (worker_at c.workers from) (λ w. (w.ended ≡ false) × (2 ≤ w.shares))
IsLawful c (Draw who) = IsSome (worker_at c.workers who)
IsLawful c (Join into from) = IsSome (worker_at c.workers into) × IsSome (worker_at c.workers from) × (into ≢ from)

-- A run: events in order, each lawful where it comes
abbrev pub run : Claims → List Event → Claims
run c [] = c
run c (e ∷ es) = run (after c e) es

abbrev pub IsLawfulRun : Claims → List Event → Type 0
IsLawfulRun c [] = Unit {0}
IsLawfulRun c (e ∷ es) = IsLawful c e × IsLawfulRun (after c e) es

-- some lawful run leads to the state from the first one
pub record IsReached (c : Claims) : Type 0 where
  pub events : List Event
  pub lawful : IsLawfulRun (first_claims c.count) events
  pub reaches : run (first_claims c.count) events ≡ c

-- The facts over every lawful run

-- how often x stands in a list
abbrev pub times : ℕ → List ℕ → ℕ
times x [] = 0
times x (y ∷ ys) = (if nat_eq y x then 1 else 0) + times x ys

-- f of each live worker, added up
abbrev pub total : (Worker → ℕ) → List (Option Worker) → ℕ
total f [] = 0
total f (x ∷ xs) = if_live x 0 f + total f xs

-- how often x stands with live workers
abbrev pub held : ℕ → List (Option Worker) → ℕ
held x workers = total (λ w. times x w.tickets) workers

abbrev pub EachLive : (Worker → Type 0) → List (Option Worker) → Type 0
EachLive P workers = (who : ℕ) (w : Worker) → worker_at workers who ≡ Some w → P w

-- The live workers' numbers are distinct and below count, and every number below count and below next stands with one of them. Once a worker is ended, next is at least count
pub record ClaimsEachOnce (c : Claims) : Type 0 where
  pub below : (x : ℕ) → 0 < held x c.workers → x < c.count
  pub once : (x : ℕ) → held x c.workers ≤ 1
  pub every : (x : ℕ) → x < c.count → x < c.next → held x c.workers ≡ 1
  pub ended : EachLive (λ w. w.ended ≡ true → c.count ≤ c.next) c.workers

-- Each live worker has a share, and all of them sum to the whole. So next is at most count plus the whole
pub record SharesTheWhole (c : Claims) : Type 0 where
  pub some : EachLive (λ w. 0 < w.shares) c.workers
  pub whole : total (λ w. w.shares) c.workers ≡ ALL_SHARES
  pub past : c.next ≤ c.count + ALL_SHARES

-- over every list of lawful events
abbrev pub EveryRunIsSound : Type 0
EveryRunIsSound =
    (count : ℕ) (events : List Event) → IsLawfulRun (first_claims count) events
    → ClaimsEachOnce (run (first_claims count) events) × SharesTheWhole (run (first_claims count) events)

-- as many workers as may ever be made
abbrev pub MOST_WORKERS : ℕ
MOST_WORKERS = 64

-- a split finds room for one more worker
abbrev pub HasRoom : Claims → Event → Type 0
HasRoom c (Split from) = length c.workers < MOST_WORKERS
HasRoom c _ = Unit {0}
