-- What a board's word and the views of its seats show: a state of the machine that meets the six points.
use Rattle.std.specs.Prelude.{◌≡◌, ◌≢◌, ℕ, ◌+◌, ◌-◌, ◌^◌, ◌<◌, ◌≤◌, Bool, true, false, ◌||◌, nat_lt, nat_eq, if◌then◌else◌, List, [], ◌∷◌, ◌++◌, map, length, set, slice_index, Option, Some, None, ◌%◌}
use mathlib.Core.Option.{some}
use lib.ListN.{get_elem?}
use Rattle.atomic_table.specs.Table.{State, Me, Step, opening, stepped, keeps}
use Rattle.heesch_claims.specs.declared.view.View.{View}
use Rattle.heesch_claims.specs.declared.event.Event.{Event}
use Rattle.heesch_claims.specs.declared.event.Event.TheVariants.{Split, Draw, Join}
use Rattle.heesch_claims.specs.declared.event.Told.TheVariants.{Ticket, End}
use Rattle.heesch_claims.specs.Machine.{Worker, worker, Claims, claims, first_claims, worker_at, after, told, IsLawful, IsReached, times, ALL_SHARES}

abbrev pub view : ℕ → List ℕ → ℕ → Bool → ℕ → View
view count tickets shares ended past = record { count = count; tickets = tickets; shares = shares; ended = ended; past = past }

abbrev pub first_view : ℕ → View
first_view count = view count [] ALL_SHARES false 0

-- what a join leaves of the seat that was joined away
abbrev pub spent_view : View
spent_view = view 0 [] 0 false 0

-- How views change

abbrev pub lesser_view : View → View
lesser_view v = view v.count v.tickets (v.shares - 1) v.ended v.past

abbrev pub newcomer_view : View → View
newcomer_view v = view v.count [] 1 false 0

abbrev pub joined_view : View → View → View
joined_view v w = view v.count (v.tickets ++ w.tickets) (v.shares + w.shares) (v.ended || w.ended) (v.past + w.past)

-- the view of a seat that isn't ended, after its step found this word
abbrev pub drawn_view : View → ℕ → View
drawn_view v found =
    if nat_lt found v.count then view v.count (v.tickets ++ found ∷ []) v.shares v.ended v.past
    else view v.count v.tickets v.shares true (v.past + 1)

-- What the views show

-- each view but a spent one is a live worker
abbrev pub shown : View → Option Worker
shown v = if nat_eq v.shares 0 then None else Some (worker v.tickets v.shares v.ended)

abbrev pub shown_claims : ℕ → ℕ → List View → Claims
shown_claims count word views = claims count word (map shown views)

-- f of each view, added up
abbrev pub sum_views : (View → ℕ) → List View → ℕ
sum_views f [] = 0
sum_views f (v ∷ vs) = f v + sum_views f vs

-- how often x stands in the views
abbrev pub stands : ℕ → List View → ℕ
stands x views = sum_views (λ v. times x v.tickets) views

abbrev pub EachView : (View → Type 0) → List View → Type 0
EachView P views = (seat : ℕ) (v : View) → get_elem? views seat ≡ some v → P v

-- each view but a spent one has at least one share
abbrev pub IsSpentOrLive : View → Type 0
IsSpentOrLive v = v.shares ≡ 0 → v ≡ spent_view

-- draws past the end are counted up to the shares, and by an ended view alone
abbrev pub CountsPast : View → Type 0
CountsPast v = (v.past ≤ v.shares) × (v.ended ≡ false → v.past ≡ 0)

-- The six points: what holds of the word and the views of a board between any two steps
pub record MeetsSixPoints (count word : ℕ) (views : List View) : Type 0 where
  -- 1: every ticket of a view is below the word and below count
  pub below : EachView (λ v. (x : ℕ) → 0 < times x v.tickets → (x < word) × (x < count)) views
  -- 2: no ticket stands twice, in one view or in two
  pub once : (x : ℕ) → stands x views ≤ 1
  -- 3: every number below the word and below count stands in a view
  pub every : (x : ℕ) → x < word → x < count → 0 < stands x views
  -- 4: where a view is ended, the word is at least count
  pub ended : EachView (λ v. v.ended ≡ true → count ≤ word) views
  -- 5: each view but a spent one has a share, and all shares sum to the whole
  pub shares : EachView IsSpentOrLive views × (sum_views (λ v. v.shares) views ≡ ALL_SHARES)
  -- 6: each view counts its draws past the end, and the word is at most count plus their sum
  pub past : EachView CountsPast views × (word ≤ count + sum_views (λ v. v.past) views)

-- a table with no slots, whose seats have these views
abbrev pub TableState : Type 0
TableState = State (Unit {0}) View

abbrev pub word_of : TableState → ℕ
word_of s = slice_index s.words 0

-- The rule of a board's table: the one word and the views show a state that a lawful run of the machine reaches, and meet the six points
pub record IsBoard (count : ℕ) (s : TableState) : Type 0 where
  pub one_word : length s.words ≡ 1
  pub small : count < 2 ^ 32
  pub same_count : EachView (λ v. 0 < v.shares → v.count ≡ count) s.views
  pub reached : IsReached (shown_claims count (word_of s) s.views)
  pub points : MeetsSixPoints count (word_of s) s.views

-- What a draw tells

-- some lawful run leads to a state in which one worker is as `before`, and whose draw finds this number and leaves the worker as `later`
pub record DrawsFrom (count found : ℕ) (before later : Worker) : Type 0 where
  pub state : Claims
  pub who : ℕ
  pub reached : IsReached state
  pub count_is : state.count ≡ count
  pub found_is : state.next ≡ found
  pub before_is : worker_at state.workers who ≡ Some before
  pub later_is : worker_at (after state (Draw who)).workers who ≡ Some later

abbrev pub worker_of : View → Worker
worker_of v = worker v.tickets v.shares v.ended

abbrev pub drawn : Step (Unit {0}) → Me (Unit {0}) View → ℕ → Me (Unit {0}) View → Type 0
drawn st m found m' =
    (m'.1 ≡ m.1) × (m'.0 ≡ drawn_view m.0 found) × ((x : ℕ) → 0 < times x m.0.tickets → x < found)
    × DrawsFrom m.0.count found (worker_of m.0) (worker_of m'.0)

-- a look at the word tells a seat that it has no more than all shares
abbrev pub looked : Step (Unit {0}) → Me (Unit {0}) View → ℕ → Me (Unit {0}) View → Type 0
looked st m found m' = (m'.1 ≡ m.1) × (m'.0 ≡ m.0) × (m.0.shares ≤ ALL_SHARES)

-- The steps of a board

abbrev pub begun : ℕ → TableState
begun count = opening (0 ∷ []) [] (first_view count)

-- seat `id`, whose view was v, has given a share to a new seat
abbrev pub split_at : TableState → ℕ → View → TableState
split_at s id v = record { words = s.words; homes = s.homes; views = set s.views id (lesser_view v) ++ newcomer_view v ∷ [] }

-- seat `id`, whose view was v, has added one to the word
abbrev pub drawn_at : TableState → ℕ → View → TableState
drawn_at s id v = stepped s 0 ((word_of s + 1) % 2 ^ 64) id [] (drawn_view v (word_of s)) keeps

-- seat `id`, whose view was v, has taken in the seat `other`, whose view was w
abbrev pub joined_at : TableState → ℕ → View → ℕ → View → TableState
joined_at s id v other w = record { words = s.words; homes = s.homes; views = set (set s.views id (joined_view v w)) other spent_view }

abbrev pub shown_by : ℕ → TableState → Claims
shown_by count s = shown_claims count (word_of s) s.views

-- The board t keeps the rule, and shows the state to which this lawful event takes the machine from what s shows
pub record MovesBy (count : ℕ) (s : TableState) (event : Event) (t : TableState) : Type 0 where
  pub lawful : IsLawful (shown_by count s) event
  pub leads : after (shown_by count s) event ≡ shown_by count t
  pub keeps_rule : IsBoard count t

-- A board begins as the machine does, and each of its steps, from whatever state it finds, is the event of the machine for its own seats
pub record BoardIsMachine : Type 0 where
  pub begins : (n : ℕ) → n < 2 ^ 32 → IsBoard n (begun n) × (shown_by n (begun n) ≡ first_claims n)
  pub splits : (n id : ℕ) (v : View) (s : TableState) → IsBoard n s → get_elem? s.views id ≡ some v → v.ended ≡ false → 2 ≤ v.shares
      → MovesBy n s (Split id) (split_at s id v)
  pub draws : (n id : ℕ) (v : View) (s : TableState) → IsBoard n s → get_elem? s.views id ≡ some v → 0 < v.shares → v.ended ≡ false
      → MovesBy n s (Draw id) (drawn_at s id v) × (told (shown_by n s) (Draw id) ≡ (if nat_lt (word_of s) n then Ticket (word_of s) else End))
  pub joins : (n id other : ℕ) (v w : View) (s : TableState) → IsBoard n s → get_elem? s.views id ≡ some v → get_elem? s.views other ≡ some w → id ≢ other → 0 < v.shares → 0 < w.shares
      → MovesBy n s (Join id other) (joined_at s id v other w)
  -- there are as many views, spent ones included, as workers made
  pub made : (n : ℕ) (s : TableState) → length (shown_by n s).workers ≡ length s.views
  -- the word is at most count plus all shares, whatever seats were dropped
  pub bounded : (n : ℕ) (s : TableState) → IsBoard n s → word_of s ≤ n + ALL_SHARES
