-- The places of a list that a share of it has.
use Rattle.std.specs.Prelude.{◌≡◌, ℕ, ◌+◌, ◌-◌, ◌*◌, ◌/◌, ◌<◌, ◌≤◌, List, length, map, take, drop}
use Rattle.std.specs.List.{flat_map, range_with_len}
use Rattle.heesch_grid.specs.declared.Cell.{Cell}
use Rattle.heesch_parts.specs.declared.places.Span.{Span}

-- where share i of k of a list ends, and the next one begins: i/k of its length, rounded down
abbrev pub bound : (length i k : ℕ) → ℕ
bound length i k = i * length / k

-- share i of k has the places between two such bounds
abbrev pub span_of : (length i k : ℕ) → Span
span_of length i k = record { from = bound length (i - 1) k; until = bound length i k }

-- share i is one of k, and has this place
pub record HasPlace (length k place i : ℕ) : Type 0 where
  pub first : 1 ≤ i
  pub last : i ≤ k
  pub from : (span_of length i k).from ≤ place
  pub until : place < (span_of length i k).until

-- share 1 begins at place 0, each other share where the one before it ends, and share k ends at the length
pub record FollowEachOther (length k : ℕ) : Type 0 where
  pub begins : (span_of length 1 k).from ≡ 0
  pub follows : (i : ℕ) → 1 ≤ i → i < k → (span_of length (i + 1) k).from ≡ (span_of length i k).until
  pub ends : (span_of length k k).until ≡ length

-- the spans of shares 1 to k follow each other, from 0 to the length
abbrev pub SpansFollow : Type 0
SpansFollow = (length k : ℕ) → 1 ≤ k → FollowEachOther length k

-- each place of the list is in the span of one share, and in no other's
abbrev pub SpansCoverOnce : Type 0
SpansCoverOnce = (length k place : ℕ) → 1 ≤ k → place < length → (i : ℕ) × HasPlace length k place i × ((j : ℕ) → HasPlace length k place j → j ≡ i)

-- and no span has a place beyond the list
abbrev pub SpansStayWithin : Type 0
SpansStayWithin = (length k place i : ℕ) → HasPlace length k place i → place < length

-- ---- a list and its shares

-- the items of a list at the places of a span
abbrev pub items_at : {A : Type 0} → Span → List A → List A
items_at span items = take (span.until - span.from) (drop span.from items)

-- shares 1 to k of a list
abbrev pub shares_of_list : {A : Type 0} → ℕ → List A → List (List A)
shares_of_list k items = map (λ i. items_at (span_of (length items) i k) items) (range_with_len 1 k)

-- the shares of a list of shapes, one behind the other, are the list
abbrev pub SharesAreTheList : Type 0
SharesAreTheList = (k : ℕ) (shapes : List (List Cell)) → 1 ≤ k → flat_map (λ (share : List (List Cell)). share) (shares_of_list k shapes) ≡ shapes
