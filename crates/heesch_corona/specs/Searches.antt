-- What the searches over the numbered tiles look for. Numbers count from 1 here, and the shape is 1; a level has the tiles from one end to the next.
use Rattle.std.specs.Prelude.{◌≡◌, ℕ, ◌-◌, ◌<◌, ◌≤◌, Bool, true, false, not, ◌&&◌, Option, Some, None, min, List, length, take, slice_index, MatchOption}
use Rattle.std.specs.List.{list_any}
use Rattle.heesch_grid.specs.declared.Cell.{Cell}
use Rattle.heesch_grid.specs.Cells.{cell_before, has, meet, set_of}
use Rattle.heesch_grid.specs.Geometry.{Geometry}
use Rattle.heesch_grid.specs.Corona.{cells_of}
use Rattle.heesch_grid.specs.Hole.{IsHoleFree, IsGreatestHole}

-- the lesser number, or the one that is there
abbrev pub lesser_of : Option ℕ → Option ℕ → Option ℕ
lesser_of (Some m) (Some n) = Some (min m n)
lesser_of (Some m) None = Some m
lesser_of None n = n

-- the least number above this one whose set meets the cells
abbrev pub IsNextMeeting : List (List Cell) → List Cell → ℕ → Option ℕ → Type 0
IsNextMeeting sets cells number next =
    MatchOption next ((m : ℕ) → number < m → m ≤ length sets → meet cells (set_of sets m) ≡ false) (λ n. (number < n) × (n ≤ length sets) × (meet cells (set_of sets n) ≡ true) × ((m : ℕ) → number < m → m < n → meet cells (set_of sets m) ≡ false))

-- the first pair of numbers whose sets meet
pub record IsFirstMeeting (sets : List (List Cell)) (pair : ℕ × ℕ) : Type 0 where
  pub from : 1 ≤ pair.0
  pub order : pair.0 < pair.1
  pub to : pair.1 ≤ length sets
  pub meets : meet (set_of sets pair.0) (set_of sets pair.1) ≡ true
  pub before : (m n : ℕ) → 1 ≤ m → m < pair.0 → m < n → n ≤ length sets → meet (set_of sets m) (set_of sets n) ≡ false
  pub between : (n : ℕ) → pair.0 < n → n < pair.1 → meet (set_of sets pair.0) (set_of sets n) ≡ false

-- no two sets meet
abbrev pub HaveNoMeeting : List (List Cell) → Type 0
HaveNoMeeting sets = (m n : ℕ) → 1 ≤ m → m < n → n ≤ length sets → meet (set_of sets m) (set_of sets n) ≡ false

-- a cell of the list touches one of the first so many sets
abbrev pub does_reach : Geometry → List (List Cell) → List Cell → ℕ → Bool
does_reach g sets cells most = list_any (λ c. list_any (has (cells_of (take most sets))) (g.touching c)) cells

-- the first number after `inner`, up to `outer`, whose set doesn't reach the first `inner` sets
abbrev pub IsLooseAmong : Geometry → List (List Cell) → ℕ → ℕ → Option ℕ → Type 0
IsLooseAmong g sets inner outer loose =
    MatchOption loose ((n : ℕ) → inner < n → n ≤ outer → does_reach g sets (set_of sets n) inner ≡ true) (λ n. (inner < n) × (n ≤ outer) × (does_reach g sets (set_of sets n) inner ≡ false) × ((m : ℕ) → inner < m → m < n → does_reach g sets (set_of sets m) inner ≡ true))

-- the sets of this level reach those before it
abbrev pub DoReach : Geometry → List (List Cell) → List ℕ → ℕ → Type 0
DoReach g sets ends level = (n : ℕ) → slice_index ends (level - 1) < n → n ≤ slice_index ends level → does_reach g sets (set_of sets n) (slice_index ends (level - 1)) ≡ true

-- the first set of a level that reaches none before it
pub record IsFirstLoose (g : Geometry) (sets : List (List Cell)) (ends : List ℕ) (n : ℕ) : Type 0 where
  pub level : ℕ
  pub from : 1 ≤ level
  pub to : level < length ends
  pub low : slice_index ends (level - 1) < n
  pub high : n ≤ slice_index ends level
  pub loose : does_reach g sets (set_of sets n) (slice_index ends (level - 1)) ≡ false
  pub before : (m : ℕ) → slice_index ends (level - 1) < m → m < n → does_reach g sets (set_of sets m) (slice_index ends (level - 1)) ≡ true
  pub below : (k : ℕ) → 1 ≤ k → k < level → DoReach g sets ends k

-- the cell touches one of the first `inner` sets and lies in none of the first `outer`
abbrev pub is_gap : Geometry → List (List Cell) → ℕ → ℕ → Cell → Bool
is_gap g sets inner outer d =
    list_any (λ c. has (g.touching c) d) (cells_of (take inner sets)) && not (has (cells_of (take outer sets)) d)

-- the least cell that passes a test
abbrev pub IsLeastWith : (Cell → Bool) → Option Cell → Type 0
IsLeastWith test least =
    MatchOption least ((d : Cell) → test d ≡ false) (λ c. (test c ≡ true) × ((d : Cell) → test d ≡ true → cell_before d c ≡ false))

-- this level has no gap
abbrev pub HasNoGap : Geometry → List (List Cell) → List ℕ → ℕ → Type 0
HasNoGap g sets ends level = (d : Cell) → is_gap g sets (slice_index ends (level - 1)) (slice_index ends level) d ≡ false

-- the first level with a gap, and its least gap
pub record IsFirstGap (g : Geometry) (sets : List (List Cell)) (ends : List ℕ) (gap : ℕ × Cell) : Type 0 where
  pub from : 1 ≤ gap.0
  pub to : gap.0 < length ends
  pub open_ : is_gap g sets (slice_index ends (gap.0 - 1)) (slice_index ends gap.0) gap.1 ≡ true
  pub least : (d : Cell) → is_gap g sets (slice_index ends (gap.0 - 1)) (slice_index ends gap.0) d ≡ true → cell_before d gap.1 ≡ false
  pub below : (k : ℕ) → 1 ≤ k → k < gap.0 → HasNoGap g sets ends k

-- the patch of this level is hole-free
abbrev pub IsWhole : Geometry → List (List Cell) → List ℕ → ℕ → Type 0
IsWhole g sets ends level = IsHoleFree g (cells_of (take (slice_index ends level) sets))

-- the first level whose patch has a hole, and its greatest hole
pub record IsFirstHole (g : Geometry) (sets : List (List Cell)) (ends : List ℕ) (holed : ℕ × List Cell) : Type 0 where
  pub from : 1 ≤ holed.0
  pub to : holed.0 < length ends
  pub some : 1 ≤ length holed.1
  pub greatest : IsGreatestHole g (cells_of (take (slice_index ends holed.0) sets)) holed.1
  pub below : (k : ℕ) → 1 ≤ k → k < holed.0 → IsWhole g sets ends k
