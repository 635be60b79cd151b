-- Spots: places for tiles, each a form and a first cell, with their order and their tiles.
use Rattle.std.specs.Prelude.{◌≡◌, ℕ, ℤ, ◌^◌, false, ◌*ℤ◌, All, ◌+◌, ◌*◌, ◌≤◌, ◌<◌, Bool, true, ◌&&◌, ◌||◌, nat_le, nat_lt, List, map, length, slice_index_or, Contains, pos, ◌+ℤ◌, ◌≤ℤ◌, ◌<ℤ◌, nat_abs, []}
use Rattle.heesch_grid.specs.declared.Cell.{Cell}
use Rattle.heesch_grid.specs.Cells.{cell, cell_before, cells_before, has, meet, origin, same_cell}
use Rattle.heesch_grid.specs.Geometry.{Geometry}
use Rattle.heesch_grid.specs.Pattern.{divides}
use Rattle.heesch_grid.specs.Listing.{IsRising, ListsExactly}
use Rattle.heesch_grid.specs.Placement.{Apart, IsLeastIsometry, IsPlacement, Touch}
use Rattle.heesch_grid.specs.Vectors.{AreUnitsOf, IsWithin, plus, minus}
use Rattle.heesch_place.specs.declared.spots.Spot.{Spot}
use Rattle.heesch_place.specs.Found.{FromOne, IsMoved}
use Rattle.heesch_place.specs.Universes.{Placed}

-- the first cell of a list
abbrev pub head_of : List Cell → Cell
head_of cells = slice_index_or cells 0 origin

-- the form of a spot
abbrev pub form_of : List (List Cell) → Spot → List Cell
form_of forms spot = slice_index_or forms spot.form []

-- how far the tile of a spot lies from its form
abbrev pub step_to : List (List Cell) → Spot → Cell
step_to forms spot = minus spot.first (head_of (form_of forms spot))

-- the tile of a spot: its form, moved to begin with the spot's first cell
abbrev pub tile_at : List (List Cell) → Spot → List Cell
tile_at forms spot = map (plus (step_to forms spot)) (form_of forms spot)

-- a spot of the same form, whose first cell lies this far away
abbrev pub shifted : Cell → Spot → Spot
shifted step spot = record { form = spot.form; first = plus step spot.first }

-- the order of spots: by first cell, and then by form
abbrev pub spot_before : Spot → Spot → Bool
spot_before s t = cell_before s.first t.first || (same_cell s.first t.first && nat_lt s.form t.form)

-- the step is one of whole units
abbrev pub IsWhole : Geometry → Cell → Type 0
IsWhole g step = (units : Cell) × AreUnitsOf (pos g.unit) units step

-- the same, as a test
unfoldable pub is_whole : Geometry → Cell → Bool
is_whole g step = divides g.unit step.a && divides g.unit step.b

-- there is such a form, and the spot's tile is this form moved by whole units
pub record IsSpot (g : Geometry) (forms : List (List Cell)) (spot : Spot) : Type 0 where
  pub inside : spot.form < length forms
  pub whole : IsWhole g (step_to forms spot)

-- the spot's tile touches the tile
pub record IsBeside (g : Geometry) (forms : List (List Cell)) (tile : List Cell) (spot : Spot) : Type 0 where
  pub is_spot : IsSpot g forms spot
  pub touches : Touch g tile (tile_at forms spot)

-- the cell lies in the block of unit cells at (0, 0)
pub record IsInBlock (g : Geometry) (c : Cell) : Type 0 where
  pub a_low : pos 0 ≤ℤ c.a
  pub a_high : c.a <ℤ pos g.unit
  pub b_low : pos 0 ≤ℤ c.b
  pub b_high : c.b <ℤ pos g.unit

-- the list has a first cell, which lies in the block of unit cells at (0, 0)
pub record BeginsInBlock (g : Geometry) (cells : List Cell) : Type 0 where
  pub some : 1 ≤ length cells
  pub in_block : IsInBlock g (head_of cells)

-- the lists are the placements of the shape that begin in the block at (0, 0), in order; each placement is one of them, moved by whole units
pub record AreForms (g : Geometry) (shape : List Cell) (forms : List (List Cell)) : Type 0 where
  pub few : length forms ≤ 12
  pub placed : (form : List Cell) → Contains forms form → IsPlacement g shape form
  pub near : (form : List Cell) (c : Cell) → Contains forms form → has form c ≡ true → IsWithin 5000 c
  pub begins : (form : List Cell) → Contains forms form → BeginsInBlock g form
  pub every : (tile : List Cell) → IsPlacement g shape tile → FromOne (IsMoved g) forms tile
  pub rising : IsRising cells_before forms

-- so many units move the cell to the block at (0, 0)
pub record AreUnitsBack (unit : ℤ) (c units : Cell) : Type 0 where
  pub a_low : pos 0 ≤ℤ (c.a +ℤ (unit *ℤ units.a))
  pub a_high : (c.a +ℤ (unit *ℤ units.a)) <ℤ unit
  pub b_low : pos 0 ≤ℤ (c.b +ℤ (unit *ℤ units.b))
  pub b_high : (c.b +ℤ (unit *ℤ units.b)) <ℤ unit

-- a shape, and its forms
pub record Formed : Type 0 where
  pub shape : List Cell
  pub forms : List (List Cell)

-- the spots have the tiles with the property, in the order of their cell lists
pub record AreSpotsOf (g : Geometry) (forms : List (List Cell)) (P : List Cell → Type 0) (spots : List Spot) : Type 0 where
  pub are_spots : (spot : Spot) → Contains spots spot → IsSpot g forms spot
  pub listed : ListsExactly cells_before P (map (tile_at forms) spots)

-- the spot is of this form, which has these cells, and its tile has the cell (0, 0)
pub record IsCover (form : ℕ) (cells : List Cell) (spot : Spot) : Type 0 where
  pub is_form : spot.form ≡ form
  pub covers : has (map (plus (minus spot.first (head_of cells))) cells) origin ≡ true

-- there is such a form, and the spot's tile has the cell, whether or not it lies whole units away
pub record Covers (forms : List (List Cell)) (c : Cell) (spot : Spot) : Type 0 where
  pub inside : spot.form < length forms
  pub covers : has (tile_at forms spot) c ≡ true

-- the spots are those whose tiles have the cell (0, 0)
pub record AreCovers (forms : List (List Cell)) (covers : List Spot) : Type 0 where
  pub only : (spot : Spot) → Contains covers spot → Covers forms origin spot
  pub every : (spot : Spot) → Covers forms origin spot → Contains covers spot

-- the placements are the forms of the shape, each with its least isometry, and the spots are those whose tiles have the cell (0, 0)
pub record AreFormsOf (g : Geometry) (shape : List Cell) (forms : List Placed) (covers : List Spot) : Type 0 where
  pub are_forms : AreForms g shape (map (λ p. p.tile) forms)
  pub least : All (λ p. IsLeastIsometry g shape p.tile p.by) forms
  pub near : All (λ p. IsWithin 10000 (cell p.by.da p.by.db)) forms
  pub are_covers : AreCovers (map (λ p. p.tile) forms) covers

-- by form, the spots whose tiles touch it
pub record AreBeside (g : Geometry) (forms : List (List Cell)) (lists : List (List Spot)) : Type 0 where
  pub long : length lists ≡ length forms
  pub each : (k : ℕ) → k < length forms → ListsExactly spot_before (IsBeside g forms (slice_index_or forms k [])) (slice_index_or lists k [])

-- the spots of each list begin so near 0
abbrev pub AreWithinEach : ℕ → List (List Spot) → Type 0
AreWithinEach n lists = (k : ℕ) (spot : Spot) → k < length lists → Contains (slice_index_or lists k []) spot → IsWithin n spot.first

-- the spots of each list begin no further than this from the first cell of its form
abbrev pub AreInReach : List (List Cell) → List (List Spot) → ℕ → Type 0
AreInReach forms lists reach =
    (k : ℕ) (spot : Spot) → k < length lists → Contains (slice_index_or lists k []) spot → IsWithin reach (minus spot.first (head_of (slice_index_or forms k [])))

-- a shape and its forms, and how far from the first cell of a form a tile begins that touches it
pub record Prepared : Type 0 where
  pub formed : Formed
  pub reach : ℕ

-- marks of spots whose first cells lie within a radius of 0, row by row: a cell has as many marks as there are forms
pub record MarkedSpots : Type 0 where
  pub radius : ℕ
  pub forms : ℕ
  pub marks : List Bool

-- how many cells a row has
abbrev pub width : ℕ → ℕ
width radius = 2 * radius + 1

-- the place of a cell in rows of so many, of which the first begins `low` below 0 in both coordinates
abbrev pub cell_place : ℕ → ℕ → Cell → ℕ
cell_place wide low c = nat_abs (c.b +ℤ pos low) * wide + nat_abs (c.a +ℤ pos low)

-- the place of a spot's mark, where each cell has one for each form
abbrev pub spot_place : ℕ → ℕ → ℕ → Spot → ℕ
spot_place wide low forms spot = cell_place wide low spot.first * forms + spot.form

-- the mark at the place is set
abbrev pub IsSet : List Bool → ℕ → Type 0
IsSet marks place = slice_index_or marks place false ≡ true

-- the spot has a mark
pub record IsMarked (marks : MarkedSpots) (spot : Spot) : Type 0 where
  pub inside : spot.form < marks.forms
  pub within : IsWithin marks.radius spot.first
  pub marked : IsSet marks.marks (spot_place (width marks.radius) marks.radius marks.forms spot)

-- whether both coordinates lie within n of 0
abbrev pub is_near : ℕ → Cell → Bool
is_near n c = nat_le (nat_abs c.a) n && nat_le (nat_abs c.b) n

-- whether the spot has a mark
unfoldable pub has_mark : MarkedSpots → Spot → Bool
has_mark marks spot = is_near marks.radius spot.first && slice_index_or marks.marks (spot_place (width marks.radius) marks.radius marks.forms spot) false

-- there are fewer than 2^32 marks, for spots of at most 12 forms within the radius
pub record AreLaidOut (radius forms : ℕ) (marks : List Bool) : Type 0 where
  pub small : radius ≤ 1000000
  pub few : forms ≤ 12
  pub long : length marks ≡ width radius * width radius * forms
  pub below : length marks < 2 ^ 32

-- the spot, as it lies from another cell than 0
abbrev pub seen_from : Cell → Spot → Spot
seen_from c spot = record { form = spot.form; first = minus spot.first c }

-- the numbers are those of the values with the property
pub record AreNumbers {X : Type 0} (P : X → Type 0) (number : X → ℕ) (numbers : List ℕ) : Type 0 where
  pub only : (n : ℕ) → Contains numbers n → (x : X) × P x × (n ≡ number x)
  pub every : (x : X) → P x → Contains numbers (number x)

-- the marks are those of the spots whose tiles have one of the cells, which begin within 16,000 of 0
pub record IsOver (forms : List (List Cell)) (cells : List Cell) (marks : MarkedSpots) : Type 0 where
  pub are_forms : marks.forms ≡ length forms
  pub small : marks.radius ≤ 16000
  pub only : (spot : Spot) → IsMarked marks spot → meet cells (tile_at forms spot) ≡ true
  pub every : (spot : Spot) → spot.form < length forms → meet cells (tile_at forms spot) ≡ true → IsMarked marks spot

-- by form, the places of the spots whose tiles touch it as they lie from its first cell, in rows that are made for this radius
pub record AreStepsOf (g : Geometry) (prepared : Prepared) (radius : ℕ) (lists : List (List ℕ)) : Type 0 where
  pub long : length lists ≡ length prepared.formed.forms
  pub near : (k : ℕ) (spot : Spot) → k < length prepared.formed.forms → let form = slice_index_or prepared.formed.forms k [] in IsBeside g prepared.formed.forms form spot → IsWithin prepared.reach (minus spot.first (head_of form))
  pub each : (k : ℕ) → k < length prepared.formed.forms → let form = slice_index_or prepared.formed.forms k [] in AreNumbers (IsBeside g prepared.formed.forms form) (λ s. spot_place (width radius) prepared.reach (length prepared.formed.forms) (seen_from (head_of form) s)) (slice_index_or lists k [])

-- the marks are those of the spots whose tiles meet or touch the shape
pub record AreBarred (g : Geometry) (formed : Formed) (marks : MarkedSpots) : Type 0 where
  pub are_forms : marks.forms ≡ length formed.forms
  pub only : (spot : Spot) → IsMarked marks spot → Apart formed.shape (tile_at formed.forms spot) → Touch g formed.shape (tile_at formed.forms spot)
  pub meeting : (spot : Spot) → spot.form < length formed.forms → meet formed.shape (tile_at formed.forms spot) ≡ true → IsMarked marks spot
  pub touching : (spot : Spot) → spot.form < length formed.forms → Touch g formed.shape (tile_at formed.forms spot) → IsMarked marks spot

-- what is made of a shape once
pub record IsPrepared (g : Geometry) (formed : Formed) (beside : List (List Spot)) (reach : ℕ) (barred : MarkedSpots) : Type 0 where
  pub are_beside : AreBeside g formed.forms beside
  pub in_reach : AreInReach formed.forms beside reach
  pub small : reach ≤ 30000
  pub are_barred : AreBarred g formed barred

-- the marks are those of the spots whose tiles touch one of the tiles
pub record AreBesideSome (g : Geometry) (forms : List (List Cell)) (tiles : List (List Cell)) (marks : MarkedSpots) : Type 0 where
  pub only : (spot : Spot) → IsMarked marks spot → FromOne (IsBeside g forms) tiles spot
  pub every : (spot : Spot) → FromOne (IsBeside g forms) tiles spot → IsMarked marks spot
