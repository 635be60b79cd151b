-- A grid of the plane, adjacent and touching cells, and isometries.
-- They restate the grids of Kaplan ("Heesch Numbers of Unmarked Polyforms", 2021) and Myers ("Polyomino, polyhex and polyiamond tiling"): cells are adjacent where they share an edge, and touch where they share a point; reflections are among the isometries.
use Rattle.std.specs.Prelude.{◌≡◌, ℕ, ◌*◌, ◌≤◌, ◌<◌, ℤ, pos, ◌+ℤ◌, ◌*ℤ◌, ◌-ℤ◌, neg_ℤ, nat_abs, max, ◌≤ℤ◌, ◌<ℤ◌, Bool, not, ◌&&◌, ◌==◌, nat_lt, List, map, length, IsTrue, IsFalse, Contains, count_by}
use Rattle.std.specs.Ordering.{int_eq}
use Rattle.std.specs.List.{list_any, AllPairs}
use Rattle.heesch_grid.specs.declared.Cell.{Cell}
use Rattle.heesch_grid.specs.declared.isometries.Iso.{Iso}
use Rattle.heesch_grid.specs.Listing.{ListsExactly}
use Rattle.heesch_grid.specs.Cells.{cell, same_cell, cell_before}

-- a grid: which pairs are cells, the corners of a cell, and the turns by their numbers; a translation goes by multiples of `unit`, and a square of that side has `per` cells
pub record Geometry : Type 0 where
  pub unit : ℕ
  pub per : ℕ
  pub turns : ℕ
  pub half_turn : ℕ
  pub is_cell : Cell → Bool
  pub turn : ℕ → Cell → Cell
  pub corners : Cell → List (ℤ × ℤ)
  -- the number of the turn that undoes a turn, and of the first turn followed by the second
  pub inverse : ℕ → ℕ
  pub compose : ℕ → ℕ → ℕ
  -- how many cells are adjacent to a cell and how many touch it, and these cells in cell order
  pub adjacent_count : ℕ
  pub touching_count : ℕ
  pub adjacent : Cell → List Cell
  pub touching : Cell → List Cell

-- the pair is a cell of the grid
abbrev pub IsCell : Geometry → Cell → Type 0
IsCell g c = IsTrue (g.is_cell c)

-- whether two points are the same
abbrev pub same_point : ℤ × ℤ → ℤ × ℤ → Bool
same_point p q = int_eq p.0 q.0 && int_eq p.1 q.1

-- how many corners of the first cell are corners of the second
abbrev pub shared_corners : Geometry → Cell → Cell → ℕ
shared_corners g c d = count_by (λ p. list_any (same_point p) (g.corners d)) (g.corners c)

-- whether the two are different cells of the grid
abbrev pub are_two_cells : Geometry → Cell → Cell → Bool
are_two_cells g c d = g.is_cell c && (g.is_cell d && not (same_cell c d))

-- whether two different cells share exactly two corners
abbrev pub are_adjacent : Geometry → Cell → Cell → Bool
are_adjacent g c d = are_two_cells g c d && shared_corners g c d == 2

-- whether two different cells share at least one corner
abbrev pub are_touching : Geometry → Cell → Cell → Bool
are_touching g c d = are_two_cells g c d && nat_lt 0 (shared_corners g c d)

-- the two cells are adjacent: two different cells that share exactly two corners
abbrev pub Adjacent : Geometry → Cell → Cell → Type 0
Adjacent g c d = IsTrue (are_adjacent g c d)

-- the two cells touch: two different cells that share at least one corner
abbrev pub Touching : Geometry → Cell → Cell → Type 0
Touching g c d = IsTrue (are_touching g c d)

-- the cell moved by da and db units
abbrev pub moved : Geometry → ℤ → ℤ → Cell → Cell
moved g da db c = cell (c.a +ℤ pos g.unit *ℤ da) (c.b +ℤ pos g.unit *ℤ db)

-- the image of a cell under an isometry: the turn, then the translation
abbrev pub apply : Geometry → Iso → Cell → Cell
apply g by c = moved g by.da by.db (g.turn by.turn c)

-- the images of the cells of a set
abbrev pub image : Geometry → Iso → List Cell → List Cell
image g by cells = map (apply g by) cells

-- the isometry's turn is one of the grid's; its translation may be any
abbrev pub IsIsometry : Geometry → Iso → Type 0
IsIsometry g by = by.turn < g.turns

-- the cell is one of those around the set: it is outside and touches a cell of the set
pub record IsAround (g : Geometry) (cells : List Cell) (c : Cell) : Type 0 where
  pub outside : ¬ Contains cells c
  pub member : Cell
  pub inside : Contains cells member
  pub touching : Touching g member c

-- the laws that every grid keeps
pub record IsGrid (g : Geometry) : Type 0 where
  -- the unit, the cells of a unit and the turns are few
  pub unit_range : (1 ≤ g.unit) × (g.unit ≤ 6)
  pub per_range : (1 ≤ g.per) × (g.per ≤ 6)
  pub turns_range : (1 ≤ g.turns) × (g.turns ≤ 12)
  -- turn 0 leaves each pair where it is
  pub identity : (c : Cell) → g.turn 0 c ≡ c
  -- the half-turn is a turn, and sends (a, b) to (-a, -b)
  pub half_turn_below : g.half_turn < g.turns
  pub half : (c : Cell) → g.turn g.half_turn c ≡ cell (neg_ℤ c.a) (neg_ℤ c.b)
  -- the turns are closed: `compose k l` is turn k followed by turn l, and `inverse k` undoes turn k from both sides
  pub compose : (k l : ℕ) → k < g.turns → l < g.turns → (g.compose k l < g.turns) × ((c : Cell) → g.turn (g.compose k l) c ≡ g.turn l (g.turn k c))
  pub inverse : (k : ℕ) → k < g.turns → (g.inverse k < g.turns) × ((c : Cell) → (g.turn (g.inverse k) (g.turn k c) ≡ c) × (g.turn k (g.turn (g.inverse k) c) ≡ c))
  -- a turn of a sum is the sum of the turns, for all pairs of whole numbers
  pub additive : (k : ℕ) → k < g.turns → (c d : Cell) → g.turn k (cell (c.a +ℤ d.a) (c.b +ℤ d.b)) ≡ cell ((g.turn k c).a +ℤ (g.turn k d).a) ((g.turn k c).b +ℤ (g.turn k d).b)
  -- no coordinate of a turned pair has more than twice the greatest absolute value in the pair
  pub bounded : (k : ℕ) → k < g.turns → (c : Cell) → max (nat_abs (g.turn k c).a) (nat_abs (g.turn k c).b) ≤ 2 * max (nat_abs c.a) (nat_abs c.b)
  -- isometries, so turns and translations by units too, carry cells to cells, adjacent ones to adjacent ones, and touching ones to touching ones
  pub cells_kept : (by : Iso) → IsIsometry g by → (c : Cell) → IsCell g c → IsCell g (apply g by c)
  pub adjacent_kept : (by : Iso) → IsIsometry g by → (c d : Cell) → Adjacent g c d → Adjacent g (apply g by c) (apply g by d)
  pub touching_kept : (by : Iso) → IsIsometry g by → (c d : Cell) → Touching g c d → Touching g (apply g by c) (apply g by d)
  -- the corners of a cell are different points, so that a count of shared corners counts points
  pub corners_differ : (c : Cell) → IsCell g c → AllPairs (λ p q. IsFalse (same_point p q)) (g.corners c)
  -- both relations go both ways
  pub adjacent_back : (c d : Cell) → Adjacent g c d → Adjacent g d c
  pub touching_back : (c d : Cell) → Touching g c d → Touching g d c
  -- at most 12 cells are adjacent to a cell, and at most 12 touch it
  pub adjacent_range : g.adjacent_count ≤ 12
  pub touching_range : g.touching_count ≤ 12
  -- the lists of neighbours are exact: just the cells that share two corners, and just those that share at least one, each once in cell order
  pub adjacent_listed : (c : Cell) → IsCell g c → ListsExactly cell_before (Adjacent g c) (g.adjacent c) × (length (g.adjacent c) ≡ g.adjacent_count)
  pub touching_listed : (c : Cell) → IsCell g c → ListsExactly cell_before (Touching g c) (g.touching c) × (length (g.touching c) ≡ g.touching_count)
  -- a cell that touches another differs from it by at most 4 in each coordinate
  pub reach : (c d : Cell) → Touching g c d → (nat_abs (d.a -ℤ c.a) ≤ 4) × (nat_abs (d.b -ℤ c.b) ≤ 4)
  -- exactly `per` cells have 0 <= a < unit and 0 <= b < unit
  pub block : (cells : List Cell) × ListsExactly cell_before (λ c. IsCell g c × (pos 0 ≤ℤ c.a) × (c.a <ℤ pos g.unit) × (pos 0 ≤ℤ c.b) × (c.b <ℤ pos g.unit)) cells × (length cells ≡ g.per)
  -- every cell is carried to every other by an isometry
  pub alike : (c d : Cell) → IsCell g c → IsCell g d → (by : Iso) × IsIsometry g by × (apply g by c ≡ d)
  -- every cell has an adjacent cell on each of the four sides
  pub greater_a : (c : Cell) → IsCell g c → (d : Cell) × Adjacent g c d × (c.a <ℤ d.a)
  pub smaller_a : (c : Cell) → IsCell g c → (d : Cell) × Adjacent g c d × (d.a <ℤ c.a)
  pub greater_b : (c : Cell) → IsCell g c → (d : Cell) × Adjacent g c d × (c.b <ℤ d.b)
  pub smaller_b : (c : Cell) → IsCell g c → (d : Cell) × Adjacent g c d × (d.b <ℤ c.b)

-- the constants of a grid's code are its numbers
pub record HasSizes (g : Geometry) (unit : ℤ) (per turns half_turn adjacent touching : ℕ) : Type 0 where
  pub unit_is : unit ≡ pos g.unit
  pub per_is : per ≡ g.per
  pub turns_is : turns ≡ g.turns
  pub half_turn_is : half_turn ≡ g.half_turn
  pub adjacent_is : adjacent ≡ g.adjacent_count
  pub touching_is : touching ≡ g.touching_count
