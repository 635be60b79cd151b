-- A grid by finite tables. Its cells are those that are congruent to the cell of a kind modulo the unit.
use Rattle.std.specs.Prelude.{ℕ, ◌+◌, ◌-◌, ◌%◌, Bool, ◌&&◌, ◌==◌, if◌then◌else◌, nat_lt, List, [], ◌∷◌, map, length, filter, get_or, ℤ, pos, neg_ℤ, int_le, ◌+ℤ◌, ◌-ℤ◌, ◌*ℤ◌, unsigned_abs}
use Rattle.std.specs.List.{list_any}
use Rattle.heesch_grid.specs.declared.Cell.{Cell}
use Rattle.heesch_grid.specs.Cells.{cell, has}
use Rattle.heesch_grid.specs.Geometry.{Geometry}
use Rattle.heesch_grid.specs.Vectors.{plus, times}

-- the coefficients of the new a and of the new b
pub record Turn : Type 0 where
  pub new_a : Cell
  pub new_b : Cell

-- the cells that a translation carries to `cell`, all of one form
pub record Kind : Type 0 where
  pub cell : Cell
  -- added to `scale` times a cell of this kind
  pub corners : List Cell
  -- added to a cell of this kind, in cell order
  pub adjacent : List Cell
  pub touching : List Cell

-- a grid by its tables; its cells have the kinds' forms, and corners are counted in points of the grid's plane
pub record Pattern : Type 0 where
  pub unit : ℕ
  pub scale : ℕ
  -- half the number of turns: the turns below it keep the orientation
  pub rotations : ℕ
  pub half_turn : ℕ
  pub adjacent_count : ℕ
  pub touching_count : ℕ
  pub turns : List Turn
  pub kinds : List Kind

-- a sum of coordinates by coefficients
abbrev pub form : Cell → Cell → ℤ
form r c = (r.a *ℤ c.a) +ℤ (r.b *ℤ c.b)

-- the pair under a turn
abbrev pub turned : Turn → Cell → Cell
turned t c = cell (form t.new_a c) (form t.new_b c)

-- the turn that leaves each pair where it is
abbrev pub identity : Turn
identity = record { new_a = cell (pos 1) (pos 0); new_b = cell (pos 0) (pos 1) }

-- whether n divides z
abbrev pub divides : ℕ → ℤ → Bool
divides n z = unsigned_abs z % n == 0

-- whether c and d differ by multiples of n in both coordinates
abbrev pub congruent : ℕ → Cell → Cell → Bool
congruent n c d = divides n (c.a -ℤ d.a) && divides n (c.b -ℤ d.b)

-- what stands for the kind of a pair that is no cell
abbrev pub no_kind : Kind
no_kind = record { cell = cell (pos 0) (pos 0); corners = []; adjacent = []; touching = [] }

-- the first kind to which c belongs
abbrev pub kind_of : ℕ → List Kind → Cell → Kind
kind_of n [] c = no_kind
kind_of n (k ∷ ks) c = if congruent n c k.cell then k else kind_of n ks c

-- turn k followed by turn l; a turn from `rotations` on is the first of these and then a rotation.
abbrev pub composed : ℕ → ℕ → ℕ → ℕ
composed n k l =
    if nat_lt k n
    then (if nat_lt l n then (k + l) % n else n + (l - k) % n)
    else (if nat_lt l n then n + (k + l - n) % n else (l + n - k) % n)

-- the turn that undoes turn k, where the turns from n on undo themselves
abbrev pub inverted : ℕ → ℕ → ℕ
inverted n k = if nat_lt k n then (n - k) % n else k

-- both coordinates lie within n of 0, as a test
abbrev pub within_test : ℕ → Cell → Bool
within_test n c =
    int_le (neg_ℤ (pos n)) c.a && (int_le c.a (pos n) && (int_le (neg_ℤ (pos n)) c.b && int_le c.b (pos n)))

-- the corners of a cell
abbrev pub corners_of : Pattern → Cell → List Cell
corners_of p c = map (plus (times p.scale c)) (kind_of p.unit p.kinds c).corners

-- how many corners of c are corners of d
abbrev pub shared : Pattern → Cell → Cell → ℕ
shared p c d = length (filter (has (corners_of p d)) (corners_of p c))

-- the grid of a pattern
abbrev pub grid_of : Pattern → Geometry
grid_of p = record {
  unit = p.unit;
  per = length p.kinds;
  turns = length p.turns;
  half_turn = p.half_turn;
  is_cell = λ c. list_any (λ k. congruent p.unit c k.cell) p.kinds;
  turn = λ k c. turned (get_or p.turns k identity) c;
  inverse = inverted p.rotations;
  compose = composed p.rotations;
  adjacent_count = p.adjacent_count;
  touching_count = p.touching_count;
  corners = λ c. map (λ (k : Cell). (k.a, k.b)) (corners_of p c);
  adjacent = λ c. map (plus c) (kind_of p.unit p.kinds c).adjacent;
  touching = λ c. map (plus c) (kind_of p.unit p.kinds c).touching;
}
