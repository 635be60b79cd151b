-- The grids, by their tables.
use Rattle.std.specs.Prelude.{ℕ, List, [], ◌∷◌, ℤ, pos, neg_ℤ}
use Rattle.heesch_grid.specs.declared.Cell.{Cell}
use Rattle.heesch_grid.specs.Cells.{cell}
use Rattle.heesch_grid.specs.Pattern.{Pattern, Turn}

-- minus n
abbrev neg : ℕ → ℤ
neg n = neg_ℤ (pos n)

-- the turn with these coefficients of the new a and the new b
abbrev turn_by : Cell → Cell → Turn
turn_by x y = record { new_a = x; new_b = y }

-- the turns of the squares: by quarters, and then their reflections
abbrev pub square_turns : List Turn
square_turns =
    turn_by (cell (pos 1) (pos 0)) (cell (pos 0) (pos 1)) ∷
    turn_by (cell (pos 0) (neg 1)) (cell (pos 1) (pos 0)) ∷
    turn_by (cell (neg 1) (pos 0)) (cell (pos 0) (neg 1)) ∷
    turn_by (cell (pos 0) (pos 1)) (cell (neg 1) (pos 0)) ∷
    turn_by (cell (pos 0) (pos 1)) (cell (pos 1) (pos 0)) ∷
    turn_by (cell (neg 1) (pos 0)) (cell (pos 0) (pos 1)) ∷
    turn_by (cell (pos 0) (neg 1)) (cell (neg 1) (pos 0)) ∷
    turn_by (cell (pos 1) (pos 0)) (cell (pos 0) (neg 1)) ∷
    []

-- the turns of the hexagons and the triangles: by sixths, and then their reflections
abbrev pub hex_turns : List Turn
hex_turns =
    turn_by (cell (pos 1) (pos 0)) (cell (pos 0) (pos 1)) ∷
    turn_by (cell (pos 0) (neg 1)) (cell (pos 1) (pos 1)) ∷
    turn_by (cell (neg 1) (neg 1)) (cell (pos 1) (pos 0)) ∷
    turn_by (cell (neg 1) (pos 0)) (cell (pos 0) (neg 1)) ∷
    turn_by (cell (pos 0) (pos 1)) (cell (neg 1) (neg 1)) ∷
    turn_by (cell (pos 1) (pos 1)) (cell (neg 1) (pos 0)) ∷
    turn_by (cell (pos 0) (pos 1)) (cell (pos 1) (pos 0)) ∷
    turn_by (cell (neg 1) (pos 0)) (cell (pos 1) (pos 1)) ∷
    turn_by (cell (neg 1) (neg 1)) (cell (pos 0) (pos 1)) ∷
    turn_by (cell (pos 0) (neg 1)) (cell (neg 1) (pos 0)) ∷
    turn_by (cell (pos 1) (pos 0)) (cell (neg 1) (neg 1)) ∷
    turn_by (cell (pos 1) (pos 1)) (cell (pos 0) (neg 1)) ∷
    []

-- squares: all pairs are cells
abbrev pub square : Pattern
square = record {
  unit = 1;
  scale = 2;
  rotations = 4;
  half_turn = 2;
  adjacent_count = 4;
  touching_count = 8;
  turns = square_turns;
  kinds =
      record {
        cell = cell (pos 0) (pos 0);
        corners = cell (pos 1) (pos 1) ∷ cell (pos 1) (neg 1) ∷ cell (neg 1) (pos 1) ∷ cell (neg 1) (neg 1) ∷ [];
        adjacent = cell (pos 0) (neg 1) ∷ cell (neg 1) (pos 0) ∷ cell (pos 1) (pos 0) ∷ cell (pos 0) (pos 1) ∷ [];
        touching = cell (neg 1) (neg 1) ∷ cell (pos 0) (neg 1) ∷ cell (pos 1) (neg 1) ∷ cell (neg 1) (pos 0) ∷ cell (pos 1) (pos 0) ∷ cell (neg 1) (pos 1) ∷ cell (pos 0) (pos 1) ∷ cell (pos 1) (pos 1) ∷ [];
      } ∷
      [];
}

-- hexagons: all pairs are cells
abbrev pub hex : Pattern
hex = record {
  unit = 1;
  scale = 3;
  rotations = 6;
  half_turn = 3;
  adjacent_count = 6;
  touching_count = 6;
  turns = hex_turns;
  kinds =
      record {
        cell = cell (pos 0) (pos 0);
        corners = cell (pos 1) (pos 1) ∷ cell (neg 1) (pos 2) ∷ cell (neg 2) (pos 1) ∷ cell (neg 1) (neg 1) ∷ cell (pos 1) (neg 2) ∷ cell (pos 2) (neg 1) ∷ [];
        adjacent = cell (pos 0) (neg 1) ∷ cell (pos 1) (neg 1) ∷ cell (neg 1) (pos 0) ∷ cell (pos 1) (pos 0) ∷ cell (neg 1) (pos 1) ∷ cell (pos 0) (pos 1) ∷ [];
        touching = cell (pos 0) (neg 1) ∷ cell (pos 1) (neg 1) ∷ cell (neg 1) (pos 0) ∷ cell (pos 1) (pos 0) ∷ cell (neg 1) (pos 1) ∷ cell (pos 0) (pos 1) ∷ [];
      } ∷
      [];
}

-- triangles: those that point up, and those that point down
abbrev pub iamond : Pattern
iamond = record {
  unit = 3;
  scale = 1;
  rotations = 6;
  half_turn = 3;
  adjacent_count = 3;
  touching_count = 12;
  turns = hex_turns;
  kinds =
      record {
        cell = cell (pos 1) (pos 1);
        corners = cell (neg 1) (neg 1) ∷ cell (pos 2) (neg 1) ∷ cell (neg 1) (pos 2) ∷ [];
        adjacent = cell (pos 1) (neg 2) ∷ cell (neg 2) (pos 1) ∷ cell (pos 1) (pos 1) ∷ [];
        touching = cell (pos 0) (neg 3) ∷ cell (pos 3) (neg 3) ∷ cell (neg 2) (neg 2) ∷ cell (pos 1) (neg 2) ∷ cell (pos 4) (neg 2) ∷ cell (neg 3) (pos 0) ∷ cell (pos 3) (pos 0) ∷ cell (neg 2) (pos 1) ∷ cell (pos 1) (pos 1) ∷ cell (neg 3) (pos 3) ∷ cell (pos 0) (pos 3) ∷ cell (neg 2) (pos 4) ∷ [];
      } ∷
      record {
        cell = cell (pos 2) (pos 2);
        corners = cell (pos 1) (pos 1) ∷ cell (neg 2) (pos 1) ∷ cell (pos 1) (neg 2) ∷ [];
        adjacent = cell (neg 1) (neg 1) ∷ cell (pos 2) (neg 1) ∷ cell (neg 1) (pos 2) ∷ [];
        touching = cell (pos 2) (neg 4) ∷ cell (pos 0) (neg 3) ∷ cell (pos 3) (neg 3) ∷ cell (neg 1) (neg 1) ∷ cell (pos 2) (neg 1) ∷ cell (neg 3) (pos 0) ∷ cell (pos 3) (pos 0) ∷ cell (neg 4) (pos 2) ∷ cell (neg 1) (pos 2) ∷ cell (pos 2) (pos 2) ∷ cell (neg 3) (pos 3) ∷ cell (pos 0) (pos 3) ∷ [];
      } ∷
      [];
}

-- kites: the sixths of a hexagon, cut by the lines from its centre to the middles of its edges
abbrev pub kite : Pattern
kite = record {
  unit = 6;
  scale = 1;
  rotations = 6;
  half_turn = 3;
  adjacent_count = 4;
  touching_count = 9;
  turns = hex_turns;
  kinds =
      record {
        cell = cell (pos 1) (pos 1);
        corners = cell (neg 1) (neg 1) ∷ cell (pos 1) (pos 1) ∷ cell (neg 1) (pos 2) ∷ cell (pos 2) (neg 1) ∷ [];
        adjacent = cell (pos 1) (neg 2) ∷ cell (pos 3) (pos 0) ∷ cell (neg 2) (pos 1) ∷ cell (pos 0) (pos 3) ∷ [];
        touching = cell (pos 0) (neg 3) ∷ cell (neg 2) (neg 2) ∷ cell (pos 1) (neg 2) ∷ cell (pos 4) (neg 2) ∷ cell (neg 3) (pos 0) ∷ cell (pos 3) (pos 0) ∷ cell (neg 2) (pos 1) ∷ cell (pos 0) (pos 3) ∷ cell (neg 2) (pos 4) ∷ [];
      } ∷
      record {
        cell = cell (neg 1) (pos 2);
        corners = cell (pos 1) (neg 2) ∷ cell (neg 1) (pos 2) ∷ cell (neg 2) (pos 1) ∷ cell (pos 1) (pos 1) ∷ [];
        adjacent = cell (neg 1) (neg 1) ∷ cell (pos 2) (neg 1) ∷ cell (neg 3) (pos 3) ∷ cell (pos 0) (pos 3) ∷ [];
        touching = cell (pos 2) (neg 4) ∷ cell (pos 0) (neg 3) ∷ cell (pos 3) (neg 3) ∷ cell (neg 1) (neg 1) ∷ cell (pos 2) (neg 1) ∷ cell (neg 4) (pos 2) ∷ cell (pos 2) (pos 2) ∷ cell (neg 3) (pos 3) ∷ cell (pos 0) (pos 3) ∷ [];
      } ∷
      record {
        cell = cell (neg 2) (pos 1);
        corners = cell (pos 2) (neg 1) ∷ cell (neg 2) (pos 1) ∷ cell (neg 1) (neg 1) ∷ cell (neg 1) (pos 2) ∷ [];
        adjacent = cell (pos 1) (neg 2) ∷ cell (neg 3) (pos 0) ∷ cell (pos 1) (pos 1) ∷ cell (neg 3) (pos 3) ∷ [];
        touching = cell (pos 3) (neg 3) ∷ cell (neg 2) (neg 2) ∷ cell (pos 1) (neg 2) ∷ cell (pos 4) (neg 2) ∷ cell (neg 3) (pos 0) ∷ cell (pos 3) (pos 0) ∷ cell (pos 1) (pos 1) ∷ cell (neg 3) (pos 3) ∷ cell (neg 2) (pos 4) ∷ [];
      } ∷
      record {
        cell = cell (neg 1) (neg 1);
        corners = cell (pos 1) (pos 1) ∷ cell (neg 1) (neg 1) ∷ cell (pos 1) (neg 2) ∷ cell (neg 2) (pos 1) ∷ [];
        adjacent = cell (pos 0) (neg 3) ∷ cell (pos 2) (neg 1) ∷ cell (neg 3) (pos 0) ∷ cell (neg 1) (pos 2) ∷ [];
        touching = cell (pos 2) (neg 4) ∷ cell (pos 0) (neg 3) ∷ cell (pos 2) (neg 1) ∷ cell (neg 3) (pos 0) ∷ cell (pos 3) (pos 0) ∷ cell (neg 4) (pos 2) ∷ cell (neg 1) (pos 2) ∷ cell (pos 2) (pos 2) ∷ cell (pos 0) (pos 3) ∷ [];
      } ∷
      record {
        cell = cell (pos 1) (neg 2);
        corners = cell (neg 1) (pos 2) ∷ cell (pos 1) (neg 2) ∷ cell (pos 2) (neg 1) ∷ cell (neg 1) (neg 1) ∷ [];
        adjacent = cell (pos 0) (neg 3) ∷ cell (pos 3) (neg 3) ∷ cell (neg 2) (pos 1) ∷ cell (pos 1) (pos 1) ∷ [];
        touching = cell (pos 0) (neg 3) ∷ cell (pos 3) (neg 3) ∷ cell (neg 2) (neg 2) ∷ cell (pos 4) (neg 2) ∷ cell (neg 2) (pos 1) ∷ cell (pos 1) (pos 1) ∷ cell (neg 3) (pos 3) ∷ cell (pos 0) (pos 3) ∷ cell (neg 2) (pos 4) ∷ [];
      } ∷
      record {
        cell = cell (pos 2) (neg 1);
        corners = cell (neg 2) (pos 1) ∷ cell (pos 2) (neg 1) ∷ cell (pos 1) (pos 1) ∷ cell (pos 1) (neg 2) ∷ [];
        adjacent = cell (pos 3) (neg 3) ∷ cell (neg 1) (neg 1) ∷ cell (pos 3) (pos 0) ∷ cell (neg 1) (pos 2) ∷ [];
        touching = cell (pos 2) (neg 4) ∷ cell (pos 3) (neg 3) ∷ cell (neg 1) (neg 1) ∷ cell (neg 3) (pos 0) ∷ cell (pos 3) (pos 0) ∷ cell (neg 4) (pos 2) ∷ cell (neg 1) (pos 2) ∷ cell (pos 2) (pos 2) ∷ cell (neg 3) (pos 3) ∷ [];
      } ∷
      [];
}
