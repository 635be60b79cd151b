-- What the code of a grid takes from its tables.
use Rattle.std.specs.Prelude.{◌≡◌, true, length, pos}
use Rattle.std.specs.List.{list_all}
use Rattle.std.proofs.Common.{refl}
use Rattle.heesch_grid.specs.declared.Cell.{Cell}
use Rattle.heesch_grid.specs.declared.tabled.Numbers.{Numbers}
use Rattle.heesch_grid.specs.declared.tabled.Tables.{Tables}
use Rattle.heesch_grid.specs.Geometry.{HasSizes}
use Rattle.heesch_grid.specs.Pattern.{Kind, Pattern, grid_of, kind_of, within_test}

-- the numbers of a grid by its tables
abbrev pub numbers_of : Pattern → Numbers
numbers_of p = record {
  unit = pos p.unit;
  per = length p.kinds;
  turns = length p.turns;
  half_turn = p.half_turn;
  adjacent = p.adjacent_count;
  touching = p.touching_count;
}

-- these are the tables of the kind's neighbours
pub record HasTables (k : Kind) (t : Tables) : Type 0 where
  pub adjacent_is : t.adjacent.now ≡ k.adjacent
  pub touching_is : t.touching.now ≡ k.touching

-- these are the tables of the cell's kind: differences within 4 of 0, as many as the grid says
pub record AreTablesAt (p : Pattern) (c : Cell) (t : Tables) : Type 0 where
  pub tables : HasTables (kind_of p.unit p.kinds c) t
  pub adjacent_near : list_all (within_test 4) t.adjacent.now ≡ true
  pub touching_near : list_all (within_test 4) t.touching.now ≡ true
  pub adjacent_count : length t.adjacent.now ≡ p.adjacent_count
  pub touching_count : length t.touching.now ≡ p.touching_count

-- numbers that are the tables' are the grid's
pub sizes_of : (p : Pattern) (n : Numbers) → n ≡ numbers_of p → HasSizes (grid_of p) n.unit n.per n.turns n.half_turn n.adjacent n.touching
sizes_of p n e = rw e (record { unit_is = refl; per_is = refl; turns_is = refl; half_turn_is = refl; adjacent_is = refl; touching_is = refl })
