-- The parts of the parents.
use Rattle.std.specs.Prelude.{ℕ, ◌*◌, Bool, List, take, drop}
use Rattle.std.specs.List.{list_all}
use Rattle.heesch_grid.specs.declared.Cell.{Cell}
use Rattle.heesch_grow.specs.Parents.{is_small}

-- whether all lists have at most 31 cells, each within 100,000 of 0
abbrev pub are_small : List (List Cell) → Bool
are_small lists = list_all is_small lists

-- the parents of a ticket: 64 consecutive ones, or those that are left
abbrev pub part_of : ℕ → List (List Cell) → List (List Cell)
part_of number parents = take 64 (drop (number * 64) parents)
