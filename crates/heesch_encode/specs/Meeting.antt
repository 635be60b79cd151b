-- The variables that have some cells, by their numbers.
use Rattle.std.specs.Prelude.{ℕ, ◌==◌, ◌&&◌, nat_le, nat_lt, List, map, filter}
use Rattle.std.specs.List.{enumerate_from}
use Rattle.heesch_grid.specs.declared.Cell.{Cell}
use Rattle.heesch_grid.specs.Cells.{meet}
use Rattle.heesch_grid.specs.Geometry.{Geometry}
use Rattle.heesch_grid.specs.Placement.{touch}
use Rattle.heesch_grid.specs.CoronaFormula.{Variable}
use Rattle.heesch_place.specs.Universes.{covering}

-- the numbers of variables
abbrev pub numbers_of : List (ℕ × Variable) → List ℕ
numbers_of xs = map (λ (x : ℕ × Variable). x.0) xs

-- the numbers above `above`, rising, of the variables of level at most `most` whose tile has the cell
abbrev pub covering_after : List Variable → ℕ → ℕ → Cell → List ℕ
covering_after vars above most c = filter (nat_lt above) (covering vars most c)

-- the numbers above `above`, rising, of the variables of level at most `most` whose tile has one of the cells
abbrev pub meeting_after : List Variable → ℕ → ℕ → List Cell → List ℕ
meeting_after vars above most cells = numbers_of (filter (λ x. (nat_lt above x.0 && nat_le x.1.level most) && meet cells x.1.tile) (enumerate_from 1 vars))

-- the numbers, rising, of the variables of the level whose tile touches this one
abbrev pub supporting : Geometry → List Variable → ℕ → List Cell → List ℕ
supporting g vars level tile = numbers_of (filter (λ x. x.1.level == level && touch g x.1.tile tile) (enumerate_from 1 vars))
