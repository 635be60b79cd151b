-- Worked examples of the formulas, by computation.
use Rattle.std.proofs.Common.{◌≡◌, ℕ, ◌+◌, Bool, true, false, not, cond, refl, List, [], ◌∷◌, ◌++◌, map, filter, length, flat_map}
use Rattle.std.specs.Prelude.{pos, negsuc, ◌+ℤ◌, nat_le, slice_get, Some, sum_by}
use Rattle.heesch_grid.specs.declared.Cell.{Cell}
use Rattle.heesch_grid.specs.Cells.{cell, cells_before, has, origin}
use Rattle.heesch_grid.specs.Geometry.{Geometry, are_touching, image}
use Rattle.heesch_grid.specs.Placement.{touch}
use Rattle.heesch_grid.specs.Pattern.{grid_of}
use Rattle.heesch_grid.specs.Grids.{iamond as iamond_tables}
use Rattle.heesch_grid.specs.Clauses.{Literals, formula_size}
use Rattle.heesch_grid.specs.CoronaFormula.{Variable, corona_clauses}
use Rattle.heesch_grid.specs.OwnerFormula.{holders, owner_count, owned_corona_clauses}
use Rattle.heesch_grid.specs.TorusFormula.{torus_clauses}
use Rattle.heesch_grid.proofs.Computed.{window}
use Rattle.heesch_grid.proofs.SortFacts.{sorted, placed_in}
use Rattle.heesch_grid.proofs.AroundFacts.{cells_around}
use Rattle.heesch_grid.specs.Examples.{square, ring}

abbrev iamond : Geometry
iamond = grid_of iamond_tables

-- literals as a number with a sign
abbrev signed : Literals (ℕ × Bool)
signed = record {
  plus = λ n. (n, true);
  minus = λ n. (n, false);
  holds = λ values l. cond l.1 (values l.0) (not (values l.0));
  plus_holds = λ values n. refl;
  minus_holds = λ values n. refl;
}

-- ---- the domino at level 1: 24 variables, 52 clauses, 118 literals, and clause 1 is `1 5 6 7`

abbrev domino : List Cell
domino = cell (pos 0) (pos 0) ∷ cell (pos 1) (pos 0) ∷ []

abbrev put_tile : List Cell → List (List Cell) → List (List Cell)
put_tile t [] = t ∷ []
put_tile t (s ∷ ts) = cond (cells_before t s) (t ∷ s ∷ ts) (s ∷ put_tile t ts)

abbrev sorted_tiles : List (List Cell) → List (List Cell)
sorted_tiles [] = []
sorted_tiles (t ∷ ts) = put_tile t (sorted_tiles ts)

abbrev dominoes : List (List Cell)
dominoes = flat_map (λ c. (c ∷ cell (c.a +ℤ pos 1) c.b ∷ []) ∷ (c ∷ cell c.a (c.b +ℤ pos 1) ∷ []) ∷ []) (window 3)

abbrev domino_variables : List Variable
domino_variables = map (λ t. record { level = 1; tile = t }) (sorted_tiles (filter (touch square domino) dominoes))

domino_variable_count : length domino_variables ≡ 24
domino_variable_count = refl

abbrev domino_clauses : List (List (ℕ × Bool))
domino_clauses = corona_clauses signed square (cells_around square) domino 1 domino_variables

domino_worked : (length domino_clauses ≡ 52) × (formula_size domino_clauses ≡ 118) × (slice_get domino_clauses 0 ≡ Some ((1, true) ∷ (5, true) ∷ (6, true) ∷ (7, true) ∷ []))
unfolding sorted placed_in
domino_worked = (refl, refl, refl)

-- ---- in the second version: 44 variables, 78 clauses, 170 literals

abbrev domino_owned : List Cell
domino_owned = filter (λ c. nat_le 2 (length (holders domino_variables c))) (window 4)

domino_owned_count : length domino_variables + sum_by (owner_count domino_variables) domino_owned ≡ 44
domino_owned_count = refl

abbrev domino_owned_clauses : List (List (ℕ × Bool))
domino_owned_clauses = owned_corona_clauses signed square (cells_around square) domino 1 domino_variables domino_owned

domino_owned_size : (length domino_owned_clauses ≡ 78) × (formula_size domino_owned_clauses ≡ 170)
unfolding sorted placed_in
domino_owned_size = (refl, refl)

domino_owned_rows : (slice_get domino_owned_clauses 0 ≡ Some ((1, true) ∷ (5, true) ∷ (6, true) ∷ (7, true) ∷ [])) × (slice_get domino_owned_clauses 10 ≡ Some ((1, false) ∷ (25, false) ∷ [])) × (slice_get domino_owned_clauses 12 ≡ Some ((5, false) ∷ (25, true) ∷ [])) × (slice_get domino_owned_clauses 17 ≡ Some ((7, false) ∷ (26, true) ∷ []))
unfolding sorted placed_in
domino_owned_rows = (refl, refl, refl, refl)

-- ---- the single square at level 2: 24 variables, 80 clauses and 168 literals in both versions, since no cell is owned

abbrev square_variables : List Variable
square_variables =
    map (λ c. record { level = 1; tile = c ∷ [] }) (filter (are_touching square origin) (window 1)) ++ map (λ c. record { level = 2; tile = c ∷ [] }) (filter (λ c. not (has (window 1) c)) (window 2))

square_variable_count : length square_variables ≡ 24
square_variable_count = refl

square_owns_none : filter (λ c. nat_le 2 (length (holders square_variables c))) (window 3) ≡ []
square_owns_none = refl

abbrev square_clauses : List (List (ℕ × Bool))
square_clauses = corona_clauses signed square (cells_around square) (origin ∷ []) 2 square_variables

square_worked : (length square_clauses ≡ 80) × (formula_size square_clauses ≡ 168) × (owned_corona_clauses signed square (cells_around square) (origin ∷ []) 2 square_variables [] ≡ square_clauses)
unfolding sorted placed_in
square_worked = (refl, refl, refl)

-- ---- the single iamond at level 1: 12 variables and 12 literals

abbrev up : Cell
up = cell (pos 1) (pos 1)

abbrev iamond_variables : List Variable
iamond_variables = map (λ c. record { level = 1; tile = c ∷ [] }) (filter (are_touching iamond up) (window 5))

iamond_size : formula_size (corona_clauses signed iamond (cells_around iamond) (up ∷ []) 1 iamond_variables) ≡ 12
unfolding sorted placed_in
iamond_size = refl

-- ---- the ring of seven cells: its centre is the ninth cell around it

ring_centre : slice_get (cells_around square ring) 8 ≡ Some (cell (pos 1) (pos 1))
unfolding sorted placed_in
ring_centre = refl

-- ---- the symmetry with turn 1 that takes the iamond 1,1 to its image under the half-turn

iamond_by : image iamond (record { turn = 1; da = pos 0; db = negsuc 0 }) (image iamond (record { turn = 0; da = pos 0; db = pos 0 }) (up ∷ [])) ≡ image iamond (record { turn = 3; da = pos 0; db = pos 0 }) (up ∷ [])
iamond_by = refl

-- ---- the torus formula of the single iamond for (1, 1, 0)

iamond_torus : torus_clauses signed (up ∷ cell (pos 2) (pos 2) ∷ []) ((up ∷ []) ∷ (cell (pos 2) (pos 2) ∷ []) ∷ []) ≡ ((1, true) ∷ []) ∷ ((2, true) ∷ []) ∷ []
iamond_torus = refl
