-- The second corona formula E2(S, j): that a cell has at most one chosen tile is said by owner variables of the cell, in place of a clause for each two variables whose tiles meet.
-- Its universe is that of E1(S, j). The owner variables are numbered after the universe's, by cell and then by bit; they have no level and no tile.
use Rattle.std.specs.Prelude.{◌≡◌, ℕ, ◌+◌, ◌-◌, ◌/◌, ◌%◌, ◌^◌, ◌≤◌, Bool, cond, nat_le, ◌==◌, List, [], ◌∷◌, ◌++◌, map, filter, length, flat_map, sum_by}
use Rattle.std.specs.List.{enumerate_from, range_with_len}
use Rattle.heesch_grid.specs.declared.Cell.{Cell}
use Rattle.heesch_grid.specs.Listing.{ListsExactly}
use Rattle.heesch_grid.specs.Cells.{cell_before, has}
use Rattle.heesch_grid.specs.Geometry.{Geometry}
use Rattle.heesch_grid.specs.Clauses.{Literals}
use Rattle.heesch_grid.specs.CoronaFormula.{Variable, IsUniverse, first_clauses, covering_clauses, support_clauses, GivesCellsAround}

-- the numbers of the variables, of any level, whose tile has the cell, in rising order; their ranks count from 0
abbrev pub holders : List Variable → Cell → List ℕ
holders vars c = map (λ x. x.0) (filter (λ x. has x.1.tile c) (enumerate_from 1 vars))

-- at least two variables have the cell
abbrev pub IsOwned : List Variable → Cell → Type 0
IsOwned vars c = 2 ≤ length (holders vars c)

-- how many binary digits a number from 1 has
abbrev pub digits : ℕ → ℕ
digits n = length (filter (λ t. nat_le (2 ^ t) n) (range_with_len 0 n))

-- whether bit t of the number is 1
abbrev pub bit : ℕ → ℕ → Bool
bit t n = (n / 2 ^ t) % 2 == 1

-- how many owner variables the cell has: the digits of the greatest rank
abbrev pub owner_count : List Variable → Cell → ℕ
owner_count vars c = digits (length (holders vars c) - 1)

-- the variable of this number, or its negation
abbrev pub signed : {L : Type 0} → Literals L → Bool → ℕ → L
signed ls positive n = cond positive (ls.plus n) (ls.minus n)

-- where the variable of this rank is chosen, the owner variables from `start` on are the bits of the rank
abbrev pub rank_clauses : {L : Type 0} → Literals L → ℕ → ℕ → ℕ × ℕ → List (List L)
rank_clauses ls start count ranked = map (λ t. ls.minus ranked.1 ∷ signed ls (bit t ranked.0) (start + t) ∷ []) (range_with_len 0 count)

-- the fourth family: the clauses of these cells, whose owner variables are numbered from `start` on
abbrev pub owner_clauses : {L : Type 0} → Literals L → List Variable → ℕ → List Cell → List (List L)
owner_clauses ls vars start [] = []
owner_clauses ls vars start (c ∷ cells) = flat_map (rank_clauses ls start (owner_count vars c)) (enumerate_from 0 (holders vars c)) ++ owner_clauses ls vars (start + owner_count vars c) cells

-- the four families in order: the first three are those of E1
abbrev pub owned_corona_clauses : {L : Type 0} → Literals L → Geometry → (List Cell → List Cell) → List Cell → ℕ → List Variable → List Cell → List (List L)
owned_corona_clauses ls g around shape j vars owned = first_clauses ls around shape vars ++ covering_clauses ls around shape j vars ++ support_clauses ls g vars ++ owner_clauses ls vars (length vars + 1) owned

-- the clauses are E2(S, j), over this universe, and the variables of the formula are those from 1 to `count`
pub record IsOwnerFormula {L : Type 0} (ls : Literals L) (g : Geometry) (shape : List Cell) (j : ℕ) (vars : List Variable) (count : ℕ) (clauses : List (List L)) : Type 0 where
  pub is_universe : IsUniverse g shape j vars
  pub around : List Cell → List Cell
  pub gives_around : GivesCellsAround g around
  pub owned : List Cell
  pub are_owned : ListsExactly cell_before (IsOwned vars) owned
  pub count_is : count ≡ length vars + sum_by (owner_count vars) owned
  pub is : clauses ≡ owned_corona_clauses ls g around shape j vars owned
