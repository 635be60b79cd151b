-- The tests of a pattern, which compute.
use Rattle.std.proofs.Common.{◌≡◌, ℕ, ◌<◌, ◌≤◌, Bool, true, not, ◌&&◌, ◌==◌, nat_lt, List, [], ◌∷◌, filter, get_or, length, pos, negsuc, int_lt, int_le, lit<}
use Rattle.std.proofs.Math.Dec.{leb}
use Rattle.std.proofs.lemmas.Bool.{eqb-true, leb-true, ltb-true}
use Rattle.std.specs.List.{list_any, list_all}
use Rattle.heesch_grid.specs.declared.Cell.{Cell}
use Rattle.heesch_grid.specs.Alike.{kinds_alike}
use Rattle.heesch_grid.specs.Neighbours.{table_test, table_near, table_turns, corners_near, cells_turn, table_back}
use Rattle.heesch_grid.specs.Listing.{is_rising}
use Rattle.heesch_grid.specs.Cells.{cell, same_cell, cell_before}
use Rattle.heesch_grid.specs.Vectors.{box_of}
use Rattle.heesch_grid.specs.Pattern.{Pattern, Kind, Turn, grid_of, identity, composed, inverted}
use Rattle.heesch_grid.specs.Lists.{all_below, all_at}
use Rattle.heesch_grid.specs.Pairs.{small_turn, turn_after, turn_eq, eq_turn}

-- turn k of the pattern
abbrev pub turn_at : Pattern → ℕ → Turn
turn_at p k = get_or p.turns k identity

-- whether `composed` gives a turn whose coefficients are those of one turn after the other
abbrev pub compose_test : Pattern → Bool
compose_test p =
    let n = p.rotations in
    let size = length p.turns in
    all_below (λ k. all_below (λ l. nat_lt (composed n k l) size && turn_eq (turn_at p (composed n k l)) (turn_after (turn_at p l) (turn_at p k))) size) size

-- whether `inverted` gives a turn that undoes each turn
abbrev pub inverse_test : Pattern → Bool
inverse_test p =
    let n = p.rotations in
    let size = length p.turns in
    all_below (λ k. nat_lt (inverted n k) size && (composed n k (inverted n k) == 0 && composed n (inverted n k) k == 0)) size

-- the lengths and the order of the tables
abbrev pub tables_fit : Pattern → (Kind → List Cell) → ℕ → Bool
tables_fit p table n = list_all (λ k. length (table k) == n && is_rising cell_before (table k)) p.kinds

-- whether each kind has an adjacent difference on this side
abbrev pub sides_test : Pattern → (Cell → Bool) → Bool
sides_test p side = list_all (λ k. list_any side k.adjacent) p.kinds

-- the four sides
abbrev pub goes_right : Cell → Bool
goes_right x = int_lt (pos 0) x.a

abbrev pub goes_left : Cell → Bool
goes_left x = int_lt x.a (pos 0)

abbrev pub goes_up : Cell → Bool
goes_up x = int_lt (pos 0) x.b

abbrev pub goes_down : Cell → Bool
goes_down x = int_lt x.b (pos 0)

-- how many shared corners make cells adjacent
abbrev pub is_two : ℕ → Bool
is_two n = n == 2

-- and how many make them touch
abbrev pub is_some_number : ℕ → Bool
is_some_number n = nat_lt 0 n

-- whether the cells of the list differ
abbrev pub all_differ : List Cell → Bool
all_differ [] = true
all_differ (x ∷ xs) = list_all (λ y. not (same_cell x y)) xs && all_differ xs

-- whether the cell lies in the first square of side `unit`
abbrev pub in_block_test : Pattern → Cell → Bool
in_block_test p c = (grid_of p).is_cell c && (int_le (pos 0) c.a && (int_lt c.a (pos p.unit) && (int_le (pos 0) c.b && int_lt c.b (pos p.unit))))

-- what the tests say; `pattern_laws` turns it into the laws of a grid
pub record Tests (p : Pattern) : Type 0 where
  pub unit_low : 1 ≤ p.unit
  pub unit_high : p.unit ≤ 6
  pub scale_low : 1 ≤ p.scale
  pub per_low : 1 ≤ length p.kinds
  pub per_high : length p.kinds ≤ 6
  pub per_exact : length (filter (grid_of p).is_cell (box_of p.unit p.unit)) ≡ length p.kinds
  pub block_rises : is_rising cell_before (filter (grid_of p).is_cell (box_of p.unit p.unit)) ≡ true
  pub block_within : list_all (in_block_test p) (filter (grid_of p).is_cell (box_of p.unit p.unit)) ≡ true
  pub turns_low : 1 ≤ length p.turns
  pub turns_high : length p.turns ≤ 12
  pub half_turn_below : p.half_turn < length p.turns
  pub half_turn_is : turn_at p p.half_turn ≡ record { new_a = cell (negsuc 0) (pos 0); new_b = cell (pos 0) (negsuc 0) }
  pub turn_0_is : turn_at p 0 ≡ identity
  pub small_turns : list_all small_turn p.turns ≡ true
  pub composes : compose_test p ≡ true
  pub inverts : inverse_test p ≡ true
  pub cells_turn : cells_turn p ≡ true
  pub kinds_alike : kinds_alike p ≡ true
  pub corners_near : corners_near p ≡ true
  pub corners_differ : list_all (λ k. all_differ k.corners) p.kinds ≡ true
  pub adjacent_high : p.adjacent_count ≤ 12
  pub touching_high : p.touching_count ≤ 12
  pub adjacent_fits : tables_fit p (λ k. k.adjacent) p.adjacent_count ≡ true
  pub touching_fits : tables_fit p (λ k. k.touching) p.touching_count ≡ true
  pub adjacent_near : table_near p (λ k. k.adjacent) ≡ true
  pub touching_near : table_near p (λ k. k.touching) ≡ true
  pub adjacent_turns : table_turns p (λ k. k.adjacent) ≡ true
  pub touching_turns : table_turns p (λ k. k.touching) ≡ true
  pub adjacent_back : table_back p (λ k. k.adjacent) ≡ true
  pub touching_back : table_back p (λ k. k.touching) ≡ true
  pub adjacent_test : table_test p (λ k. k.adjacent) is_two ≡ true
  pub touching_test : table_test p (λ k. k.touching) is_some_number ≡ true
  pub right : sides_test p goes_right ≡ true
  pub left : sides_test p goes_left ≡ true
  pub above : sides_test p goes_up ≡ true
  pub below : sides_test p goes_down ≡ true

-- the tests of a pattern, in the order of `Tests`
abbrev pub tests : Pattern → List Bool
tests p =
    leb 1 p.unit ∷
    leb p.unit 6 ∷
    leb 1 p.scale ∷
    leb 1 (length p.kinds) ∷
    leb (length p.kinds) 6 ∷
    (length (filter (grid_of p).is_cell (box_of p.unit p.unit)) == length p.kinds) ∷
    is_rising cell_before (filter (grid_of p).is_cell (box_of p.unit p.unit)) ∷
    list_all (in_block_test p) (filter (grid_of p).is_cell (box_of p.unit p.unit)) ∷
    leb 1 (length p.turns) ∷
    leb (length p.turns) 12 ∷
    nat_lt p.half_turn (length p.turns) ∷
    turn_eq (turn_at p p.half_turn) (record { new_a = cell (negsuc 0) (pos 0); new_b = cell (pos 0) (negsuc 0) }) ∷
    turn_eq (turn_at p 0) identity ∷
    list_all small_turn p.turns ∷
    compose_test p ∷
    inverse_test p ∷
    cells_turn p ∷
    kinds_alike p ∷
    corners_near p ∷
    list_all (λ k. all_differ k.corners) p.kinds ∷
    leb p.adjacent_count 12 ∷
    leb p.touching_count 12 ∷
    tables_fit p (λ k. k.adjacent) p.adjacent_count ∷
    tables_fit p (λ k. k.touching) p.touching_count ∷
    table_near p (λ k. k.adjacent) ∷
    table_near p (λ k. k.touching) ∷
    table_turns p (λ k. k.adjacent) ∷
    table_turns p (λ k. k.touching) ∷
    table_back p (λ k. k.adjacent) ∷
    table_back p (λ k. k.touching) ∷
    table_test p (λ k. k.adjacent) is_two ∷
    table_test p (λ k. k.touching) is_some_number ∷
    sides_test p goes_right ∷
    sides_test p goes_left ∷
    sides_test p goes_up ∷
    sides_test p goes_down ∷
    []

-- whether a pattern passes them all
abbrev pub passes : Pattern → Bool
passes p = list_all (λ b. b) (tests p)

-- what a pattern that passes them has
pub passed : (p : Pattern) → passes p ≡ true → Tests p
passed p h = record {
  unit_low = leb-true 1 p.unit (at 0 (lit< tt));
  unit_high = leb-true p.unit 6 (at 1 (lit< tt));
  scale_low = leb-true 1 p.scale (at 2 (lit< tt));
  per_low = leb-true 1 (length p.kinds) (at 3 (lit< tt));
  per_high = leb-true (length p.kinds) 6 (at 4 (lit< tt));
  per_exact = eqb-true (length (filter (grid_of p).is_cell (box_of p.unit p.unit))) (length p.kinds) (at 5 (lit< tt));
  block_rises = at 6 (lit< tt);
  block_within = at 7 (lit< tt);
  turns_low = leb-true 1 (length p.turns) (at 8 (lit< tt));
  turns_high = leb-true (length p.turns) 12 (at 9 (lit< tt));
  half_turn_below = ltb-true p.half_turn (length p.turns) (at 10 (lit< tt));
  half_turn_is = eq_turn (turn_at p p.half_turn) (record { new_a = cell (negsuc 0) (pos 0); new_b = cell (pos 0) (negsuc 0) }) (at 11 (lit< tt));
  turn_0_is = eq_turn (turn_at p 0) identity (at 12 (lit< tt));
  small_turns = at 13 (lit< tt);
  composes = at 14 (lit< tt);
  inverts = at 15 (lit< tt);
  cells_turn = at 16 (lit< tt);
  kinds_alike = at 17 (lit< tt);
  corners_near = at 18 (lit< tt);
  corners_differ = at 19 (lit< tt);
  adjacent_high = leb-true p.adjacent_count 12 (at 20 (lit< tt));
  touching_high = leb-true p.touching_count 12 (at 21 (lit< tt));
  adjacent_fits = at 22 (lit< tt);
  touching_fits = at 23 (lit< tt);
  adjacent_near = at 24 (lit< tt);
  touching_near = at 25 (lit< tt);
  adjacent_turns = at 26 (lit< tt);
  touching_turns = at 27 (lit< tt);
  adjacent_back = at 28 (lit< tt);
  touching_back = at 29 (lit< tt);
  adjacent_test = at 30 (lit< tt);
  touching_test = at 31 (lit< tt);
  right = at 32 (lit< tt);
  left = at 33 (lit< tt);
  above = at 34 (lit< tt);
  below = at 35 (lit< tt);
}
  where
    at : (k : ℕ) → k < 36 → get_or (tests p) k true ≡ true
    at k below = all_at (λ b. b) (tests p) k true h below
