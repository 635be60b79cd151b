-- How many reduced cells there are, and so how many tiles a periodic cover has.
use Rattle.std.proofs.Common.{◌≡◌, refl, sym, ap, subst, ◌∙◌, ℕ, zero, suc, ◌+◌, ◌*◌, ◌<◌, ◌≤◌, zero-le, mul_comm, ◌⊎◌, List, [], ◌∷◌, ◌++◌, map, filter, length, Bool, true, false, cond, inl, inr, arith, All, Contains}
use Rattle.std.specs.Prelude.{ℤ, pos, negsuc, neg_ℤ, ◌+ℤ◌, ◌*ℤ◌, ◌≤ℤ◌, ◌<ℤ◌}
use Rattle.std.proofs.Math.Nat.{suc-mul, zero-mul, mul_assoc}
use Rattle.std.proofs.lemmas.Int.{ints}
use Rattle.std.proofs.lemmas.Bool.{cases_order}
use Rattle.std.proofs.lemmas.List.{length-append}
use Rattle.std.proofs.lemmas.List.Elements.{All-contains, Contains-append_left, Contains-append_right}
use lib.IntN.{*ℤ-zero}
use Rattle.heesch_grid.specs.declared.Cell.{Cell}
use Rattle.heesch_grid.specs.declared.isometries.Iso.{Iso}
use Rattle.heesch_grid.specs.Cells.{same_cell}
use Rattle.heesch_grid.specs.Pairs.{Cell-eta, same_cell-is, same_cell-true}
use Rattle.heesch_grid.specs.Geometry.{Geometry, IsCell, IsIsometry, apply, image, moved, IsGrid}
use Rattle.heesch_grid.specs.Polyform.{floor_div, IsPolyform}
use Rattle.heesch_grid.specs.Lattice.{Triple, IsTriple, IsReduced, IsTripleOfDomain}
use Rattle.heesch_grid.specs.Tiling.{IsPeriodicCover}
use Rattle.heesch_grid.proofs.ListFacts.{member_cases, member_here, member_there, no_member, member_filter}
use Rattle.heesch_grid.proofs.WindowFacts.{map_member, member_map}
use Rattle.heesch_grid.proofs.CanonicalFacts.{Rounds, floor_rounds, floor_moved}
use Rattle.heesch_grid.proofs.ReductionFacts.{floor_small, is_reduced}
use Rattle.heesch_grid.proofs.IsometryFacts.{moved_twice, moved_none}
use Rattle.heesch_tiling.specs.Counting.{residue, tile_cells, residues, times_in}
use Rattle.heesch_tiling.proofs.Distinct.{Distinct, append_member, distinct_append, distinct_map, one_passes}
use Rattle.heesch_tiling.proofs.Covers.{rising_distinct, covers_once}
use Rattle.heesch_tiling.proofs.Steps.{map_length}

-- ---- lists without repeats that have the same members have the same length
module _ {X : Type 0} where
  -- where an element stands
  record StandsIn (ys : List X) (x : X) : Type 0 where
    front : List X
    back : List X
    is : ys ≡ front ++ x ∷ back

  stands_in : (ys : List X) (x : X) → Contains ys x → StandsIn ys x
  stands_in [] x m = absurd (no_member x m)
  stands_in (y ∷ ys) x m =
      elim (member_cases y ys x m) [
        | inl e ↦ record { front = []; back = ys; is = ap (λ z. z ∷ ys) e }
        | inr k ↦ let r = stands_in ys x k in record { front = y ∷ r.front; back = r.back; is = ap (λ zs. y ∷ zs) r.is }
      ]

  still_there : (front back : List X) (x y : X) → Contains (front ++ x ∷ back) y → (x ≡ y → ⊥) → Contains (front ++ back) y
  still_there front back x y m other =
      append_member front (x ∷ back) y m
      (λ k. Contains-append_left front back y k)
      (λ k. elim (member_cases x back y k) [
        | inl e ↦ absurd (other e)
        | inr h ↦ Contains-append_right front back y h
      ])

  pub not_longer : (xs ys : List X) → Distinct xs → ((x : X) → Contains xs x → Contains ys x) → length xs ≤ length ys
  not_longer [] ys d f = zero-le
  not_longer (x ∷ xs) ys d f =
      let r = stands_in ys x (f x (member_here x xs)) in
      let rest = not_longer xs (r.front ++ r.back) d.1 (λ y m. still_there r.front r.back x y (subst (λ l. Contains l y) r.is (f y (member_there x xs y m))) (λ e. d.0 (subst (λ z. Contains xs z) (sym e) m))) in
      let whole : length ys ≡ length r.front + suc (length r.back) = ap (λ (l : List X). length l) r.is ∙ length-append r.front (x ∷ r.back) in
      let less : length (r.front ++ r.back) ≡ length r.front + length r.back = length-append r.front r.back in
      omega (arith, rest, whole, less)

-- ---- a list in which no member stands twice
some_length : (xs : List Cell) (c : Cell) → Contains xs c → 1 ≤ length xs
some_length [] c m = absurd (no_member c m)
some_length (x ∷ xs) c m = omega arith

pub times_some : (xs : List Cell) (c : Cell) → Contains xs c → 1 ≤ times_in xs c
times_some xs c m = some_length (filter (same_cell c) xs) c (member_filter (same_cell c) xs c m (same_cell-is c c refl))

pub times_more : (x : Cell) (xs : List Cell) (c : Cell) → times_in xs c ≤ times_in (x ∷ xs) c
times_more x xs c = more (same_cell c x)
  where
    more : (b : Bool) → times_in xs c ≤ length (cond b (x ∷ filter (same_cell c) xs) (filter (same_cell c) xs))
    more true = omega arith
    more false = omega arith

pub times_first : (x : Cell) (xs : List Cell) → times_in (x ∷ xs) x ≡ suc (times_in xs x)
times_first x xs = ap (λ b. length (cond b (x ∷ filter (same_cell x) xs) (filter (same_cell x) xs))) (same_cell-is x x refl)

distinct_by_times : (xs : List Cell) → ((c : Cell) → Contains xs c → times_in xs c ≤ 1) → Distinct xs
distinct_by_times [] f = tt
distinct_by_times (x ∷ xs) f = (
  (λ m. let one = f x (member_here x xs) in let some = times_some xs x m in let e = times_first x xs in absurd (omega (arith, one, some, e))),
  distinct_by_times xs (λ c m. let one = f c (member_there x xs c m) in let l = times_more x xs c in omega (arith, one, l)),
)

-- ---- the cells of a block of units
last_or_before : (i n : ℕ) → i < suc n → (i ≡ n) ⊎ (i < n)
last_or_before i n l =
    elim (cases_order i n) [
      | inl e ↦ inl e
      | inr o ↦ elim o [ inl less ↦ inr less | inr more ↦ absurd (omega (arith, l, more)) ]
    ]

natural : (z : ℤ) (n : ℕ) → pos 0 ≤ℤ z → z <ℤ pos n → (i : ℕ) × (i < n) × (z ≡ pos i)
natural (pos a) n l h = (a, omega (arith, ints, h), refl)
natural (negsuc a) n l h = absurd (omega (arith, ints, l))

module _ (g : Geometry) (law : IsGrid g) where
  -- the cells of the first unit
  abbrev block : List Cell
  block = law.block.0

  -- the cell is one of the unit (i, j)
  record IsOfUnit (i j : ℕ) (c : Cell) : Type 0 where
    in_grid : IsCell g c
    at_a : floor_div c.a g.unit ≡ pos i
    at_b : floor_div c.b g.unit ≡ pos j

  abbrev piece : ℕ → ℕ → List Cell
  piece i j = map (moved g (pos i) (pos j)) block

  abbrev row : ℕ → ℕ → List Cell
  row zero j = []
  row (suc n) j = row n j ++ piece n j

  abbrev rows : ℕ → ℕ → List Cell
  rows p zero = []
  rows p (suc n) = rows p n ++ row p n

  row_length : (n j : ℕ) → length (row n j) ≡ n * g.per
  row_length zero j = sym (zero-mul g.per)
  row_length (suc n) j =
      let e = length-append (row n j) (piece n j) in
      let m = map_length (moved g (pos n) (pos j)) block in
      let b : length block ≡ g.per = law.block.2 in
      let r = row_length n j in
      let s = suc-mul n g.per in
      omega (arith, e, m, b, r, s)

  rows_length : (p n : ℕ) → length (rows p n) ≡ n * (p * g.per)
  rows_length p zero = sym (zero-mul (p * g.per))
  rows_length p (suc n) =
      let e = length-append (rows p n) (row p n) in
      let m = row_length p n in
      let r = rows_length p n in
      let s = suc-mul n (p * g.per) in
      omega (arith, e, m, r, s)

  moved_cell : (x y : ℤ) (c : Cell) → IsCell g c → IsCell g (moved g x y c)
  moved_cell x y c h =
      let by : Iso = record { turn = 0; da = x; db = y } in
      subst (λ z. IsCell g (moved g x y z)) (law.identity c) (law.cells_kept by law.turns_range.0 c h)

  unit_of : (c : Cell) (i j : ℕ) → Contains block c → IsOfUnit i j (moved g (pos i) (pos j) c)
  unit_of c i j m =
      let h = All-contains (λ c. IsCell g c × (pos 0 ≤ℤ c.a) × (c.a <ℤ pos g.unit) × (pos 0 ≤ℤ c.b) × (c.b <ℤ pos g.unit)) block c law.block.1.only m in
      record {
        in_grid = moved_cell (pos i) (pos j) c h.0;
        at_a = floor_moved c.a (pos i) g.unit law.unit_range.0 ∙ ap (λ z. z +ℤ pos i) (floor_small c.a g.unit law.unit_range.0 h.1 h.2) ∙ plus_none i;
        at_b = floor_moved c.b (pos j) g.unit law.unit_range.0 ∙ ap (λ z. z +ℤ pos j) (floor_small c.b g.unit law.unit_range.0 h.3 h.4) ∙ plus_none j;
      }
    where
      plus_none : (n : ℕ) → pos 0 +ℤ pos n ≡ pos n
      plus_none n = omega (arith, ints)

  piece_in : (i j : ℕ) (c : Cell) → Contains (piece i j) c → IsOfUnit i j c
  piece_in i j c m = let r = map_member (moved g (pos i) (pos j)) block c m in subst (λ z. IsOfUnit i j z) r.2 (unit_of r.0 i j r.1)

  -- a number that rounds to n, n less
  first_of : (z : ℤ) (n : ℕ) → floor_div z g.unit ≡ pos n → (pos 0 ≤ℤ (z +ℤ pos g.unit *ℤ neg_ℤ (pos n))) × ((z +ℤ pos g.unit *ℤ neg_ℤ (pos n)) <ℤ pos g.unit)
  first_of z n e =
      let w : ℤ = z +ℤ pos g.unit *ℤ neg_ℤ (pos n) in
      let zero_is : floor_div w g.unit ≡ pos 0 = floor_moved z (neg_ℤ (pos n)) g.unit law.unit_range.0 ∙ ap (λ q. q +ℤ neg_ℤ (pos n)) e ∙ gone (pos n) in
      let r : Rounds w g.unit (pos 0) = subst (λ q. Rounds w g.unit q) zero_is (floor_rounds w g.unit law.unit_range.0) in
      (low w (pos g.unit *ℤ pos 0) (*ℤ-zero (pos g.unit)) r.low, high w (pos g.unit *ℤ pos 0) (*ℤ-zero (pos g.unit)) r.high)
    where
      gone : (x : ℤ) → x +ℤ neg_ℤ x ≡ pos 0
      gone x = omega (arith, ints)

      low : (w u : ℤ) → u ≡ pos 0 → u ≤ℤ w → pos 0 ≤ℤ w
      low w u e l = omega (arith, ints, e, l)

      high : (w u : ℤ) → u ≡ pos 0 → w <ℤ (u +ℤ pos g.unit) → w <ℤ pos g.unit
      high w u e l = omega (arith, ints, e, l)

  has_piece : (i j : ℕ) (c : Cell) → IsOfUnit i j c → Contains (piece i j) c
  has_piece i j c h =
      let b : Cell = moved g (neg_ℤ (pos i)) (neg_ℤ (pos j)) c in
      let a_range = first_of c.a i h.at_a in
      let b_range = first_of c.b j h.at_b in
      let inside : Contains block b = law.block.1.every b (moved_cell (neg_ℤ (pos i)) (neg_ℤ (pos j)) c h.in_grid, a_range.0, a_range.1, b_range.0, b_range.1) in
      let back : moved g (pos i) (pos j) b ≡ c = moved_twice g law (neg_ℤ (pos i)) (neg_ℤ (pos j)) (pos i) (pos j) c ∙ moved_none g law (neg_ℤ (pos i) +ℤ pos i) (neg_ℤ (pos j) +ℤ pos j) c (gone (pos i)) (gone (pos j)) in
      subst (λ z. Contains (piece i j) z) back (member_map (moved g (pos i) (pos j)) block b inside)
    where
      gone : (x : ℤ) → neg_ℤ x +ℤ x ≡ pos 0
      gone x = omega (arith, ints)

  row_in : (n j : ℕ) (c : Cell) → Contains (row n j) c → (i : ℕ) × (i < n) × IsOfUnit i j c
  row_in zero j c m = absurd (no_member c m)
  row_in (suc n) j c m =
      append_member (row n j) (piece n j) c m
      (λ k. let r = row_in n j c k in let l : r.0 < n = r.1 in (r.0, omega (arith, l), r.2))
      (λ k. (n, omega arith, piece_in n j c k))

  has_row : (n j i : ℕ) (c : Cell) → i < n → IsOfUnit i j c → Contains (row n j) c
  has_row zero j i c l h = absurd (omega (arith, l))
  has_row (suc n) j i c l h =
      elim (last_or_before i n l) [
        | inl e ↦ Contains-append_right (row n j) (piece n j) c (has_piece n j c (subst (λ k. IsOfUnit k j c) e h))
        | inr less ↦ Contains-append_left (row n j) (piece n j) c (has_row n j i c less h)
      ]

  rows_in : (p n : ℕ) (c : Cell) → Contains (rows p n) c → (j : ℕ) × (j < n) × ((i : ℕ) × (i < p) × IsOfUnit i j c)
  rows_in p zero c m = absurd (no_member c m)
  rows_in p (suc n) c m =
      append_member (rows p n) (row p n) c m
      (λ k. let r = rows_in p n c k in let l : r.0 < n = r.1 in (r.0, omega (arith, l), r.2))
      (λ k. (n, omega arith, row_in p n c k))

  has_rows : (p n j i : ℕ) (c : Cell) → j < n → i < p → IsOfUnit i j c → Contains (rows p n) c
  has_rows p zero j i c l k h = absurd (omega (arith, l))
  has_rows p (suc n) j i c l k h =
      elim (last_or_before j n l) [
        | inl e ↦ Contains-append_right (rows p n) (row p n) c (has_row p n i c k (subst (λ z. IsOfUnit i z c) e h))
        | inr less ↦ Contains-append_left (rows p n) (row p n) c (has_rows p n j i c less k h)
      ]

  one_unit : (i j : ℕ) → pos i ≡ pos j → i ≡ j
  one_unit i j e = omega (arith, ints, e)

  piece_distinct : (i j : ℕ) → Distinct (piece i j)
  piece_distinct i j = distinct_map (moved g (pos i) (pos j)) block (λ x y m k e. Cell-eta x y (same x.a y.a (pos g.unit *ℤ pos i) (ap (λ (c : Cell). c.a) e)) (same x.b y.b (pos g.unit *ℤ pos j) (ap (λ (c : Cell). c.b) e))) (rising_distinct block law.block.1.rising)
    where
      same : (x y z : ℤ) → x +ℤ z ≡ y +ℤ z → x ≡ y
      same x y z e = omega (arith, ints, e)

  row_distinct : (n j : ℕ) → Distinct (row n j)
  row_distinct zero j = tt
  row_distinct (suc n) j =
      distinct_append (row n j) (piece n j) (row_distinct n j) (piece_distinct n j)
      (λ c m k. let r = row_in n j c m in let l : r.0 < n = r.1 in let e = one_unit r.0 n (sym r.2.at_a ∙ (piece_in n j c k).at_a) in absurd (omega (arith, l, e)))

  rows_distinct : (p n : ℕ) → Distinct (rows p n)
  rows_distinct p zero = tt
  rows_distinct p (suc n) =
      distinct_append (rows p n) (row p n) (rows_distinct p n) (row_distinct p n)
      (λ c m k. let r = rows_in p n c m in let l : r.0 < n = r.1 in let e = one_unit r.0 n (sym r.2.2.at_b ∙ (row_in p n c k).2.at_b) in absurd (omega (arith, l, e)))

  -- ---- the reduced cells, and the cells of tiles
  module _ (shape : List Cell) (form : IsPolyform g shape) (t : Triple) (triple : IsTriple t) (places : List Iso) (isometries : All (IsIsometry g) places) where
    reduced_in : (c : Cell) → IsReduced g t c → Contains (rows t.p t.q) c
    reduced_in c r =
        let a = natural (floor_div c.a g.unit) t.p r.a_from r.a_below in
        let b = natural (floor_div c.b g.unit) t.q r.b_from r.b_below in
        has_rows t.p t.q b.0 a.0 c b.1 a.1 (record { in_grid = r.in_grid; at_a = a.2; at_b = b.2 })

    in_reduced : (c : Cell) → Contains (rows t.p t.q) c → IsReduced g t c
    in_reduced c m =
        let r = rows_in t.p t.q c m in
        let u = r.2.2 in
        let i_low : r.2.0 < t.p = r.2.1 in
        let j_low : r.0 < t.q = r.1 in
        record {
          in_grid = u.in_grid;
          a_from = subst (λ z. pos 0 ≤ℤ z) (sym u.at_a) (from r.2.0);
          a_below = subst (λ z. z <ℤ pos t.p) (sym u.at_a) (below r.2.0 t.p i_low);
          b_from = subst (λ z. pos 0 ≤ℤ z) (sym u.at_b) (from r.0);
          b_below = subst (λ z. z <ℤ pos t.q) (sym u.at_b) (below r.0 t.q j_low);
        }
      where
        from : (i : ℕ) → pos 0 ≤ℤ pos i
        from i = omega (arith, ints)

        below : (i n : ℕ) → i < n → pos i <ℤ pos n
        below i n l = omega (arith, ints, l)

    tiles_in_grid : (at : List Iso) → All (IsIsometry g) at → (c : Cell) → Contains (tile_cells g shape at) c → IsCell g c
    tiles_in_grid [] p c m = absurd (no_member c m)
    tiles_in_grid (by ∷ at) p c m =
        append_member (image g by shape) (tile_cells g shape at) c m
        (λ k. let r = map_member (apply g by) shape c k in subst (λ z. IsCell g z) r.2 (law.cells_kept by (All-contains (IsIsometry g) (by ∷ at) by p (member_here by at)) r.0 (All-contains (IsCell g) shape r.0 form.is_set.in_grid r.1)))
        (λ k. tiles_in_grid at (λ k d l. p (suc k) d (omega (arith, l))) c k)

    tiles_length : (at : List Iso) → length (tile_cells g shape at) ≡ length at * length shape
    tiles_length [] = sym (zero-mul (length shape))
    tiles_length (by ∷ at) =
        let e = length-append (image g by shape) (tile_cells g shape at) in
        let m = map_length (apply g by) shape in
        let r = tiles_length at in
        let s = suc-mul (length at) (length shape) in
        omega (arith, e, m, r, s)

    abbrev all_residues : List Cell
    all_residues = residues g shape t places

    residue_in : (c : Cell) → Contains all_residues c → IsReduced g t c
    residue_in c m = let r = map_member (residue g t) (tile_cells g shape places) c m in subst (λ z. IsReduced g t z) r.2 (is_reduced g law t triple r.0 (tiles_in_grid places isometries r.0 r.1))

    pub fills : IsPeriodicCover g shape t places → IsTripleOfDomain g (length shape) (length places) t
    fills cover =
        let once = covers_once g law shape form t triple places isometries cover in
        let apart : Distinct all_residues = distinct_by_times all_residues (λ c m. let e = once c (residue_in c m) in omega (arith, e)) in
        let every : (c : Cell) → IsReduced g t c → Contains all_residues c = λ c r. let o = one_passes (same_cell c) all_residues (once c r) in subst (λ z. Contains all_residues z) (sym (same_cell-true c o.it o.passes)) o.inside in
        let few = not_longer all_residues (rows t.p t.q) apart (λ c m. reduced_in c (residue_in c m)) in
        let many = not_longer (rows t.p t.q) all_residues (rows_distinct t.p t.q) (λ c m. every c (in_reduced c m)) in
        let count : length all_residues ≡ length places * length shape = map_length (residue g t) (tile_cells g shape places) ∙ tiles_length places in
        let area = rows_length t.p t.q in
        let turned : t.q * (t.p * g.per) ≡ g.per * (t.p * t.q) = sym (mul_assoc t.q t.p g.per) ∙ mul_comm (t.q * t.p) g.per ∙ ap (λ z. g.per * z) (mul_comm t.q t.p) in
        let other = mul_comm (length places) (length shape) in
        record { is_triple = triple; area = omega (arith, few, many, count, area, turned, other) }
