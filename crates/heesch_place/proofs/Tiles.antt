-- Tiles of spots: whole steps, placements by their spots, and tiles in the order of their spots.
use Rattle.std.proofs.Common.{◌≡◌, refl, sym, ap, ◌∙◌, subst, ℕ, ◌≤◌, ℤ, pos, ◌+ℤ◌, ◌*ℤ◌, neg_ℤ, ◌≤ℤ◌, ◌<ℤ◌, Bool, true, ◌&&◌, ◌||◌, List, [], ◌∷◌, map, length, Contains, inl, inr, arith}
use Rattle.std.specs.Prelude.{nat_lt, IsTrue}
use Rattle.std.specs.List.{list_any}
use Rattle.std.proofs.lemmas.Int.{ints}
use Rattle.std.proofs.lemmas.Bool.{and_from, and_parts, or_cases, ltb-true}
use Rattle.std.proofs.lemmas.List.Elements.{All-contains}
use Rattle.heesch_grid.specs.declared.Cell.{Cell}
use Rattle.heesch_grid.specs.Cells.{cell, cell_before, cells_before, same_cell}
use Rattle.heesch_grid.specs.Geometry.{Geometry, IsGrid}
use Rattle.heesch_grid.specs.Integers.{divides_multiple, mul_add, mul_neg, quotient}
use Rattle.heesch_grid.specs.Listing.{IsRising, ListsExactly}
use Rattle.heesch_grid.specs.Pairs.{Cell-eta, or-left, or-right, same_cell-true, same_cell-is}
use Rattle.heesch_grid.specs.Placement.{IsPlacement}
use Rattle.heesch_grid.specs.Vectors.{plus, minus, negated}
use Rattle.heesch_grid.proofs.CanonicalFacts.{rounds_once}
use Rattle.heesch_grid.proofs.ListFacts.{All-from_members, member_here, member_there}
use Rattle.heesch_grid.proofs.WindowFacts.{map_member, member_map}
use Rattle.heesch_place.specs.declared.spots.Spot.{Spot}
use Rattle.heesch_place.specs.Found.{IsMoved}
use Rattle.heesch_place.specs.Spots.{AreForms, AreSpotsOf, IsInBlock, IsSpot, IsWhole, form_of, head_of, is_whole, shifted, spot_before, step_to, tile_at}
use Rattle.heesch_place.specs.Steps.{IsFirstOf}
use Rattle.heesch_place.proofs.Gathering.{any_default, member_at}
use Rattle.heesch_place.proofs.Moving.{head_moved, map_same, map_twice, placement_moved, scaled}
use Rattle.heesch_place.proofs.Numbering.{rising_at}

-- ---- whole steps
module _ (g : Geometry) where
  pub whole_plus : (m n : Cell) → IsWhole g m → IsWhole g n → IsWhole g (plus m n)
  whole_plus m n u v = (
    plus u.0 v.0,
    record {
      in_a = mul_add (pos g.unit) u.0.a v.0.a ∙ (λ i. u.1.in_a i +ℤ v.1.in_a i);
      in_b = mul_add (pos g.unit) u.0.b v.0.b ∙ (λ i. u.1.in_b i +ℤ v.1.in_b i);
    },
  )

  pub whole_negated : (m : Cell) → IsWhole g m → IsWhole g (negated m)
  whole_negated m u = (negated u.0, record { in_a = mul_neg (pos g.unit) u.0.a ∙ ap neg_ℤ u.1.in_a; in_b = mul_neg (pos g.unit) u.0.b ∙ ap neg_ℤ u.1.in_b })

  pub whole_scaled : (m : Cell) (u : IsWhole g m) → scaled g u.0 ≡ m
  whole_scaled m u = Cell-eta (scaled g u.0) m u.1.in_a u.1.in_b

  pub whole_test : IsGrid g → (m : Cell) → is_whole g m ≡ true → IsWhole g m
  unfolding is_whole
  whole_test law m h =
      let both = and_parts _ _ h in
      let a = quotient g.unit m.a law.unit_range.0 both.0 in
      let b = quotient g.unit m.b law.unit_range.0 both.1 in
      (cell a.0 b.0, record { in_a = sym a.1; in_b = sym b.1 })

  pub test_whole : (m : Cell) → IsWhole g m → is_whole g m ≡ true
  unfolding is_whole
  test_whole m u = and_from _ _ (divides_multiple g.unit m.a u.0.a (sym u.1.in_a)) (divides_multiple g.unit m.b u.0.b (sym u.1.in_b))

-- ---- tiles
pub any_moved : (p : Cell → Bool) (f : Cell → Cell) (xs : List Cell) → list_any p (map f xs) ≡ list_any (λ c. p (f c)) xs
any_moved p f [] = refl
any_moved p f (x ∷ xs) = ap (λ b. p (f x) || b) (any_moved p f xs)

module _ (forms : List (List Cell)) where
  -- the tile of a spot that lies further away
  pub tile_shifted : (m : Cell) (s : Spot) → tile_at forms (shifted m s) ≡ map (plus m) (tile_at forms s)
  tile_shifted m s =
      sym (map_twice (plus m) (plus (step_to forms s)) (plus (step_to forms (shifted m s))) (form_of forms s)
      (λ c. Cell-eta (plus m (plus (step_to forms s) c)) (plus (step_to forms (shifted m s)) c) (omega (arith, ints)) (omega (arith, ints))))

  -- a tile begins with the first cell of its spot
  pub tile_first : (s : Spot) → 1 ≤ length (form_of forms s) → IsFirstOf (tile_at forms s) s.first
  tile_first s some = go (form_of forms s) some
    where
      go : (form : List Cell) → 1 ≤ length form → IsFirstOf (map (plus (minus s.first (head_of form))) form) s.first
      go [] l = absurd (omega arith)
      go (x ∷ xs) l = record { rest = map (plus (minus s.first x)) xs; is = ap (λ z. z ∷ map (plus (minus s.first x)) xs) (Cell-eta (plus (minus s.first x) x) s.first (omega (arith, ints)) (omega (arith, ints))) }

pub shifted_back : (m : Cell) (s : Spot) → shifted m (shifted (negated m) s) ≡ s
shifted_back m s =
    let e : plus m (plus (negated m) s.first) ≡ s.first = Cell-eta (plus m (plus (negated m) s.first)) s.first (omega (arith, ints)) (omega (arith, ints)) in
    λ i. record { form = s.form; first = e i }

pub moved_back : (m : Cell) (xs : List Cell) → map (plus (negated m)) (map (plus m) xs) ≡ xs
moved_back m xs = map_twice (plus (negated m)) (plus m) (λ c. c) xs (λ c. Cell-eta (plus (negated m) (plus m c)) c (omega (arith, ints)) (omega (arith, ints))) ∙ map_same xs

module _ (g : Geometry) (forms : List (List Cell)) where
  pub spot_shifted : (m : Cell) (s : Spot) → IsWhole g m → IsSpot g forms s → IsSpot g forms (shifted m s)
  spot_shifted m s u h =
      let x = head_of (form_of forms s) in
      let e : plus m (minus s.first x) ≡ minus (plus m s.first) x = Cell-eta (plus m (minus s.first x)) (minus (plus m s.first) x) (omega (arith, ints)) (omega (arith, ints)) in
      record { inside = h.inside; whole = subst (IsWhole g) e (whole_plus g m (step_to forms s) u h.whole) }

  pub tile_moved : (s : Spot) → IsSpot g forms s → IsMoved g (form_of forms s) (tile_at forms s)
  tile_moved s h = record { units = h.whole.0; is = ap (λ m. map (plus m) (form_of forms s)) (sym (whole_scaled g (step_to forms s) h.whole)) }

  module _ (shape : List Cell) (is : AreForms g shape forms) where
    pub spot_placement : (s : Spot) → IsSpot g forms s → IsPlacement g shape (tile_at forms s)
    spot_placement s h = placement_moved g shape (form_of forms s) (tile_at forms s) (is.placed (form_of forms s) (member_at forms s.form [] h.inside)) (tile_moved s h)

    -- each placement is the tile of a spot
    pub placement_spot : (tile : List Cell) → IsPlacement g shape tile → (s : Spot) × IsSpot g forms s × (tile_at forms s ≡ tile)
    placement_spot tile p =
        let h = is.every tile p in
        let k = h.inside in
        let s : Spot = record { form = k.0; first = head_of tile } in
        let form : form_of forms s ≡ h.source = any_default forms k.0 [] h.source k.1 ∙ k.2 in
        let m = scaled g h.gives.units in
        let some = (is.begins h.source h.inside).some in
        let head : head_of tile ≡ plus m (head_of h.source) = ap head_of h.gives.is ∙ head_moved m h.source some in
        let away : minus (head_of tile) (head_of h.source) ≡ m = ap (λ z. minus z (head_of h.source)) head ∙ Cell-eta (minus (plus m (head_of h.source)) (head_of h.source)) m (omega (arith, ints)) (omega (arith, ints)) in
        let step : step_to forms s ≡ m = ap (λ f. minus (head_of tile) (head_of f)) form ∙ away in
        (s, record { inside = k.1; whole = subst (IsWhole g) (sym step) (h.gives.units, record { in_a = refl; in_b = refl }) }, (λ i. map (plus (step i)) (form i)) ∙ sym h.gives.is)

    -- ---- the order
    -- two first cells in the block that differ by whole units are one
    one_in_block : (u : ℕ) (x y z p q : ℤ) → (pos u *ℤ p) +ℤ x ≡ z → (pos u *ℤ q) +ℤ y ≡ z → pos 0 ≤ℤ x → x <ℤ pos u → pos 0 ≤ℤ y → y <ℤ pos u → x ≡ y
    one_in_block u x y z p q ex ey xl xh yl yh =
        let e = rounds_once z u p q (omega (arith, ints, xl, xh)) (record { low = omega (arith, ints, ex, xl); high = omega (arith, ints, ex, xh) }) (record { low = omega (arith, ints, ey, yl); high = omega (arith, ints, ey, yh) }) in
        let f = ap (λ n. pos u *ℤ n) e in
        omega (arith, ints, ex, ey, f)

    same_head : (x y c : Cell) → IsInBlock g x → IsInBlock g y → IsWhole g (minus c x) → IsWhole g (minus c y) → x ≡ y
    same_head x y c bx by wx wy =
        Cell-eta x y
        (one_in_block g.unit x.a y.a c.a wx.0.a wy.0.a (let e = wx.1.in_a in omega (arith, ints, e)) (let e = wy.1.in_a in omega (arith, ints, e)) bx.a_low bx.a_high by.a_low by.a_high)
        (one_in_block g.unit x.b y.b c.b wx.0.b wy.0.b (let e = wx.1.in_b in omega (arith, ints, e)) (let e = wy.1.in_b in omega (arith, ints, e)) bx.b_low bx.b_high by.b_low by.b_high)

    before_moved : (m x y : Cell) → cell_before x y ≡ true → cell_before (plus m x) (plus m y) ≡ true
    before_moved m x y h = grind (arith, ints)

    cells_moved : (m : Cell) (xs ys : List Cell) → cells_before xs ys ≡ true → cells_before (map (plus m) xs) (map (plus m) ys) ≡ true
    cells_moved m [] [] h = h
    cells_moved m [] (y ∷ ys) h = refl
    cells_moved m (x ∷ xs) [] h = h
    cells_moved m (x ∷ xs) (y ∷ ys) h = elim (or_cases (cell_before x y) (same_cell x y && cells_before xs ys) h) [
      | inl l ↦ or-left (cell_before (plus m x) (plus m y)) (same_cell (plus m x) (plus m y) && cells_before (map (plus m) xs) (map (plus m) ys)) (before_moved m x y l)
      | inr l ↦
          let both = and_parts (same_cell x y) (cells_before xs ys) l in
          or-right (cell_before (plus m x) (plus m y)) (same_cell (plus m x) (plus m y) && cells_before (map (plus m) xs) (map (plus m) ys))
          (and_from (same_cell (plus m x) (plus m y)) (cells_before (map (plus m) xs) (map (plus m) ys)) (same_cell-is (plus m x) (plus m y) (ap (plus m) (same_cell-true x y both.0))) (cells_moved m xs ys both.1))
    ]

    first_before : (s t : List Cell) (x y : Cell) → IsFirstOf s x → IsFirstOf t y → cell_before x y ≡ true → cells_before s t ≡ true
    first_before s t x y fs ft h =
        subst (λ zs. cells_before zs t ≡ true) (sym fs.is) (subst (λ zs. cells_before (x ∷ fs.rest) zs ≡ true) (sym ft.is)
        (or-left (cell_before x y) (same_cell x y && cells_before fs.rest ft.rest) h))

    pub tiles_before : (s t : Spot) → IsSpot g forms s → IsSpot g forms t → spot_before s t ≡ true → cells_before (tile_at forms s) (tile_at forms t) ≡ true
    tiles_before s t hs ht h =
        let bs = is.begins (form_of forms s) (member_at forms s.form [] hs.inside) in
        let bt = is.begins (form_of forms t) (member_at forms t.form [] ht.inside) in
        elim (or_cases (cell_before s.first t.first) (same_cell s.first t.first && nat_lt s.form t.form) h) [
          | inl l ↦ first_before (tile_at forms s) (tile_at forms t) s.first t.first (tile_first forms s bs.some) (tile_first forms t bt.some) l
          | inr l ↦
              let both = and_parts (same_cell s.first t.first) (nat_lt s.form t.form) l in
              let first = same_cell-true s.first t.first both.0 in
              let x = head_of (form_of forms s) in
              let y = head_of (form_of forms t) in
              let same : x ≡ y = same_head x y t.first bs.in_block bt.in_block (subst (λ c. IsWhole g (minus c x)) first hs.whole) ht.whole in
              let step : step_to forms s ≡ step_to forms t = λ i. minus (first i) (same i) in
              let order = rising_at cells_before forms is.rising s.form t.form [] (ltb-true s.form t.form both.1) ht.inside in
              subst (λ m. cells_before (map (plus m) (form_of forms s)) (tile_at forms t) ≡ true) (sym step) (cells_moved (step_to forms t) (form_of forms s) (form_of forms t) order)
        ]

    -- spots in order list their tiles
    rising_tiles : (spots : List Spot) → ((s : Spot) → Contains spots s → IsSpot g forms s) → IsRising spot_before spots → IsRising cells_before (map (tile_at forms) spots)
    rising_tiles [] f r = tt
    rising_tiles (s ∷ spots) f r = (
      All-from_members (λ y. IsTrue (cells_before (tile_at forms s) y)) (map (tile_at forms) spots) (λ y m.
          let t = map_member (tile_at forms) spots y m in
          subst (λ z. cells_before (tile_at forms s) z ≡ true) t.2 (tiles_before s t.0 (f s (member_here s spots)) (f t.0 (member_there s spots t.0 t.1)) (All-contains (λ y. IsTrue (spot_before s y)) spots t.0 r.0 t.1))),
      rising_tiles spots (λ t m. f t (member_there s spots t m)) r.1,
    )

    pub spots_of : (Q : Spot → Type 0) (P : List Cell → Type 0) (spots : List Spot) → ListsExactly spot_before Q spots → ((s : Spot) → Q s → IsSpot g forms s × P (tile_at forms s)) → ((t : List Cell) → P t → (s : Spot) × Q s × (tile_at forms s ≡ t)) → AreSpotsOf g forms P spots
    spots_of Q P spots l f h =
        let valid : (s : Spot) → Contains spots s → IsSpot g forms s = λ s m. (f s (All-contains Q spots s l.only m)).0 in
        record {
          are_spots = valid;
          listed = record {
            rising = rising_tiles spots valid l.rising;
            only = All-from_members P (map (tile_at forms) spots) (λ t m. let s = map_member (tile_at forms) spots t m in subst P s.2 (f s.0 (All-contains Q spots s.0 l.only s.1)).1);
            every = λ t p. let s = h t p in subst (Contains (map (tile_at forms) spots)) s.2 (member_map (tile_at forms) spots s.0 (l.every s.0 s.1));
          };
        }
