-- The cells around a moved tile are those around it, moved.
use Rattle.std.proofs.Common.{◌≡◌, refl, sym, ap, subst, ℕ, List, [], ◌∷◌, map, ℤ, pos, neg_ℤ, ◌*ℤ◌, arith, Contains}
use Rattle.std.proofs.lemmas.Int.{ints}
use Rattle.std.proofs.lemmas.List.Elements.{All-contains}
use Rattle.heesch_grid.specs.declared.Cell.{Cell}
use Rattle.heesch_grid.specs.declared.isometries.Iso.{Iso}
use Rattle.heesch_grid.specs.Lists.{rising_by_test}
use Rattle.heesch_grid.specs.Listing.{ListsExactly}
use Rattle.heesch_grid.specs.Cells.{cell, cell_before, IsCellListOf}
use Rattle.heesch_grid.specs.Geometry.{Geometry, IsGrid, IsAround, Touching, apply, image}
use Rattle.heesch_grid.specs.Vectors.{IsWithin, plus}
use Rattle.heesch_grid.proofs.GridFacts.{touching_near}
use Rattle.heesch_grid.specs.Integers.{mul_neg}
use Rattle.heesch_grid.specs.Pairs.{Cell-eta}
use Rattle.heesch_grid.specs.PatternLaws.{rises_moved}
use Rattle.heesch_grid.proofs.ListFacts.{All-from_members}
use Rattle.heesch_grid.proofs.WindowFacts.{member_map, map_member}
use Rattle.heesch_shape.proofs.Words.{rising_test}
use Rattle.heesch_place.specs.Steps.{IsFirstOf}
use Rattle.heesch_place.proofs.Moves.{move_of, must_move}
use Rattle.heesch_encode.specs.declared.around.TurnedRing.{TurnedRing}
use Rattle.heesch_encode.specs.Rings.{IsTurnedRing, AreRings}

abbrev still : ℕ → Iso
still k = record { turn = k; da = pos 0; db = pos 0 }

-- a turn without a translation
still_cell : (g : Geometry) (k : ℕ) (c : Cell) → apply g (still k) c ≡ g.turn k c
still_cell g k c = Cell-eta (apply g (still k) c) (g.turn k c) (omega (arith, ints)) (omega (arith, ints))

pub still_image : (g : Geometry) (k : ℕ) (xs : List Cell) → image g (still k) xs ≡ map (g.turn k) xs
still_image g k [] = refl
still_image g k (x ∷ xs) = λ i. still_cell g k x i ∷ still_image g k xs i

plus_back : (v c d : Cell) → plus v c ≡ plus v d → c ≡ d
plus_back v c d e = let a = ap (λ z. z.a) e in let b = ap (λ z. z.b) e in Cell-eta c d (omega (arith, ints, a)) (omega (arith, ints, b))

module _ (g : Geometry) (law : IsGrid g) where
  slid : (da db : ℤ) (c : Cell) → apply g (record { turn = 0; da = da; db = db }) c ≡ plus (cell (pos g.unit *ℤ da) (pos g.unit *ℤ db)) c
  slid da db c =
      let e = law.identity c in
      let a = ap (λ z. z.a) e in
      let b = ap (λ z. z.b) e in
      Cell-eta (apply g (record { turn = 0; da = da; db = db }) c) (plus (cell (pos g.unit *ℤ da) (pos g.unit *ℤ db)) c) (omega (arith, ints, a)) (omega (arith, ints, b))

  touch_slid : (da db : ℤ) (c d : Cell) → Touching g c d → Touching g (plus (cell (pos g.unit *ℤ da) (pos g.unit *ℤ db)) c) (plus (cell (pos g.unit *ℤ da) (pos g.unit *ℤ db)) d)
  touch_slid da db c d t =
      let some = law.turns_range.0 in
      subst (Touching g (plus (cell (pos g.unit *ℤ da) (pos g.unit *ℤ db)) c)) (slid da db d)
      (subst (λ z. Touching g z (apply g (record { turn = 0; da = da; db = db }) d)) (slid da db c) (law.touching_kept (record { turn = 0; da = da; db = db }) (omega (arith, some)) c d t))

  module _ (da db : ℤ) where
    abbrev v : Cell
    v = cell (pos g.unit *ℤ da) (pos g.unit *ℤ db)

    abbrev w : Cell
    w = cell (pos g.unit *ℤ neg_ℤ da) (pos g.unit *ℤ neg_ℤ db)

    there : (c : Cell) → plus v (plus w c) ≡ c
    there c =
        let p = mul_neg (pos g.unit) da in
        let q = mul_neg (pos g.unit) db in
        Cell-eta (plus v (plus w c)) c (omega (arith, ints, p)) (omega (arith, ints, q))

    back : (c : Cell) → plus w (plus v c) ≡ c
    back c =
        let p = mul_neg (pos g.unit) da in
        let q = mul_neg (pos g.unit) db in
        Cell-eta (plus w (plus v c)) c (omega (arith, ints, p)) (omega (arith, ints, q))

    pub ring_moved : (tile ring : List Cell) → ListsExactly cell_before (IsAround g tile) ring → ListsExactly cell_before (IsAround g (map (plus v) tile)) (map (plus v) ring)
    ring_moved tile ring l = record {
      rising = rising_by_test cell_before (map (plus v) ring) (rises_moved v ring (rising_test cell_before ring l.rising));
      only = All-from_members (IsAround g (map (plus v) tile)) (map (plus v) ring) (λ d m.
          let c = map_member (plus v) ring d m in
          let a = All-contains (IsAround g tile) ring c.0 l.only c.1 in
          subst (IsAround g (map (plus v) tile)) c.2 (record {
            outside = λ k. let t = map_member (plus v) tile (plus v c.0) k in a.outside (subst (Contains tile) (plus_back v t.0 c.0 t.2) t.1);
            member = plus v a.member;
            inside = member_map (plus v) tile a.member a.inside;
            touching = touch_slid da db a.member c.0 a.touching;
          }));
      every = λ d a.
          let t = map_member (plus v) tile a.member a.inside in
          let c : Cell = plus w d in
          let touching : Touching g (plus v t.0) d = subst (λ z. Touching g z d) (sym t.2) a.touching in
          let m = l.every c (record {
            outside = λ k. a.outside (subst (Contains (map (plus v) tile)) (there d) (member_map (plus v) tile c k));
            member = t.0;
            inside = t.1;
            touching = subst (λ z. Touching g z c) (back t.0) (touch_slid (neg_ℤ da) (neg_ℤ db) (plus v t.0) d touching);
          }) in
          subst (Contains (map (plus v) ring)) (there d) (member_map (plus v) ring c m);
    }

  -- the ring of the turned shape, moved as the first cell is, is that of the placement
  pub placed_ring : (shape tile : List Cell) (by : Iso) (r : TurnedRing) (y s : Cell) → IsTurnedRing g shape by.turn r → IsCellListOf (image g by shape) tile → IsFirstOf tile y → plus s r.first ≡ y → ListsExactly cell_before (IsAround g tile) (map (plus s) r.ring.items)
  placed_ring shape tile by r y s ring gives first leads =
      let m = must_move g by.turn by shape ring.turned tile r.first y s refl (subst (λ zs. IsCellListOf zs ring.turned) (still_image g by.turn shape) ring.list) gives ring.first first leads in
      let moved : ListsExactly cell_before (IsAround g (map (plus (move_of g by)) ring.turned)) (map (plus (move_of g by)) r.ring.items) = ring_moved by.da by.db ring.turned r.ring.items ring.ring in
      subst (λ zs. ListsExactly cell_before (IsAround g zs) (map (plus s) r.ring.items)) (sym m.1) (subst (λ z. ListsExactly cell_before (IsAround g (map (plus z) ring.turned)) (map (plus z) r.ring.items)) m.0 moved)

  -- a cell that touches one near 0
  pub reach_within : (c d : Cell) → Touching g c d → IsWithin 1000000 c → IsWithin 1000004 d
  reach_within c d t w =
      let near = touching_near g law c d t in
      record {
        a_low = let p = w.a_low in let q = near.a_low in omega (arith, ints, p, q);
        a_high = let p = w.a_high in let q = near.a_high in omega (arith, ints, p, q);
        b_low = let p = w.b_low in let q = near.b_low in omega (arith, ints, p, q);
        b_high = let p = w.b_high in let q = near.b_high in omega (arith, ints, p, q);
      }

-- the rings of a shape are those of the universe's
pub same_rings : (g : Geometry) (shape other : List Cell) (rings now : List TurnedRing) → other ≡ shape → now ≡ rings → AreRings g shape rings → AreRings g other now
same_rings g shape other rings now s e r = subst (AreRings g other) (sym e) (subst (λ zs. AreRings g zs rings) (sym s) r)
