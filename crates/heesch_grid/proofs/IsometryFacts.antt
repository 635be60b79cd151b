-- Isometries of a grid: composites, inverses, and what they keep.
use Rattle.std.proofs.Common.{◌≡◌, sym, ap, subst, ◌∙◌, ℕ, zero, suc, ◌<◌, List, length, arith, Contains}
use Rattle.std.specs.Prelude.{ℤ, pos, neg_ℤ, ◌+ℤ◌, ◌*ℤ◌}
use lib.IntN.{suc_ℤ-*ℤ, zero-*ℤ}
use Rattle.std.proofs.lemmas.Int.{ints}
use Rattle.std.proofs.lemmas.List.Elements.{All-contains}
use Rattle.heesch_grid.specs.declared.Cell.{Cell}
use Rattle.heesch_grid.specs.declared.isometries.Iso.{Iso}
use Rattle.heesch_grid.specs.Cells.{cell, origin}
use Rattle.heesch_grid.specs.Geometry.{Geometry, Adjacent, IsIsometry, moved, apply, image, IsGrid}
use Rattle.heesch_grid.specs.Polyform.{Joined, start, next, IsPolyform, IsImageOf}
use Rattle.heesch_grid.proofs.WindowFacts.{map_member, member_map}
use Rattle.heesch_grid.proofs.TileFacts.{placement_set, placement_cell}
use Rattle.heesch_grid.specs.Pairs.{Cell-eta}

pub scale_sum : (n : ℕ) (x y : ℤ) → pos n *ℤ (x +ℤ y) ≡ (pos n *ℤ x) +ℤ (pos n *ℤ y)
scale_sum zero x y = zero-*ℤ (x +ℤ y) ∙ sym (λ i. zero-*ℤ x i +ℤ zero-*ℤ y i)
scale_sum (suc n) x y =
    let h = scale_sum n x y in
    let a = suc_ℤ-*ℤ (pos n) (x +ℤ y) in
    let b = suc_ℤ-*ℤ (pos n) x in
    let c = suc_ℤ-*ℤ (pos n) y in
    a ∙ middle (pos n *ℤ (x +ℤ y)) (pos n *ℤ x) (pos n *ℤ y) h ∙ sym (λ i. b i +ℤ c i)
  where
    middle : (p q r : ℤ) → p ≡ q +ℤ r → p +ℤ (x +ℤ y) ≡ (q +ℤ x) +ℤ (r +ℤ y)
    middle p q r e = omega (arith, ints)

pub scale_neg : (n : ℕ) (x : ℤ) → pos n *ℤ neg_ℤ x ≡ neg_ℤ (pos n *ℤ x)
scale_neg zero x = zero-*ℤ (neg_ℤ x) ∙ sym (ap neg_ℤ (zero-*ℤ x))
scale_neg (suc n) x = suc_ℤ-*ℤ (pos n) (neg_ℤ x) ∙ middle (pos n *ℤ neg_ℤ x) (pos n *ℤ x) (scale_neg n x) ∙ sym (ap neg_ℤ (suc_ℤ-*ℤ (pos n) x))
  where
    middle : (p q : ℤ) → p ≡ neg_ℤ q → p +ℤ neg_ℤ x ≡ neg_ℤ (q +ℤ x)
    middle p q e = omega (arith, ints)

-- a cell, coordinate by coordinate
abbrev pub plus_cell : Cell → Cell → Cell
plus_cell c d = cell (c.a +ℤ d.a) (c.b +ℤ d.b)

abbrev pub scaled : ℕ → Cell → Cell
scaled n c = cell (pos n *ℤ c.a) (pos n *ℤ c.b)

abbrev pub opposite : Cell → Cell
opposite c = cell (neg_ℤ c.a) (neg_ℤ c.b)

double_zero : (x : ℤ) → x ≡ x +ℤ x → x ≡ pos 0
double_zero x e = omega (arith, ints)

module _ (g : Geometry) (law : IsGrid g) where
  turn_origin : (k : ℕ) → k < g.turns → g.turn k origin ≡ origin
  turn_origin k l =
      let sum = law.additive k l origin origin in
      Cell-eta (g.turn k origin) origin (double_zero (g.turn k origin).a (ap (λ (z : Cell). z.a) sum)) (double_zero (g.turn k origin).b (ap (λ (z : Cell). z.b) sum))

  turn_opposite : (k : ℕ) → k < g.turns → (c : Cell) → g.turn k (opposite c) ≡ opposite (g.turn k c)
  turn_opposite k l c =
      let none : plus_cell c (opposite c) ≡ origin = Cell-eta (plus_cell c (opposite c)) origin (omega (arith, ints)) (omega (arith, ints)) in
      let sum = sym (law.additive k l c (opposite c)) ∙ ap (g.turn k) none ∙ turn_origin k l in
      let at_a : (g.turn k c).a +ℤ (g.turn k (opposite c)).a ≡ pos 0 = ap (λ (z : Cell). z.a) sum in
      let at_b : (g.turn k c).b +ℤ (g.turn k (opposite c)).b ≡ pos 0 = ap (λ (z : Cell). z.b) sum in
      Cell-eta (g.turn k (opposite c)) (opposite (g.turn k c)) (omega (arith, ints)) (omega (arith, ints))

  turn_scaled : (k : ℕ) → k < g.turns → (n : ℕ) (c : Cell) → g.turn k (scaled n c) ≡ scaled n (g.turn k c)
  turn_scaled k l zero c =
      ap (g.turn k) (Cell-eta (scaled 0 c) origin (zero-*ℤ c.a) (zero-*ℤ c.b)) ∙ turn_origin k l ∙ sym (Cell-eta (scaled 0 (g.turn k c)) origin (zero-*ℤ (g.turn k c).a) (zero-*ℤ (g.turn k c).b))
  turn_scaled k l (suc n) c =
      ap (g.turn k) (Cell-eta (scaled (suc n) c) (plus_cell (scaled n c) c) (suc_ℤ-*ℤ (pos n) c.a) (suc_ℤ-*ℤ (pos n) c.b))
      ∙ law.additive k l (scaled n c) c
      ∙ ap (λ (z : Cell). plus_cell z (g.turn k c)) (turn_scaled k l n c)
      ∙ sym (Cell-eta (scaled (suc n) (g.turn k c)) (plus_cell (scaled n (g.turn k c)) (g.turn k c)) (suc_ℤ-*ℤ (pos n) (g.turn k c).a) (suc_ℤ-*ℤ (pos n) (g.turn k c).b))

  -- a turn of a moved cell
  turn_moved : (k : ℕ) → k < g.turns → (da db : ℤ) (c : Cell) → g.turn k (moved g da db c) ≡ moved g (g.turn k (cell da db)).a (g.turn k (cell da db)).b (g.turn k c)
  turn_moved k l da db c =
      law.additive k l c (scaled g.unit (cell da db)) ∙ ap (plus_cell (g.turn k c)) (turn_scaled k l g.unit (cell da db))

  pub moved_twice : (da db ea eb : ℤ) (c : Cell) → moved g ea eb (moved g da db c) ≡ moved g (da +ℤ ea) (db +ℤ eb) c
  moved_twice da db ea eb c = Cell-eta (moved g ea eb (moved g da db c)) (moved g (da +ℤ ea) (db +ℤ eb) c) (twice c.a da ea) (twice c.b db eb)
    where
      twice : (x d e : ℤ) → (x +ℤ pos g.unit *ℤ d) +ℤ pos g.unit *ℤ e ≡ x +ℤ pos g.unit *ℤ (d +ℤ e)
      twice x d e = step (pos g.unit *ℤ d) (pos g.unit *ℤ e) (pos g.unit *ℤ (d +ℤ e)) (scale_sum g.unit d e)
        where
          step : (p q r : ℤ) → r ≡ p +ℤ q → (x +ℤ p) +ℤ q ≡ x +ℤ r
          step p q r h = omega (arith, ints)

  -- one isometry after another is an isometry
  pub record Composite (first second : Iso) : Type 0 where
    pub by : Iso
    pub is_isometry : IsIsometry g by
    pub is : (c : Cell) → apply g by c ≡ apply g second (apply g first c)

  pub composite : (first second : Iso) → IsIsometry g first → IsIsometry g second → Composite first second
  composite first second p q =
      let m = law.compose first.turn second.turn p q in
      let w : Cell = g.turn second.turn (cell first.da first.db) in
      record {
        by = record { turn = g.compose first.turn second.turn; da = w.a +ℤ second.da; db = w.b +ℤ second.db };
        is_isometry = m.0;
        is = λ c.
            ap (moved g (w.a +ℤ second.da) (w.b +ℤ second.db)) (m.1 c)
            ∙ sym (moved_twice w.a w.b second.da second.db (g.turn second.turn (g.turn first.turn c)))
            ∙ sym (ap (moved g second.da second.db) (turn_moved second.turn q first.da first.db (g.turn first.turn c)));
      }

  -- and each has an inverse
  pub record Inverse (of : Iso) : Type 0 where
    pub by : Iso
    pub is_isometry : IsIsometry g by
    pub undoes : (c : Cell) → apply g by (apply g of c) ≡ c
    pub undone : (c : Cell) → apply g of (apply g by c) ≡ c

  pub moved_none : (da db : ℤ) (c : Cell) → da ≡ pos 0 → db ≡ pos 0 → moved g da db c ≡ c
  moved_none da db c p q = Cell-eta (moved g da db c) c (none c.a da p) (none c.b db q)
    where
      none : (x d : ℤ) → d ≡ pos 0 → x +ℤ pos g.unit *ℤ d ≡ x
      none x d e = step (pos g.unit *ℤ d) (ap (λ z. pos g.unit *ℤ z) e ∙ times_zero g.unit)
        where
          times_zero : (n : ℕ) → pos n *ℤ pos 0 ≡ pos 0
          times_zero n = let h = scale_sum n (pos 0) (pos 0) in double_zero (pos n *ℤ pos 0) h

          step : (p : ℤ) → p ≡ pos 0 → x +ℤ p ≡ x
          step p h = omega (arith, ints)

  pub inverse_of : (of : Iso) → IsIsometry g of → Inverse of
  inverse_of of p =
      let l = law.inverse of.turn p in
      let w : Cell = g.turn (g.inverse of.turn) (cell of.da of.db) in
      let back : g.turn of.turn w ≡ cell of.da of.db = (l.1 (cell of.da of.db)).1 in
      let v : Cell = g.turn of.turn (opposite w) in
      let v_is : v ≡ cell (neg_ℤ of.da) (neg_ℤ of.db) = turn_opposite of.turn p w ∙ ap opposite back in
      let v_a : v.a ≡ neg_ℤ of.da = ap (λ (z : Cell). z.a) v_is in
      let v_b : v.b ≡ neg_ℤ of.db = ap (λ (z : Cell). z.b) v_is in
      record {
        by = record { turn = g.inverse of.turn; da = neg_ℤ w.a; db = neg_ℤ w.b };
        is_isometry = l.0;
        undoes = λ c.
            ap (moved g (neg_ℤ w.a) (neg_ℤ w.b)) (turn_moved (g.inverse of.turn) l.0 of.da of.db (g.turn of.turn c))
            ∙ moved_twice w.a w.b (neg_ℤ w.a) (neg_ℤ w.b) (g.turn (g.inverse of.turn) (g.turn of.turn c))
            ∙ moved_none (w.a +ℤ neg_ℤ w.a) (w.b +ℤ neg_ℤ w.b) (g.turn (g.inverse of.turn) (g.turn of.turn c)) (omega (arith, ints)) (omega (arith, ints))
            ∙ (l.1 c).0;
        undone = λ c.
            ap (moved g of.da of.db) (turn_moved of.turn p (neg_ℤ w.a) (neg_ℤ w.b) (g.turn (g.inverse of.turn) c))
            ∙ moved_twice v.a v.b of.da of.db (g.turn of.turn (g.turn (g.inverse of.turn) c))
            ∙ moved_none (v.a +ℤ of.da) (v.b +ℤ of.db) (g.turn of.turn (g.turn (g.inverse of.turn) c)) (omega (arith, ints)) (omega (arith, ints))
            ∙ (l.1 c).1;
      }

  pub injective : (by : Iso) → IsIsometry g by → (c d : Cell) → apply g by c ≡ apply g by d → c ≡ d
  injective by p c d e = let k : Inverse by = inverse_of by p in sym (k.undoes c) ∙ ap (apply g k.by) e ∙ k.undoes d

  pub adjacent_kept : (by : Iso) → IsIsometry g by → (c d : Cell) → Adjacent g c d → Adjacent g (apply g by c) (apply g by d)
  adjacent_kept = law.adjacent_kept

  -- an image of a polyform is a polyform
  path_image : (by : Iso) → IsIsometry g by → (xs ys : List Cell) → ((c : Cell) → Contains xs c → Contains ys (apply g by c)) → (c d : Cell) → Joined g xs c d → Joined g ys (apply g by c) (apply g by d)
  path_image by p xs ys f c d start = start
  path_image by p xs ys f c d (next {d = e} q adjacent in_set) = next (path_image by p xs ys f c e q) (adjacent_kept by p e d adjacent) (f d in_set)

  pub image_polyform : (xs ys : List Cell) → IsPolyform g xs → IsImageOf g xs ys → IsPolyform g ys
  image_polyform xs ys form i = record {
    is_set = placement_set g law xs ys form i;
    some = some;
    joined = joined;
  }
    where
      to : (c : Cell) → Contains xs c → Contains ys (apply g i.by c)
      to c m = i.is_list.every (apply g i.by c) (member_map (apply g i.by) xs c m)

      some : 0 < length ys
      some = let r = placement_cell g law xs ys form i in let l = r.1.1 in omega arith

      joined : (c d : Cell) → Contains ys c → Contains ys d → Joined g ys c d
      joined c d m n =
          let r = map_member (apply g i.by) xs c (All-contains (λ c. Contains (image g i.by xs) c) ys c i.is_list.only m) in
          let q = map_member (apply g i.by) xs d (All-contains (λ c. Contains (image g i.by xs) c) ys d i.is_list.only n) in
          subst (λ z. Joined g ys z d) r.2 (subst (λ z. Joined g ys (apply g i.by r.0) z) q.2 (path_image i.by i.is_isometry xs ys to r.0 q.0 (form.joined r.0 q.0 r.1 q.1)))
