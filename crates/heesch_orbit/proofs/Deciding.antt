-- The tiles themselves decide whether an isometry is a symmetry, and two tiles are in one class where a symmetry takes one exactly to the other.
use Rattle.std.proofs.Common.{◌≡◌, refl, sym, ap, subst, ◌∙◌, ℕ, zero, suc, ◌<◌, List, map, arith}
use Rattle.std.specs.Prelude.{ℤ, pos, negsuc, neg_ℤ, ◌+ℤ◌, ◌*ℤ◌}
use Rattle.std.proofs.Math.IntN.{suc_ℤ-*ℤ, *ℤ-zero, zero-*ℤ}
use Rattle.std.proofs.lemmas.Int.{ints}
use Rattle.heesch_grid.specs.declared.Cell.{Cell}
use Rattle.heesch_grid.specs.declared.isometries.Iso.{Iso}
use Rattle.heesch_grid.specs.Cells.{cell}
use Rattle.heesch_grid.specs.Geometry.{Geometry, IsGrid, apply, image, moved}
use Rattle.heesch_grid.specs.Lattice.{Triple, IsTriple, translated}
use Rattle.heesch_grid.specs.Pairs.{Cell-eta}
use Rattle.heesch_grid.specs.Symmetry.{IsSymmetry, InOneClass, TakesExactly}
use Rattle.heesch_grid.specs.Vectors.{plus, times, negated}
use Rattle.heesch_grid.proofs.Images.{turn_times}
use Rattle.heesch_grid.proofs.IsometryFacts.{Inverse, inverse_of, moved_twice, moved_none}
use Rattle.heesch_grid.proofs.ReductionFacts.{translated_twice, translated_none}
use Rattle.heesch_grid.proofs.SymmetryFacts.{symmetries_compose}
use Rattle.heesch_orbit.specs.Statements.{ClassesGoBothWays, ClassesTakeExactly, PlacesDecideSymmetries}
use Rattle.heesch_orbit.specs.Symmetries.{CarriesPlaces, IsSymmetryOfPlaces, shift, first_vector, second_vector}
use Rattle.heesch_orbit.proofs.Sets.{set_of, same_back, same_through, same_map, map_twice, map_same, map_square, followed, followed_is, shift_is, carried_moved}
use Rattle.heesch_orbit.proofs.Inverses.{followed_symmetry, same_symmetry, lattice_vector, lattice_symmetry, shift_symmetry, inverse_symmetry}

-- z times a pair
abbrev multiple : ℤ → Cell → Cell
multiple z v = cell (z *ℤ v.a) (z *ℤ v.b)

negative_product : (n : ℕ) (x : ℤ) → negsuc n *ℤ x ≡ neg_ℤ (pos (suc n) *ℤ x)
negative_product n x = omega (arith, ints)

module _ (g : Geometry) (law : IsGrid g) where
  turn_negated : (k : ℕ) → k < g.turns → (v : Cell) → g.turn k (negated v) ≡ negated (g.turn k v)
  turn_negated k l v =
      let none : plus v (negated v) ≡ times 0 v = Cell-eta (plus v (negated v)) (times 0 v) (omega (arith, ints)) (omega (arith, ints)) in
      let sum : plus (g.turn k v) (g.turn k (negated v)) ≡ times 0 (g.turn k v) = sym (law.additive k l v (negated v)) ∙ ap (g.turn k) none ∙ turn_times g law k 0 v l in
      Cell-eta (g.turn k (negated v)) (negated (g.turn k v)) (omega (arith, ints, ap (λ (z : Cell). z.a) sum)) (omega (arith, ints, ap (λ (z : Cell). z.b) sum))

  negative_multiple : (n : ℕ) (v : Cell) → multiple (negsuc n) v ≡ negated (times (suc n) v)
  negative_multiple n v = Cell-eta (multiple (negsuc n) v) (negated (times (suc n) v)) (negative_product n v.a) (negative_product n v.b)

  turn_multiple : (k : ℕ) → k < g.turns → (z : ℤ) (v : Cell) → g.turn k (multiple z v) ≡ multiple z (g.turn k v)
  turn_multiple k l (pos n) v = turn_times g law k n v l
  turn_multiple k l (negsuc n) v =
      ap (g.turn k) (negative_multiple n v)
      ∙ turn_negated k l (times (suc n) v)
      ∙ ap negated (turn_times g law k (suc n) v l)
      ∙ sym (negative_multiple n (g.turn k v))

module _ (g : Geometry) (law : IsGrid g) (shape : List Cell) (t : Triple) (triple : IsTriple t) (places : List Iso) where
  none_moved : (c : Cell) → translated g t (pos 0) (pos 0) c ≡ c
  none_moved c = translated_none g law t triple (pos 0) (pos 0) c refl refl

  carries_places : (by : Iso) → IsSymmetry g shape t places by → CarriesPlaces g shape t places by
  carries_places by p from m =
      let r = p.carries from m (pos 0) (pos 0) in
      let xs : List Cell = image g from shape in (
        r.0,
        r.1,
        record {
          i = r.2.i;
          j = r.2.j;
          same = same_through (image g by xs) (image g by (map (translated g t (pos 0) (pos 0)) xs)) (map (translated g t r.2.i r.2.j) (image g r.0 shape)) (set_of (image g by xs) (image g by (map (translated g t (pos 0) (pos 0)) xs)) (ap (image g by) (sym (map_same (translated g t (pos 0) (pos 0)) none_moved xs)))) r.2.same;
        },
      )

  -- ---- translations that are symmetries

  shift_sum : (u v : Cell) → IsSymmetry g shape t places (shift u) → IsSymmetry g shape t places (shift v) → IsSymmetry g shape t places (shift (plus u v))
  shift_sum u v p q =
      same_symmetry g law shape t triple places (followed g (shift u) (shift v)) (shift (plus u v)) (followed_symmetry g law shape t triple places (shift u) (shift v) p q) law.turns_range.0
      (λ c. shift_is g law (plus u v) c ∙ sym (moved_twice g law u.a u.b v.a v.b c) ∙ sym (followed_is g law (shift u) (shift v) p.is_isometry q.is_isometry c ∙ shift_is g law v (apply g (shift u) c) ∙ ap (moved g v.a v.b) (shift_is g law u c)))

  shift_negated : (v : Cell) → IsSymmetry g shape t places (shift v) → IsSymmetry g shape t places (shift (negated v))
  shift_negated v p =
      inverse_symmetry g law shape t triple places (shift v) (shift (negated v)) p law.turns_range.0
      (λ c. shift_is g law (negated v) (apply g (shift v) c) ∙ ap (moved g (neg_ℤ v.a) (neg_ℤ v.b)) (shift_is g law v c) ∙ moved_twice g law v.a v.b (neg_ℤ v.a) (neg_ℤ v.b) c ∙ moved_none g law (v.a +ℤ neg_ℤ v.a) (v.b +ℤ neg_ℤ v.b) c (omega (arith, ints)) (omega (arith, ints)))

  shift_times : (v : Cell) → IsSymmetry g shape t places (shift v) → (n : ℕ) → IsSymmetry g shape t places (shift (times n v))
  shift_times v p zero = subst (λ w. IsSymmetry g shape t places (shift w)) none (symmetries_compose g shape t places law triple).nothing
    where
      none : cell (pos 0) (pos 0) ≡ times 0 v
      none = Cell-eta (cell (pos 0) (pos 0)) (times 0 v) (sym (zero-*ℤ v.a)) (sym (zero-*ℤ v.b))
  shift_times v p (suc n) = subst (λ w. IsSymmetry g shape t places (shift w)) next (shift_sum (times n v) v (shift_times v p n) p)
    where
      next : plus (times n v) v ≡ times (suc n) v
      next = Cell-eta (plus (times n v) v) (times (suc n) v) (sym (suc_ℤ-*ℤ (pos n) v.a)) (sym (suc_ℤ-*ℤ (pos n) v.b))

  shift_multiple : (v : Cell) → IsSymmetry g shape t places (shift v) → (z : ℤ) → IsSymmetry g shape t places (shift (multiple z v))
  shift_multiple v p (pos n) = shift_times v p n
  shift_multiple v p (negsuc n) = subst (λ w. IsSymmetry g shape t places (shift w)) (sym (negative_multiple g law n v)) (shift_negated (times (suc n) v) (shift_times v p (suc n)))

  -- ---- under the turn of a symmetry a translation that is a symmetry stays one

  turned_symmetry : (by : Iso) (v : Cell) → IsSymmetry g shape t places by → IsSymmetry g shape t places (shift v) → IsSymmetry g shape t places (shift (g.turn by.turn v))
  turned_symmetry by v p q =
      let back : Inverse g law by = inverse_of g law by p.is_isometry in
      let back_is : IsSymmetry g shape t places back.by = inverse_symmetry g law shape t triple places by back.by p back.is_isometry back.undoes in
      let two : Iso = followed g back.by (shift v) in
      let two_is : IsSymmetry g shape t places two = followed_symmetry g law shape t triple places back.by (shift v) back_is q in
      let three : Iso = followed g two by in
      let three_is : IsSymmetry g shape t places three = followed_symmetry g law shape t triple places two by two_is p in
      let w : Cell = g.turn by.turn v in
      same_symmetry g law shape t triple places three (shift w) three_is law.turns_range.0
      (λ c.
      let z : Cell = apply g back.by c in
      shift_is g law w c
      ∙ ap (moved g w.a w.b) (sym (back.undone c))
      ∙ sym (carried_moved g law by p.is_isometry v z)
      ∙ ap (apply g by) (sym (followed_is g law back.by (shift v) back.is_isometry q.is_isometry c ∙ shift_is g law v z))
      ∙ sym (followed_is g law two by two_is.is_isometry p.is_isometry c))

  first_is : first_vector t ≡ lattice_vector g law shape t triple places (pos 1) (pos 0)
  first_is = Cell-eta (first_vector t) (lattice_vector g law shape t triple places (pos 1) (pos 0)) (omega (arith, ints)) (omega (arith, ints))

  second_is : second_vector t ≡ lattice_vector g law shape t triple places (pos 0) (pos 1)
  second_is = Cell-eta (second_vector t) (lattice_vector g law shape t triple places (pos 0) (pos 1)) (omega (arith, ints)) (omega (arith, ints))

  by_places : (by : Iso) → IsSymmetry g shape t places by → IsSymmetryOfPlaces g shape t places by
  by_places by p = record {
    is_isometry = p.is_isometry;
    carries = carries_places by p;
    lattice = record {
      first = carries_places (shift (g.turn by.turn (first_vector t))) (turned_symmetry by (first_vector t) p (subst (λ w. IsSymmetry g shape t places (shift w)) (sym first_is) (lattice_symmetry g law shape t triple places (pos 1) (pos 0))));
      second = carries_places (shift (g.turn by.turn (second_vector t))) (turned_symmetry by (second_vector t) p (subst (λ w. IsSymmetry g shape t places (shift w)) (sym second_is) (lattice_symmetry g law shape t triple places (pos 0) (pos 1))));
    };
  }

  -- ---- and back

  vector_is : (i j : ℤ) → lattice_vector g law shape t triple places i j ≡ plus (multiple i (first_vector t)) (multiple j (second_vector t))
  vector_is i j = Cell-eta (lattice_vector g law shape t triple places i j) (plus (multiple i (first_vector t)) (multiple j (second_vector t))) refl (none (i *ℤ pos 0) (j *ℤ pos t.q) (*ℤ-zero i))
    where
      none : (x y : ℤ) → x ≡ pos 0 → y ≡ x +ℤ y
      none x y e = omega (arith, ints)

  turned_vector : (k : ℕ) → k < g.turns → (i j : ℤ) → g.turn k (lattice_vector g law shape t triple places i j) ≡ plus (multiple i (g.turn k (first_vector t))) (multiple j (g.turn k (second_vector t)))
  turned_vector k l i j =
      ap (g.turn k) (vector_is i j)
      ∙ law.additive k l (multiple i (first_vector t)) (multiple j (second_vector t))
      ∙ (λ n. plus (turn_multiple g law k l i (first_vector t) n) (turn_multiple g law k l j (second_vector t) n))

  from_places : (by : Iso) → IsSymmetryOfPlaces g shape t places by → IsSymmetry g shape t places by
  from_places by p = record {
    is_isometry = p.is_isometry;
    carries = λ from m i j.
        let v : Cell = lattice_vector g law shape t triple places i j in
        let w : Cell = g.turn by.turn v in
        let f : Cell = g.turn by.turn (first_vector t) in
        let h : Cell = g.turn by.turn (second_vector t) in
        let w_is : IsSymmetry g shape t places (shift w) = subst (λ z. IsSymmetry g shape t places (shift z)) (sym (turned_vector by.turn p.is_isometry i j)) (shift_sum (multiple i f) (multiple j h) (shift_multiple f (of_places f p.lattice.first) i) (shift_multiple h (of_places h p.lattice.second) j)) in
        let r = p.carries from m in
        let s = w_is.carries r.0 r.1 r.2.i r.2.j in
        let xs : List Cell = image g from shape in
        let ys : List Cell = map (translated g t r.2.i r.2.j) (image g r.0 shape) in (
          s.0,
          s.1,
          record {
            i = s.2.i;
            j = s.2.j;
            same = same_through (image g by (map (translated g t i j) xs)) (image g (shift w) (image g by xs)) (map (translated g t s.2.i s.2.j) (image g s.0 shape))
                (set_of (image g by (map (translated g t i j) xs)) (image g (shift w) (image g by xs)) (map_square (apply g by) (translated g t i j) (apply g (shift w)) (apply g by) (λ c. carried_moved g law by p.is_isometry v c ∙ sym (shift_is g law w (apply g by c))) xs))
                (same_through (image g (shift w) (image g by xs)) (image g (shift w) ys) (map (translated g t s.2.i s.2.j) (image g s.0 shape)) (same_map (apply g (shift w)) (image g by xs) ys r.2.same) s.2.same);
          },
        );
  }
    where
      of_places : (v : Cell) → CarriesPlaces g shape t places (shift v) → IsSymmetry g shape t places (shift v)
      of_places v = shift_symmetry g law shape t triple places v

  -- ---- classes

  takes_exactly : (from to : Iso) → InOneClass g shape t places from to → (by : Iso) × TakesExactly g shape t places from to by
  takes_exactly from to (x, x_is, carries) =
      let v : Cell = lattice_vector g law shape t triple places (neg_ℤ carries.i) (neg_ℤ carries.j) in
      let v_is : IsSymmetry g shape t places (shift v) = lattice_symmetry g law shape t triple places (neg_ℤ carries.i) (neg_ℤ carries.j) in
      let by : Iso = followed g x (shift v) in
      let xs : List Cell = image g from shape in
      let ys : List Cell = image g to shape in
      let moved_ys : List Cell = map (translated g t carries.i carries.j) ys in (
        by,
        record {
          is_symmetry = followed_symmetry g law shape t triple places x (shift v) x_is v_is;
          same = same_through (image g by xs) (image g (shift v) (image g x xs)) ys
              (set_of (image g by xs) (image g (shift v) (image g x xs)) (sym (map_twice (apply g (shift v)) (apply g x) (apply g by) (λ c. sym (followed_is g law x (shift v) x_is.is_isometry v_is.is_isometry c)) xs)))
              (same_through (image g (shift v) (image g x xs)) (image g (shift v) moved_ys) ys
              (same_map (apply g (shift v)) (image g x xs) moved_ys carries.same)
              (set_of (image g (shift v) moved_ys) ys (back carries.i carries.j ys)));
        },
      )
    where
      none : (x : ℤ) → x +ℤ neg_ℤ x ≡ pos 0
      none x = omega (arith, ints)

      back : (i j : ℤ) (zs : List Cell) → image g (shift (lattice_vector g law shape t triple places (neg_ℤ i) (neg_ℤ j))) (map (translated g t i j) zs) ≡ zs
      back i j zs =
          map_twice (apply g (shift (lattice_vector g law shape t triple places (neg_ℤ i) (neg_ℤ j)))) (translated g t i j) (λ c. c)
          (λ c. shift_is g law (lattice_vector g law shape t triple places (neg_ℤ i) (neg_ℤ j)) (translated g t i j c) ∙ translated_twice g law t triple i j (neg_ℤ i) (neg_ℤ j) c ∙ translated_none g law t triple (i +ℤ neg_ℤ i) (j +ℤ neg_ℤ j) c (none i) (none j))
          zs
          ∙ map_same (λ c. c) (λ c. refl) zs

  in_class : (from to by : Iso) → TakesExactly g shape t places from to by → InOneClass g shape t places from to
  in_class from to by p =
      let ys : List Cell = image g to shape in (
        by,
        p.is_symmetry,
        record {
          i = pos 0;
          j = pos 0;
          same = same_through (image g by (image g from shape)) ys (map (translated g t (pos 0) (pos 0)) ys) p.same (set_of ys (map (translated g t (pos 0) (pos 0)) ys) (sym (map_same (translated g t (pos 0) (pos 0)) none_moved ys)));
        },
      )

  both_ways : (from to : Iso) → InOneClass g shape t places from to → InOneClass g shape t places to from
  both_ways from to h =
      let r = takes_exactly from to h in
      let by : Iso = r.0 in
      let back : Inverse g law by = inverse_of g law by r.1.is_symmetry.is_isometry in
      let xs : List Cell = image g from shape in
      let ys : List Cell = image g to shape in
      in_class to from back.by (record {
        is_symmetry = inverse_symmetry g law shape t triple places by back.by r.1.is_symmetry back.is_isometry back.undoes;
        same = same_through (image g back.by ys) (image g back.by (image g by xs)) xs
            (same_map (apply g back.by) ys (image g by xs) (same_back (image g by xs) ys r.1.same))
            (set_of (image g back.by (image g by xs)) xs (map_twice (apply g back.by) (apply g by) (λ c. c) back.undoes xs ∙ map_same (λ c. c) (λ c. refl) xs));
      })

pub places_decide_symmetries : PlacesDecideSymmetries
places_decide_symmetries g shape t places by law triple = (by_places g law shape t triple places by, from_places g law shape t triple places by)

pub classes_take_exactly : ClassesTakeExactly
classes_take_exactly g shape t places from to law triple = (takes_exactly g law shape t triple places from to, (λ h. in_class g law shape t triple places from to h.0 h.1))

pub classes_go_both_ways : ClassesGoBothWays
classes_go_both_ways g shape t places from to law triple = both_ways g law shape t triple places from to
