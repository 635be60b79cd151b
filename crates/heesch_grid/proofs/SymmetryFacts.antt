-- Sets under isometries of one turn, and the symmetries of a cover.
use Rattle.std.proofs.Common.{◌≡◌, refl, sym, ap, subst, ◌∙◌, ℕ, zero, suc, ◌≤◌, not-suc-le-zero, List, [], ◌∷◌, map, ◌⊎◌, inl, inr, arith, Contains}
use Rattle.std.specs.Prelude.{ℤ, pos, neg_ℤ, ◌+ℤ◌, ◌-ℤ◌, ◌*ℤ◌, ◌≤ℤ◌, ◌<ℤ◌}
use Rattle.std.proofs.Math.IntN.{zero-*ℤ, suc_ℤ-*ℤ}
use Rattle.std.proofs.lemmas.Int.{ints}
use Rattle.std.proofs.lemmas.List.Elements.{All-contains}
use Rattle.heesch_grid.specs.declared.Cell.{Cell}
use Rattle.heesch_grid.specs.declared.isometries.Iso.{Iso}
use Rattle.heesch_grid.specs.Cells.{SameCells}
use Rattle.heesch_grid.specs.Geometry.{Geometry, IsGrid, IsIsometry, apply, image, moved}
use Rattle.heesch_grid.specs.Integers.{mul_sub}
use Rattle.heesch_grid.specs.Lattice.{Triple, IsTriple, translated}
use Rattle.heesch_grid.specs.Tiling.{no_move}
use Rattle.heesch_grid.specs.Symmetry.{IsSymmetry, InOneClass}
use Rattle.heesch_grid.specs.Facts.{TranslationsAreDetermined, LeastIsometriesAreUnique, SymmetriesCompose}
use Rattle.heesch_grid.proofs.ListFacts.{member_cases, member_here, member_there, no_member}
use Rattle.heesch_grid.proofs.SortFacts.{compared}
use Rattle.heesch_grid.proofs.WindowFacts.{member_map, map_member}
use Rattle.heesch_grid.proofs.IsometryFacts.{Composite, composite, moved_none}
use Rattle.heesch_grid.proofs.ReductionFacts.{translated_twice, translated_none}

-- ---- a multiple of a positive number

multiple_from_0 : (n : ℕ) (z : ℤ) → pos 0 ≤ℤ z → pos 0 ≤ℤ (pos n *ℤ z)
multiple_from_0 zero z h = let e = zero-*ℤ z in omega (arith, ints, e)
multiple_from_0 (suc n) z h = let e = suc_ℤ-*ℤ (pos n) z in let r = multiple_from_0 n z h in omega (arith, ints, e, r)

multiple_from_1 : (n : ℕ) (z : ℤ) → 1 ≤ n → pos 1 ≤ℤ z → pos 1 ≤ℤ (pos n *ℤ z)
multiple_from_1 zero z l h = absurd (not-suc-le-zero l)
multiple_from_1 (suc n) z l h = let e = suc_ℤ-*ℤ (pos n) z in let r = multiple_from_0 n z (omega (arith, ints)) in omega (arith, ints, e, r)

below_by_multiple : (n : ℕ) (x y : ℤ) → 1 ≤ n → (pos n *ℤ x) ≤ℤ (pos n *ℤ y) → x ≤ℤ y
below_by_multiple n x y l h =
    elim (compared y x) [
      | inl less ↦ let m = multiple_from_1 n (x -ℤ y) l (omega (arith, ints)) in absurd (let e = mul_sub (pos n) x y in omega (arith, ints, e, m))
      | inr o ↦ elim o [ inl e ↦ omega (arith, ints) | inr more ↦ omega (arith, ints) ]
    ]

-- ---- the translation of an isometry

-- a member with the greatest value
record Greatest (f : Cell → ℤ) (xs : List Cell) : Type 0 where
  at : Cell
  member : Contains xs at
  bound : (y : Cell) → Contains xs y → f y ≤ℤ f at

greatest : (f : Cell → ℤ) (x : Cell) (xs : List Cell) → Greatest f (x ∷ xs)
greatest f x [] = record { at = x; member = member_here x []; bound = λ y m. elim (member_cases x [] y m) [ inl e ↦ let h = ap f e in omega (arith, ints, h) | inr n ↦ absurd (no_member y n) ] }
greatest f x (y ∷ ys) =
    let r : Greatest f (y ∷ ys) = greatest f y ys in
    elim (compared (f x) (f r.at)) [
      | inl less ↦ record { at = r.at; member = member_there x (y ∷ ys) r.at r.member; bound = λ z m. elim (member_cases x (y ∷ ys) z m) [ inl e ↦ let h = ap f e in omega (arith, ints, h) | inr n ↦ r.bound z n ] }
      | inr o ↦ record { at = x; member = member_here x (y ∷ ys); bound = λ z m. elim (member_cases x (y ∷ ys) z m) [ inl e ↦ let h = ap f e in omega (arith, ints, h) | inr n ↦ at_most z (r.bound z n) o ] }
    ]
  where
    at_most : {v w : ℤ} (z : Cell) → f z ≤ℤ v → (w ≡ v) ⊎ (v <ℤ w) → f z ≤ℤ w
    at_most z h o = elim o [ inl e ↦ omega (arith, ints, e, h) | inr l ↦ omega (arith, ints, l, h) ]

module _ (g : Geometry) (law : IsGrid g) where
  no_further : (x : Cell) (xs : List Cell) (by other : Iso) → by.turn ≡ other.turn → ((c : Cell) → Contains (image g other (x ∷ xs)) c → Contains (image g by (x ∷ xs)) c) → (other.da ≤ℤ by.da) × (other.db ≤ℤ by.db)
  no_further x xs by other same within = (
    below_by_multiple g.unit other.da by.da law.unit_range.0 (along (λ z. z.a) (λ i. i.da) (λ i z. refl)),
    below_by_multiple g.unit other.db by.db law.unit_range.0 (along (λ z. z.b) (λ i. i.db) (λ i z. refl)),
  )
    where
      along : (part : Cell → ℤ) (by_part : Iso → ℤ) → ((i : Iso) (z : Cell) → part (apply g i z) ≡ part (g.turn i.turn z) +ℤ pos g.unit *ℤ by_part i) → (pos g.unit *ℤ by_part other) ≤ℤ (pos g.unit *ℤ by_part by)
      along part by_part moves =
          let r : Greatest part (image g by (x ∷ xs)) = greatest part (apply g by x) (map (apply g by) xs) in
          let c = map_member (apply g by) (x ∷ xs) r.at r.member in
          let h : part (apply g other c.0) ≤ℤ part r.at = r.bound (apply g other c.0) (within (apply g other c.0) (member_map (apply g other) (x ∷ xs) c.0 c.1)) in
          let e : part (apply g by c.0) ≡ part r.at = ap part c.2 in
          let t : part (g.turn by.turn c.0) ≡ part (g.turn other.turn c.0) = ap (λ (k : ℕ). part (g.turn k c.0)) same in
          omega (arith, ints, h, e, t, moves other c.0, moves by c.0)

both_ways : (x y : ℤ) → x ≤ℤ y → y ≤ℤ x → y ≡ x
both_ways x y h k = omega (arith, ints)

pub translations_are_determined : TranslationsAreDetermined
translations_are_determined g [] by other law some same h = absurd (not-suc-le-zero some)
translations_are_determined g (x ∷ xs) by other law some same h =
    let f = no_further g law x xs by other same (λ c m. (h c).1 m) in
    let b = no_further g law x xs other by (sym same) (λ c m. (h c).0 m) in
    λ i. record { turn = same i; da = both_ways other.da by.da f.0 b.0 i; db = both_ways other.db by.db f.1 b.1 i }

pub least_isometries_are_unique : LeastIsometriesAreUnique
least_isometries_are_unique g shape tile by other law some p q =
    translations_are_determined g shape by other law some (same_turn (p.least other q.is_isometry q.gives) (q.least by p.is_isometry p.gives)) (λ c. ((λ m. All-contains (Contains (image g other shape)) tile c q.gives.only (p.gives.every c m)), (λ m. All-contains (Contains (image g by shape)) tile c p.gives.only (q.gives.every c m))))
  where
    same_turn : by.turn ≤ other.turn → other.turn ≤ by.turn → by.turn ≡ other.turn
    same_turn h k = omega arith

-- ---- sets of cells

set_of : (xs ys : List Cell) → xs ≡ ys → SameCells xs ys
set_of xs ys e c = ((λ m. subst (λ z. Contains z c) e m), (λ m. subst (λ z. Contains z c) (sym e) m))

same_through : (xs ys zs : List Cell) → SameCells xs ys → SameCells ys zs → SameCells xs zs
same_through xs ys zs h k c = ((λ m. (k c).0 ((h c).0 m)), (λ m. (h c).1 ((k c).1 m)))

same_map : (f : Cell → Cell) (xs ys : List Cell) → SameCells xs ys → SameCells (map f xs) (map f ys)
same_map f xs ys h c = ((λ m. forth xs ys (λ d n. (h d).0 n) m), (λ m. forth ys xs (λ d n. (h d).1 n) m))
  where
    forth : (xs ys : List Cell) → ((d : Cell) → Contains xs d → Contains ys d) → Contains (map f xs) c → Contains (map f ys) c
    forth xs ys k m = let r = map_member f xs c m in subst (λ z. Contains (map f ys) z) r.2 (member_map f ys r.0 (k r.0 r.1))

map_twice : (f h k : Cell → Cell) → ((c : Cell) → f (h c) ≡ k c) → (xs : List Cell) → map f (map h xs) ≡ map k xs
map_twice f h k e [] = refl
map_twice f h k e (x ∷ xs) = λ i. e x i ∷ map_twice f h k e xs i

map_same : (f : Cell → Cell) → ((c : Cell) → f c ≡ c) → (xs : List Cell) → map f xs ≡ xs
map_same f e [] = refl
map_same f e (x ∷ xs) = λ i. e x i ∷ map_same f e xs i

-- ---- symmetries

module _ (g : Geometry) (law : IsGrid g) (shape : List Cell) (t : Triple) (triple : IsTriple t) (places : List Iso) where
  still : (c : Cell) → apply g no_move c ≡ c
  still c = ap (moved g (pos 0) (pos 0)) (law.identity c) ∙ moved_none g law (pos 0) (pos 0) c refl refl

  -- the translation by a lattice vector
  abbrev by_vector : ℤ → ℤ → Iso
  by_vector i j = record { turn = 0; da = i *ℤ pos t.p +ℤ j *ℤ pos t.s; db = j *ℤ pos t.q }

  by_vector_is : (i j : ℤ) (c : Cell) → apply g (by_vector i j) c ≡ translated g t i j c
  by_vector_is i j c = ap (translated g t i j) (law.identity c)

  translation : (i j : ℤ) → IsSymmetry g shape t places (by_vector i j)
  translation i j = record {
    is_isometry = law.turns_range.0;
    carries = λ from m k l. (
      from,
      m,
      record {
        i = k +ℤ i;
        j = l +ℤ j;
        same = set_of (image g (by_vector i j) (map (translated g t k l) (image g from shape))) (map (translated g t (k +ℤ i) (l +ℤ j)) (image g from shape)) (map_twice (apply g (by_vector i j)) (translated g t k l) (translated g t (k +ℤ i) (l +ℤ j)) (λ c. by_vector_is i j (translated g t k l c) ∙ translated_twice g law t triple k l i j c) (image g from shape));
      },
    );
  }

  nothing : IsSymmetry g shape t places no_move
  nothing = record {
    is_isometry = law.turns_range.0;
    carries = λ from m i j. (from, m, record { i = i; j = j; same = set_of (image g no_move (map (translated g t i j) (image g from shape))) (map (translated g t i j) (image g from shape)) (map_same (apply g no_move) still (map (translated g t i j) (image g from shape))) });
  }

  -- the image under two isometries, from that under the first
  image_both : (first second both : Iso) → ((c : Cell) → apply g both c ≡ apply g second (apply g first c)) → (xs ys : List Cell) → SameCells (image g first xs) ys → SameCells (image g both xs) (image g second ys)
  image_both first second both is xs ys h =
      same_through (image g both xs) (image g second (image g first xs)) (image g second ys)
      (set_of (image g both xs) (image g second (image g first xs)) (sym (map_twice (apply g second) (apply g first) (apply g both) (λ c. sym (is c)) xs)))
      (same_map (apply g second) (image g first xs) ys h)

  composed : (first second both : Iso) → IsSymmetry g shape t places first → IsSymmetry g shape t places second → IsIsometry g both → ((c : Cell) → apply g both c ≡ apply g second (apply g first c)) → IsSymmetry g shape t places both
  composed first second both p q below is = record {
    is_isometry = below;
    carries = λ from m i j.
        let r = p.carries from m i j in
        let s = q.carries r.0 r.1 r.2.i r.2.j in (
          s.0,
          s.1,
          record {
            i = s.2.i;
            j = s.2.j;
            same = same_through (image g both (map (translated g t i j) (image g from shape))) (image g second (map (translated g t r.2.i r.2.j) (image g r.0 shape))) (map (translated g t s.2.i s.2.j) (image g s.0 shape)) (image_both first second both is (map (translated g t i j) (image g from shape)) (map (translated g t r.2.i r.2.j) (image g r.0 shape)) r.2.same) s.2.same;
          },
        );
  }

  itself : (at : Iso) → InOneClass g shape t places at at
  itself at = (
    no_move,
    nothing,
    record {
      i = pos 0;
      j = pos 0;
      same = set_of (image g no_move (image g at shape)) (map (translated g t (pos 0) (pos 0)) (image g at shape)) (map_same (apply g no_move) still (image g at shape) ∙ sym (map_same (translated g t (pos 0) (pos 0)) (λ c. translated_none g law t triple (pos 0) (pos 0) c refl refl) (image g at shape)));
    },
  )

  -- a symmetry that carries to a translate, followed by the translation back, carries exactly
  through : (from at to : Iso) → InOneClass g shape t places from at → InOneClass g shape t places at to → InOneClass g shape t places from to
  through from at to (x, x_is, x_carries) (y, y_is, y_carries) =
      let v : Iso = by_vector (neg_ℤ x_carries.i) (neg_ℤ x_carries.j) in
      let v_is : IsSymmetry g shape t places v = translation (neg_ℤ x_carries.i) (neg_ℤ x_carries.j) in
      let w : Composite g law x v = composite g law x v x_is.is_isometry v_is.is_isometry in
      let z : Composite g law w.by y = composite g law w.by y w.is_isometry y_is.is_isometry in
      let w_is : IsSymmetry g shape t places w.by = composed x v w.by x_is v_is w.is_isometry w.is in
      let from_cells : List Cell = image g from shape in
      let at_cells : List Cell = image g at shape in
      let to_cells : List Cell = image g to shape in
      let there : SameCells (image g w.by from_cells) (image g v (map (translated g t x_carries.i x_carries.j) at_cells)) = image_both x v w.by w.is from_cells (map (translated g t x_carries.i x_carries.j) at_cells) x_carries.same in
      let back : image g v (map (translated g t x_carries.i x_carries.j) at_cells) ≡ at_cells = map_twice (apply g v) (translated g t x_carries.i x_carries.j) (λ c. c) (λ c. by_vector_is (neg_ℤ x_carries.i) (neg_ℤ x_carries.j) (translated g t x_carries.i x_carries.j c) ∙ translated_twice g law t triple x_carries.i x_carries.j (neg_ℤ x_carries.i) (neg_ℤ x_carries.j) c ∙ translated_none g law t triple (x_carries.i +ℤ neg_ℤ x_carries.i) (x_carries.j +ℤ neg_ℤ x_carries.j) c (omega (arith, ints)) (omega (arith, ints))) at_cells ∙ map_same (λ c. c) (λ c. refl) at_cells in
      let exactly : SameCells (image g w.by from_cells) at_cells = same_through (image g w.by from_cells) (image g v (map (translated g t x_carries.i x_carries.j) at_cells)) at_cells there (set_of (image g v (map (translated g t x_carries.i x_carries.j) at_cells)) at_cells back) in
      (z.by, composed w.by y z.by w_is y_is z.is_isometry z.is, record { i = y_carries.i; j = y_carries.j; same = same_through (image g z.by from_cells) (image g y at_cells) (map (translated g t y_carries.i y_carries.j) to_cells) (image_both w.by y z.by z.is from_cells at_cells exactly) y_carries.same })

pub symmetries_compose : SymmetriesCompose
symmetries_compose g shape t places law triple = record {
  nothing = nothing g law shape t triple places;
  composed = composed g law shape t triple places;
  itself = itself g law shape t triple places;
  through = through g law shape t triple places;
}
