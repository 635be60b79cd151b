-- What undoes a symmetry is a symmetry: a turn comes back after some times, and a translation, taken p times q times, is one by a lattice vector.
use Rattle.std.proofs.Common.{◌≡◌, refl, sym, ap, ◌∙◌, ℕ, zero, suc, ◌+◌, ◌-◌, ◌*◌, ◌<◌, ◌≤◌, List, map, arith}
use Rattle.std.specs.Prelude.{ℤ, pos, neg_ℤ, ◌+ℤ◌, ◌-ℤ◌, ◌*ℤ◌}
use Rattle.std.proofs.Math.IntN.{zero-*ℤ, suc_ℤ-*ℤ}
use Rattle.std.proofs.lemmas.Int.{ints}
use Rattle.heesch_grid.specs.declared.Cell.{Cell}
use Rattle.heesch_grid.specs.declared.isometries.Iso.{Iso}
use Rattle.heesch_grid.specs.Cells.{cell}
use Rattle.heesch_grid.specs.Facts.{IsClosed}
use Rattle.heesch_grid.specs.Geometry.{Geometry, IsGrid, IsIsometry, apply, image, moved}
use Rattle.heesch_grid.specs.Integers.{mul_comm, mul_assoc, mul_sub}
use Rattle.heesch_grid.specs.Lattice.{Triple, IsTriple, translated}
use Rattle.heesch_grid.specs.Symmetry.{IsSymmetry}
use Rattle.heesch_grid.specs.Tiling.{no_move}
use Rattle.heesch_grid.proofs.IsometryFacts.{Inverse, inverse_of, moved_twice, moved_none}
use Rattle.heesch_grid.proofs.ReductionFacts.{translated_twice, translated_none}
use Rattle.heesch_grid.proofs.SymmetryFacts.{symmetries_compose}
use Rattle.heesch_orbit.specs.Statements.{InversesAreSymmetries}
use Rattle.heesch_orbit.specs.Symmetries.{CarriesPlaces, shift}
use Rattle.heesch_orbit.proofs.Repeats.{Repeat, repeated}
use Rattle.heesch_orbit.proofs.Sets.{set_of, same_through, same_map, map_twice, map_alike, map_square, followed, still, followed_is, shift_is}

-- n times a map
abbrev pub times_over : (Cell → Cell) → ℕ → Cell → Cell
times_over f zero c = c
times_over f (suc n) c = f (times_over f n c)

times_over-sum : (f : Cell → Cell) (m n : ℕ) (c : Cell) → times_over f (m + n) c ≡ times_over f m (times_over f n c)
times_over-sum f zero n c = ap (λ k. times_over f k c) none
  where
    none : 0 + n ≡ n
    none = omega arith
times_over-sum f (suc m) n c = ap (λ k. times_over f k c) next ∙ ap f (times_over-sum f m n c)
  where
    next : suc m + n ≡ suc (m + n)
    next = omega arith

times_over-alike : (f h : Cell → Cell) → ((c : Cell) → f c ≡ h c) → (n : ℕ) (c : Cell) → times_over f n c ≡ times_over h n c
times_over-alike f h e zero c = refl
times_over-alike f h e (suc n) c = e (times_over f n c) ∙ ap h (times_over-alike f h e n c)

-- p times q times a translation is one by a lattice vector
lattice_a : (p q s : ℕ) (x y : ℤ) → pos (p * q) *ℤ x ≡ (pos q *ℤ x -ℤ y *ℤ pos s) *ℤ pos p +ℤ (pos p *ℤ y) *ℤ pos s
lattice_a p q s x y =
    let one : (pos q *ℤ x -ℤ y *ℤ pos s) *ℤ pos p ≡ pos p *ℤ (pos q *ℤ x) -ℤ pos p *ℤ (y *ℤ pos s) = mul_comm (pos q *ℤ x -ℤ y *ℤ pos s) (pos p) ∙ mul_sub (pos p) (pos q *ℤ x) (y *ℤ pos s) in
    let two : pos p *ℤ (y *ℤ pos s) ≡ (pos p *ℤ y) *ℤ pos s = mul_assoc (pos p) y (pos s) in
    let three : pos p *ℤ (pos q *ℤ x) ≡ (pos p *ℤ pos q) *ℤ x = mul_assoc (pos p) (pos q) x in
    let four : (pos p *ℤ pos q) *ℤ x ≡ pos (p * q) *ℤ x = refl in
    joined (pos (p * q) *ℤ x) (pos p *ℤ (pos q *ℤ x)) (pos p *ℤ (y *ℤ pos s)) ((pos q *ℤ x -ℤ y *ℤ pos s) *ℤ pos p) ((pos p *ℤ y) *ℤ pos s) (three ∙ four) one two
  where
    joined : (u v w z r : ℤ) → v ≡ u → z ≡ v -ℤ w → w ≡ r → u ≡ z +ℤ r
    joined u v w z r e f h = omega (arith, ints)

lattice_b : (p q : ℕ) (y : ℤ) → pos (p * q) *ℤ y ≡ (pos p *ℤ y) *ℤ pos q
lattice_b p q y = sym (mul_comm (pos p *ℤ y) (pos q) ∙ mul_assoc (pos q) (pos p) y ∙ ap (λ z. z *ℤ y) (mul_comm (pos q) (pos p)))

module _ (g : Geometry) (law : IsGrid g) where
  -- so many times a translation
  times_moved : (v : Cell) (n : ℕ) (c : Cell) → times_over (moved g v.a v.b) n c ≡ moved g (pos n *ℤ v.a) (pos n *ℤ v.b) c
  times_moved v zero c = sym (moved_none g law (pos 0 *ℤ v.a) (pos 0 *ℤ v.b) c (zero-*ℤ v.a) (zero-*ℤ v.b))
  times_moved v (suc n) c =
      ap (moved g v.a v.b) (times_moved v n c)
      ∙ moved_twice g law (pos n *ℤ v.a) (pos n *ℤ v.b) v.a v.b c
      ∙ (λ i. moved g (sym (suc_ℤ-*ℤ (pos n) v.a) i) (sym (suc_ℤ-*ℤ (pos n) v.b) i) c)

  -- isometries of one turn differ by a translation
  between : (x y : Iso) → x.turn ≡ y.turn → (c : Cell) → apply g y c ≡ moved g (y.da -ℤ x.da) (y.db -ℤ x.db) (apply g x c)
  between x y e c =
      sym (moved_twice g law x.da x.db (y.da -ℤ x.da) (y.db -ℤ x.db) (g.turn x.turn c) ∙ (λ i. moved g (back x.da y.da i) (back x.db y.db i) (g.turn (e i) c)))
    where
      back : (u w : ℤ) → u +ℤ (w -ℤ u) ≡ w
      back u w = omega (arith, ints)

module _ (g : Geometry) (law : IsGrid g) (shape : List Cell) (t : Triple) (triple : IsTriple t) (places : List Iso) where
  closed : IsClosed g shape t places
  closed = symmetries_compose g shape t places law triple

  pub followed_symmetry : (x y : Iso) → IsSymmetry g shape t places x → IsSymmetry g shape t places y → IsSymmetry g shape t places (followed g x y)
  followed_symmetry x y p q = closed.composed x y (followed g x y) p q (law.compose x.turn y.turn p.is_isometry q.is_isometry).0 (followed_is g law x y p.is_isometry q.is_isometry)

  pub same_symmetry : (x y : Iso) → IsSymmetry g shape t places x → IsIsometry g y → ((c : Cell) → apply g y c ≡ apply g x c) → IsSymmetry g shape t places y
  same_symmetry x y p is e = closed.composed no_move x y closed.nothing p is (λ c. e c ∙ ap (apply g x) (sym (still g law c)))

  -- a translation commutes with those by lattice vectors
  shift_translated : (v : Cell) (i j : ℤ) (c : Cell) → apply g (shift v) (translated g t i j c) ≡ translated g t i j (apply g (shift v) c)
  shift_translated v i j c =
      let x : ℤ = i *ℤ pos t.p +ℤ j *ℤ pos t.s in
      let y : ℤ = j *ℤ pos t.q in
      shift_is g law v (translated g t i j c)
      ∙ moved_twice g law x y v.a v.b c
      ∙ (λ k. moved g (turned x v.a k) (turned y v.b k) c)
      ∙ sym (moved_twice g law v.a v.b x y c)
      ∙ ap (translated g t i j) (sym (shift_is g law v c))
    where
      turned : (u w : ℤ) → u +ℤ w ≡ w +ℤ u
      turned u w = omega (arith, ints)

  -- so it is a symmetry where it carries each tile to a translate of a tile
  pub shift_symmetry : (v : Cell) → CarriesPlaces g shape t places (shift v) → IsSymmetry g shape t places (shift v)
  shift_symmetry v carries = record {
    is_isometry = law.turns_range.0;
    carries = λ from m i j.
        let r = carries from m in
        let k : ℤ = r.2.i in
        let l : ℤ = r.2.j in
        let ys : List Cell = image g r.0 shape in (
          r.0,
          r.1,
          record {
            i = k +ℤ i;
            j = l +ℤ j;
            same = same_through (image g (shift v) (map (translated g t i j) (image g from shape))) (map (translated g t i j) (map (translated g t k l) ys)) (map (translated g t (k +ℤ i) (l +ℤ j)) ys)
                (same_through (image g (shift v) (map (translated g t i j) (image g from shape))) (map (translated g t i j) (image g (shift v) (image g from shape))) (map (translated g t i j) (map (translated g t k l) ys))
                (set_of (image g (shift v) (map (translated g t i j) (image g from shape))) (map (translated g t i j) (image g (shift v) (image g from shape))) (map_square (apply g (shift v)) (translated g t i j) (translated g t i j) (apply g (shift v)) (shift_translated v i j) (image g from shape)))
                (same_map (translated g t i j) (image g (shift v) (image g from shape)) (map (translated g t k l) ys) r.2.same))
                (set_of (map (translated g t i j) (map (translated g t k l) ys)) (map (translated g t (k +ℤ i) (l +ℤ j)) ys) (map_twice (translated g t i j) (translated g t k l) (translated g t (k +ℤ i) (l +ℤ j)) (translated_twice g law t triple k l i j) ys));
          },
        );
  }

  -- the translation by a lattice vector
  abbrev pub lattice_vector : ℤ → ℤ → Cell
  lattice_vector i j = cell (i *ℤ pos t.p +ℤ j *ℤ pos t.s) (j *ℤ pos t.q)

  pub lattice_symmetry : (i j : ℤ) → IsSymmetry g shape t places (shift (lattice_vector i j))
  lattice_symmetry i j =
      shift_symmetry (lattice_vector i j) (λ from m. (from, m, record { i = i; j = j; same = set_of (image g (shift (lattice_vector i j)) (image g from shape)) (map (translated g t i j) (image g from shape)) (map_alike (apply g (shift (lattice_vector i j))) (translated g t i j) (shift_is g law (lattice_vector i j)) (image g from shape)) }))

  -- a symmetry n times over
  record Power (by : Iso) (n : ℕ) : Type 0 where
    at : Iso
    is_symmetry : IsSymmetry g shape t places at
    is : (c : Cell) → apply g at c ≡ times_over (apply g by) n c

  power : (by : Iso) → IsSymmetry g shape t places by → (n : ℕ) → Power by n
  power by p zero = record { at = no_move; is_symmetry = closed.nothing; is = still g law }
  power by p (suc n) =
      let r : Power by n = power by p n in
      record {
        at = followed g r.at by;
        is_symmetry = followed_symmetry r.at by r.is_symmetry p;
        is = λ c. followed_is g law r.at by r.is_symmetry.is_isometry p.is_isometry c ∙ ap (apply g by) (r.is c);
      }

  -- a symmetry, n + 1 times over, is a translation
  record Order (by : Iso) : Type 0 where
    n : ℕ
    v : Cell
    is : (c : Cell) → times_over (apply g by) (suc n) c ≡ moved g v.a v.b c

  order : (by : Iso) → IsSymmetry g shape t places by → Order by
  order by p =
      let r : Repeat (λ n. (power by p n).at.turn) = repeated (λ n. (power by p n).at.turn) g.turns (λ n. (power by p n).is_symmetry.is_isometry) in
      let x : Power by r.i = power by p r.i in
      let y : Power by r.j = power by p r.j in
      let back : Inverse g law x.at = inverse_of g law x.at x.is_symmetry.is_isometry in
      let d : ℕ = r.j - r.i - 1 in
      record {
        n = d;
        v = cell (y.at.da -ℤ x.at.da) (y.at.db -ℤ x.at.db);
        is = λ c.
            let z : Cell = apply g back.by c in
            ap (times_over (apply g by) (suc d)) (sym (back.undone c) ∙ x.is z)
            ∙ sym (times_over-sum (apply g by) (suc d) r.i z)
            ∙ ap (λ k. times_over (apply g by) k z) (whole r.i r.j r.less)
            ∙ sym (y.is z)
            ∙ between g law x.at y.at r.same z
            ∙ ap (moved g (y.at.da -ℤ x.at.da) (y.at.db -ℤ x.at.db)) (back.undone c);
      }
    where
      whole : (i j : ℕ) → i < j → suc (j - i - 1) + i ≡ j
      whole i j l = omega arith

  -- so many times a symmetry comes back, but for a lattice vector
  pub inverse_symmetry : (by back : Iso) → IsSymmetry g shape t places by → IsIsometry g back → ((c : Cell) → apply g back (apply g by c) ≡ c) → IsSymmetry g shape t places back
  inverse_symmetry by back p is undoes =
      let o : Order by = order by p in
      let whole : Power by (suc o.n) = power by p (suc o.n) in
      let most : Power by o.n = power by p o.n in
      let m : ℕ = t.p * t.q - 1 in
      let rest : Power whole.at m = power whole.at whole.is_symmetry m in
      let i : ℤ = pos t.q *ℤ o.v.a -ℤ o.v.b *ℤ pos t.s in
      let j : ℤ = pos t.p *ℤ o.v.b in
      let first : Iso = shift (lattice_vector (neg_ℤ i) (neg_ℤ j)) in
      let first_is : IsSymmetry g shape t places first = lattice_symmetry (neg_ℤ i) (neg_ℤ j) in
      let two : Iso = followed g first rest.at in
      let two_is : IsSymmetry g shape t places two = followed_symmetry first rest.at first_is rest.is_symmetry in
      let three : Iso = followed g two most.at in
      let three_is : IsSymmetry g shape t places three = followed_symmetry two most.at two_is most.is_symmetry in
      let whole_moves : (c : Cell) → apply g whole.at c ≡ moved g o.v.a o.v.b c = λ c. whole.is c ∙ o.is c in
      let all_moves : (c : Cell) → times_over (apply g whole.at) (suc m) c ≡ translated g t i j c = λ c.
      times_over-alike (apply g whole.at) (moved g o.v.a o.v.b) whole_moves (suc m) c
      ∙ times_moved g law o.v (suc m) c
      ∙ ap (λ k. moved g (pos k *ℤ o.v.a) (pos k *ℤ o.v.b) c) (area t.p t.q triple.p_positive triple.q_positive)
      ∙ (λ k. moved g (lattice_a t.p t.q t.s o.v.a o.v.b k) (lattice_b t.p t.q o.v.b k) c) in
      let undone : (c : Cell) → apply g by (apply g three c) ≡ c = λ c.
      let z : Cell = apply g first c in
      let w : Cell = apply g rest.at z in
      ap (apply g by) (followed_is g law two most.at two_is.is_isometry most.is_symmetry.is_isometry c ∙ ap (apply g most.at) (followed_is g law first rest.at first_is.is_isometry rest.is_symmetry.is_isometry c) ∙ most.is w)
      ∙ sym (whole.is w)
      ∙ ap (apply g whole.at) (rest.is z)
      ∙ all_moves z
      ∙ ap (translated g t i j) (shift_is g law (lattice_vector (neg_ℤ i) (neg_ℤ j)) c)
      ∙ translated_twice g law t triple (neg_ℤ i) (neg_ℤ j) i j c
      ∙ translated_none g law t triple (neg_ℤ i +ℤ i) (neg_ℤ j +ℤ j) c (none i) (none j) in
      same_symmetry three back three_is is (λ c. ap (apply g back) (sym (undone c)) ∙ undoes (apply g three c))
    where
      area : (p q : ℕ) → 1 ≤ p → 1 ≤ q → suc (p * q - 1) ≡ p * q
      area p q l m = let h = positive p q l m in omega arith
        where
          positive : (p q : ℕ) → 1 ≤ p → 1 ≤ q → 1 ≤ p * q
          positive p q l m = grind arith

      none : (x : ℤ) → neg_ℤ x +ℤ x ≡ pos 0
      none x = omega (arith, ints)

pub inverses_are_symmetries : InversesAreSymmetries
inverses_are_symmetries g shape t places by back law triple = inverse_symmetry g law shape t triple places by back
