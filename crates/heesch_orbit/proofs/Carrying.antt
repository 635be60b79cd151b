-- Tiles that an isometry carries to moved tiles, by the step between the shape under two turns.
use Rattle.std.proofs.Common.{◌≡◌, ◌↔◌, refl, sym, ap, subst, ◌∙◌, ℕ, ◌<◌, Bool, true, false, true≢false, List, map, ℤ, pos, neg_ℤ, ◌+ℤ◌, ◌-ℤ◌, ◌*ℤ◌, arith}
use Rattle.std.proofs.lemmas.Int.{ints}
use Rattle.heesch_grid.specs.declared.Cell.{Cell}
use Rattle.heesch_grid.specs.declared.isometries.Iso.{Iso}
use Rattle.heesch_grid.specs.Cells.{cell, SameCells}
use Rattle.heesch_grid.specs.Geometry.{Geometry, IsGrid, IsIsometry, apply, image, moved}
use Rattle.heesch_grid.specs.Lattice.{Triple}
use Rattle.heesch_grid.specs.Pairs.{Cell-eta}
use Rattle.heesch_grid.specs.Symmetry.{CarriesToTranslate}
use Rattle.heesch_grid.specs.Vectors.{plus}
use Rattle.heesch_grid.proofs.IsometryFacts.{moved_twice, moved_none}
use Rattle.heesch_orbit.specs.Steps.{IsVector, IsStep, turn_alone, turn_and_shift}
use Rattle.heesch_orbit.specs.Symmetries.{Takes, excess, CarriesPlaces, KeepsLattice, shift, first_vector, second_vector}
use Rattle.heesch_orbit.proofs.Sets.{set_of, same_through, same_map, map_twice, map_same, followed, followed_is}

module _ (g : Geometry) (law : IsGrid g) (shape : List Cell) where
  -- a moved image
  moved_turned : (k : ℕ) (v u w : Cell) → plus v u ≡ w → map (moved g u.a u.b) (image g (turn_and_shift k v) shape) ≡ image g (turn_and_shift k w) shape
  moved_turned k v u w e =
      map_twice (moved g u.a u.b) (apply g (turn_and_shift k v)) (apply g (turn_and_shift k w))
      (λ c. moved_twice g law v.a v.b u.a u.b (g.turn k c) ∙ ap (λ (z : Cell). moved g z.a z.b (g.turn k c)) e)
      shape

  -- one isometry after another
  both : (from by : Iso) → IsIsometry g from → IsIsometry g by → image g by (image g from shape) ≡ image g (followed g from by) shape
  both from by p q = map_twice (apply g by) (apply g from) (apply g (followed g from by)) (λ c. sym (followed_is g law from by p q c)) shape

  -- a step, and what is left over, say where the first tile comes
  pub carried_by_step : (from to by : Iso) (m w v : Cell) → IsIsometry g from → IsIsometry g by → m ≡ g.turn by.turn (cell from.da from.db) → IsStep g shape (g.compose from.turn by.turn) to.turn w → excess m by w to ≡ v → SameCells (image g by (image g from shape)) (map (moved g v.a v.b) (image g to shape))
  carried_by_step from to by m w v p q m_is step left =
      let n : Cell = g.turn by.turn (cell from.da from.db) in
      let f : Cell = cell (n.a +ℤ by.da) (n.b +ℤ by.db) in
      let k : ℕ = g.compose from.turn by.turn in
      let u : Cell = cell (f.a -ℤ w.a) (f.b -ℤ w.b) in
      let whole : plus w u ≡ f = Cell-eta (plus w u) f (back w.a f.a) (back w.b f.b) in
      let start : image g by (image g from shape) ≡ map (moved g u.a u.b) (image g (turn_and_shift k w) shape) = both from by p q ∙ sym (moved_turned k w u f whole) in
      let zero : plus (cell (pos 0) (pos 0)) u ≡ u = Cell-eta (plus (cell (pos 0) (pos 0)) u) u (omega (arith, ints)) (omega (arith, ints)) in
      let ends : plus (cell to.da to.db) v ≡ u = Cell-eta (plus (cell to.da to.db) v) u (rest n.a by.da w.a to.da v.a (ap (λ (z : Cell). z.a +ℤ by.da -ℤ w.a -ℤ to.da) (sym m_is) ∙ ap (λ (z : Cell). z.a) left)) (rest n.b by.db w.b to.db v.b (ap (λ (z : Cell). z.b +ℤ by.db -ℤ w.b -ℤ to.db) (sym m_is) ∙ ap (λ (z : Cell). z.b) left)) in
      let end : map (moved g u.a u.b) (image g (turn_alone to.turn) shape) ≡ map (moved g v.a v.b) (image g to shape) = moved_turned to.turn (cell (pos 0) (pos 0)) u u zero ∙ sym (moved_turned to.turn (cell to.da to.db) v u ends) in
      same_through (image g by (image g from shape)) (map (moved g u.a u.b) (image g (turn_and_shift k w) shape)) (map (moved g v.a v.b) (image g to shape))
      (set_of (image g by (image g from shape)) (map (moved g u.a u.b) (image g (turn_and_shift k w) shape)) start)
      (same_through (map (moved g u.a u.b) (image g (turn_and_shift k w) shape)) (map (moved g u.a u.b) (image g (turn_alone to.turn) shape)) (map (moved g v.a v.b) (image g to shape))
      (same_map (moved g u.a u.b) (image g (turn_and_shift k w) shape) (image g (turn_alone to.turn) shape) step)
      (set_of (map (moved g u.a u.b) (image g (turn_alone to.turn) shape)) (map (moved g v.a v.b) (image g to shape)) end))
    where
      back : (x y : ℤ) → x +ℤ (y -ℤ x) ≡ y
      back x y = omega (arith, ints)

      rest : (x y w t v : ℤ) → x +ℤ y -ℤ w -ℤ t ≡ v → t +ℤ v ≡ (x +ℤ y) -ℤ w
      rest x y w t v e = omega (arith, ints)

  -- and where it comes says the step
  pub step_of_carried : (from to by : Iso) (v : Cell) → IsIsometry g from → IsIsometry g by → SameCells (image g by (image g from shape)) (map (moved g v.a v.b) (image g to shape)) → IsStep g shape (g.compose from.turn by.turn) to.turn (excess (g.turn by.turn (cell from.da from.db)) by v to)
  step_of_carried from to by v p q h =
      let n : Cell = g.turn by.turn (cell from.da from.db) in
      let f : Cell = cell (n.a +ℤ by.da) (n.b +ℤ by.db) in
      let k : ℕ = g.compose from.turn by.turn in
      let x : Cell = excess n by v to in
      let u : Cell = cell (neg_ℤ v.a -ℤ to.da) (neg_ℤ v.b -ℤ to.db) in
      let z : Cell = cell (pos 0) (pos 0) in
      let y : Cell = cell (to.da +ℤ v.a) (to.db +ℤ v.b) in
      let start : image g (turn_and_shift k x) shape ≡ map (moved g u.a u.b) (image g by (image g from shape)) = sym (ap (map (moved g u.a u.b)) (both from by p q) ∙ moved_turned k f u x (Cell-eta (plus f u) x (first n.a by.da v.a to.da) (first n.b by.db v.b to.db))) in
      let end : map (moved g u.a u.b) (map (moved g v.a v.b) (image g to shape)) ≡ image g (turn_alone to.turn) shape = ap (map (moved g u.a u.b)) (moved_turned to.turn (cell to.da to.db) v y refl) ∙ moved_turned to.turn y u z (Cell-eta (plus y u) z (last to.da v.a) (last to.db v.b)) in
      same_through (image g (turn_and_shift k x) shape) (map (moved g u.a u.b) (image g by (image g from shape))) (image g (turn_alone to.turn) shape)
      (set_of (image g (turn_and_shift k x) shape) (map (moved g u.a u.b) (image g by (image g from shape))) start)
      (same_through (map (moved g u.a u.b) (image g by (image g from shape))) (map (moved g u.a u.b) (map (moved g v.a v.b) (image g to shape))) (image g (turn_alone to.turn) shape)
      (same_map (moved g u.a u.b) (image g by (image g from shape)) (map (moved g v.a v.b) (image g to shape)) h)
      (set_of (map (moved g u.a u.b) (map (moved g v.a v.b) (image g to shape))) (image g (turn_alone to.turn) shape) end))
    where
      first : (x y v t : ℤ) → (x +ℤ y) +ℤ (neg_ℤ v -ℤ t) ≡ x +ℤ y -ℤ v -ℤ t
      first x y v t = omega (arith, ints)

      last : (t v : ℤ) → (t +ℤ v) +ℤ (neg_ℤ v -ℤ t) ≡ pos 0
      last t v = omega (arith, ints)

  -- the vector that is left over decides
  pub vector_carries : (t : Triple) (from to by : Iso) (m w left : Cell) → IsIsometry g from → IsIsometry g by → m ≡ g.turn by.turn (cell from.da from.db) → IsStep g shape (g.compose from.turn by.turn) to.turn w → left ≡ excess m by w to → IsVector t left → CarriesToTranslate g t by (image g from shape) (image g to shape)
  vector_carries t from to by m w left p q m_is step left_is r =
      let v : Cell = cell (r.i *ℤ pos t.p +ℤ r.j *ℤ pos t.s) (r.j *ℤ pos t.q) in
      record { i = r.i; j = r.j; same = carried_by_step from to by m w v p q m_is step (sym left_is ∙ Cell-eta left v r.in_a r.in_b) }

  pub carries_vector : (t : Triple) (from to by : Iso) (m w left : Cell) → IsIsometry g from → IsIsometry g by → m ≡ g.turn by.turn (cell from.da from.db) → ((x : Cell) → IsStep g shape (g.compose from.turn by.turn) to.turn x → x ≡ w) → left ≡ excess m by w to → CarriesToTranslate g t by (image g from shape) (image g to shape) → IsVector t left
  carries_vector t from to by m w left p q m_is only left_is r =
      let v : Cell = cell (r.i *ℤ pos t.p +ℤ r.j *ℤ pos t.s) (r.j *ℤ pos t.q) in
      let n : Cell = g.turn by.turn (cell from.da from.db) in
      let e : excess n by v to ≡ w = only (excess n by v to) (step_of_carried from to by v p q r.same) in
      record {
        i = r.i;
        j = r.j;
        in_a = ap (λ (z : Cell). z.a) left_is ∙ ap (λ (z : Cell). z.a +ℤ by.da -ℤ w.a -ℤ to.da) m_is ∙ swap n.a by.da v.a to.da w.a (ap (λ (z : Cell). z.a) e);
        in_b = ap (λ (z : Cell). z.b) left_is ∙ ap (λ (z : Cell). z.b +ℤ by.db -ℤ w.b -ℤ to.db) m_is ∙ swap n.b by.db v.b to.db w.b (ap (λ (z : Cell). z.b) e);
      }
    where
      swap : (x y v t w : ℤ) → x +ℤ y -ℤ v -ℤ t ≡ w → x +ℤ y -ℤ w -ℤ t ≡ v
      swap x y v t w e = omega (arith, ints)

  -- ---- exactly

  unmoved : (to : Iso) → map (moved g (pos 0) (pos 0)) (image g to shape) ≡ image g to shape
  unmoved to = map_same (moved g (pos 0) (pos 0)) (λ c. moved_none g law (pos 0) (pos 0) c refl refl) (image g to shape)

  pub step_takes : (from to by : Iso) (m w : Cell) → IsIsometry g from → IsIsometry g by → m ≡ g.turn by.turn (cell from.da from.db) → IsStep g shape (g.compose from.turn by.turn) to.turn w → excess m by w to ≡ cell (pos 0) (pos 0) → Takes g shape from to by
  step_takes from to by m w p q m_is step e =
      same_through (image g by (image g from shape)) (map (moved g (pos 0) (pos 0)) (image g to shape)) (image g to shape)
      (carried_by_step from to by m w (cell (pos 0) (pos 0)) p q m_is step e)
      (set_of (map (moved g (pos 0) (pos 0)) (image g to shape)) (image g to shape) (unmoved to))

  pub takes_step : (from to by : Iso) → IsIsometry g from → IsIsometry g by → Takes g shape from to by → IsStep g shape (g.compose from.turn by.turn) to.turn (excess (g.turn by.turn (cell from.da from.db)) by (cell (pos 0) (pos 0)) to)
  takes_step from to by p q h =
      step_of_carried from to by (cell (pos 0) (pos 0)) p q
      (same_through (image g by (image g from shape)) (image g to shape) (map (moved g (pos 0) (pos 0)) (image g to shape)) h (set_of (image g to shape) (map (moved g (pos 0) (pos 0)) (image g to shape)) (sym (unmoved to))))

-- isometries of one turn that leave the same over are one
pub one_isometry : (m n : Cell) (by other : Iso) (w v : Cell) (to : Iso) → other.turn ≡ by.turn → n ≡ m → v ≡ w → excess n other (cell (pos 0) (pos 0)) to ≡ v → excess m by w to ≡ cell (pos 0) (pos 0) → other ≡ by
one_isometry m n by other w v to turn m_is w_is there here =
    let a : other.da ≡ by.da = same m.a n.a other.da by.da to.da w.a v.a (ap (λ (z : Cell). z.a) m_is) (ap (λ (z : Cell). z.a) w_is) (ap (λ (z : Cell). z.a) there) (ap (λ (z : Cell). z.a) here) in
    let b : other.db ≡ by.db = same m.b n.b other.db by.db to.db w.b v.b (ap (λ (z : Cell). z.b) m_is) (ap (λ (z : Cell). z.b) w_is) (ap (λ (z : Cell). z.b) there) (ap (λ (z : Cell). z.b) here) in
    λ i. record { turn = turn i; da = a i; db = b i }
  where
    same : (m n x y t w v : ℤ) → n ≡ m → v ≡ w → n +ℤ x -ℤ pos 0 -ℤ t ≡ v → m +ℤ y -ℤ w -ℤ t ≡ pos 0 → x ≡ y
    same m n x y t w v e f h k = omega (arith, ints)

-- ---- what the code decides

module _ (g : Geometry) (law : IsGrid g) (shape : List Cell) (from to : Iso) (p : IsIsometry g from) where
  -- with no step between the shape under the two turns no tile is carried
  pub no_step_carries : (t : Triple) (by : Iso) → IsIsometry g by → (k : ℕ) → k ≡ g.compose from.turn by.turn → ((x : Cell) → IsStep g shape k to.turn x → ⊥) → (false ≡ true) ↔ CarriesToTranslate g t by (image g from shape) (image g to shape)
  no_step_carries t by q k k_is none = ((λ e. absurd (true≢false (sym e))), (λ r. absurd (never r)))
    where
      none_at : (x : Cell) → IsStep g shape (g.compose from.turn by.turn) to.turn x → ⊥
      none_at = subst (λ (n : ℕ). (x : Cell) → IsStep g shape n to.turn x → ⊥) k_is none

      never : CarriesToTranslate g t by (image g from shape) (image g to shape) → ⊥
      never r =
          let v : Cell = cell (r.i *ℤ pos t.p +ℤ r.j *ℤ pos t.s) (r.j *ℤ pos t.q) in
          none_at (excess (g.turn by.turn (cell from.da from.db)) by v to) (step_of_carried g law shape from to by v p q r.same)

  -- with the one step the vector that is left over decides
  pub step_carries : (t : Triple) (by : Iso) → IsIsometry g by → (k : ℕ) → k ≡ g.compose from.turn by.turn → (m w left : Cell) → m ≡ g.turn by.turn (cell from.da from.db) → IsStep g shape k to.turn w → ((x : Cell) → IsStep g shape k to.turn x → x ≡ w) → left ≡ excess m by w to →
      (is_vector : Bool) → (is_vector ≡ true) ↔ IsVector t left → (is_vector ≡ true) ↔ CarriesToTranslate g t by (image g from shape) (image g to shape)
  step_carries t by q k k_is m w left m_is step only left_is is_vector test =
      let step_at : IsStep g shape (g.compose from.turn by.turn) to.turn w = subst (λ (n : ℕ). IsStep g shape n to.turn w) k_is step in
      let only_at : (x : Cell) → IsStep g shape (g.compose from.turn by.turn) to.turn x → x ≡ w = subst (λ (n : ℕ). (x : Cell) → IsStep g shape n to.turn x → x ≡ w) k_is only in (
        (λ e. vector_carries g law shape t from to by m w left p q m_is step_at left_is (test.0 e)),
        (λ r. test.1 (carries_vector g law shape t from to by m w left p q m_is only_at left_is r)),
      )

  -- so for the isometries of one turn that take the tile exactly
  module _ (k : ℕ) (below : k < g.turns) (j : ℕ) (j_is : j ≡ g.compose from.turn k) where
    turned_below : (by : Iso) → by.turn ≡ k → IsIsometry g by
    turned_below by turn = subst (λ (n : ℕ). n < g.turns) (sym turn) below

    turned_as : (by : Iso) → by.turn ≡ k → j ≡ g.compose from.turn by.turn
    turned_as by turn = j_is ∙ ap (g.compose from.turn) (sym turn)

    pub no_step_takes : ((x : Cell) → IsStep g shape j to.turn x → ⊥) → (by : Iso) → by.turn ≡ k → Takes g shape from to by → ⊥
    no_step_takes none by turn h =
        let none_at : (x : Cell) → IsStep g shape (g.compose from.turn by.turn) to.turn x → ⊥ = subst (λ (n : ℕ). (x : Cell) → IsStep g shape n to.turn x → ⊥) (turned_as by turn) none in
        none_at (excess (g.turn by.turn (cell from.da from.db)) by (cell (pos 0) (pos 0)) to) (takes_step g law shape from to by p (turned_below by turn) h)

    module _ (m w : Cell) (m_is : m ≡ g.turn k (cell from.da from.db)) (by : Iso) (turn : by.turn ≡ k) (exact : excess m by w to ≡ cell (pos 0) (pos 0)) where
      pub stepping_takes : IsStep g shape j to.turn w → Takes g shape from to by
      stepping_takes step =
          step_takes g law shape from to by m w p (turned_below by turn) (m_is ∙ ap (λ (n : ℕ). g.turn n (cell from.da from.db)) (sym turn)) (subst (λ (n : ℕ). IsStep g shape n to.turn w) (turned_as by turn) step) exact

      pub stepping_only : ((x : Cell) → IsStep g shape j to.turn x → x ≡ w) → (other : Iso) → other.turn ≡ k → Takes g shape from to other → other ≡ by
      stepping_only only other same h =
          let n : Cell = g.turn other.turn (cell from.da from.db) in
          let n_is : n ≡ m = ap (λ (i : ℕ). g.turn i (cell from.da from.db)) same ∙ sym m_is in
          let only_at : (x : Cell) → IsStep g shape (g.compose from.turn other.turn) to.turn x → x ≡ w = subst (λ (i : ℕ). (x : Cell) → IsStep g shape i to.turn x → x ≡ w) (turned_as other same) only in
          let v : Cell = excess n other (cell (pos 0) (pos 0)) to in
          let v_is : v ≡ w = only_at v (takes_step g law shape from to other p (turned_below other same) h) in
          one_isometry m n by other w v to (same ∙ sym turn) n_is v_is (λ i. v) exact

-- the vectors of the lattice, as they were turned
module _ (g : Geometry) (shape : List Cell) (t : Triple) (places : List Iso) (k : ℕ) where
  turned_as_is : (by : Iso) (read v : Cell) → by ≡ shift (g.turn k read) → read ≡ v → by ≡ shift (g.turn k v)
  turned_as_is by read v is read_is = is ∙ ap (λ (z : Cell). shift (g.turn k z)) read_is

  module _ (first : Iso) (a : Cell) (first_is : first ≡ shift (g.turn k a)) (a_is : a ≡ first_vector t) where
    -- where the first carries the tiles, the second decides
    pub second_decides : CarriesPlaces g shape t places first → (second : Iso) (b : Cell) → second ≡ shift (g.turn k b) → b ≡ second_vector t → (carries : Bool) → (carries ≡ true) ↔ CarriesPlaces g shape t places second → (carries ≡ true) ↔ KeepsLattice g shape t places k
    second_decides h second b second_is b_is carries test =
        let P : Iso → Type 0 = CarriesPlaces g shape t places in
        let is = turned_as_is second b (second_vector t) second_is b_is in (
          (λ e. record { first = subst P (turned_as_is first a (first_vector t) first_is a_is) h; second = subst P is (test.0 e) }),
          (λ kept. test.1 (subst P (sym is) kept.second)),
        )

    -- and where it doesn't, the lattice isn't kept
    pub first_decides : (carries : Bool) → carries ≡ false → (carries ≡ true) ↔ CarriesPlaces g shape t places first → (carries ≡ true) ↔ KeepsLattice g shape t places k
    first_decides carries off test = (
      (λ e. absurd (true≢false (sym e ∙ off))),
      (λ kept. test.1 (subst (CarriesPlaces g shape t places) (sym (turned_as_is first a (first_vector t) first_is a_is)) kept.first)),
    )
