-- Symmetries that take tiles of a reduced cover to each other lie near 0.
use Rattle.std.proofs.Common.{◌≡◌, ap, subst, ◌∙◌, ℕ, zero, suc, ◌+◌, ◌*◌, ◌<◌, ◌≤◌, not-suc-le-zero, le_of_suc-le-suc, List, [], ◌∷◌, length, get_or, All, Contains, Some, inl, inr, refl, arith}
use Rattle.std.specs.Prelude.{ℤ, pos, neg_ℤ, ◌+ℤ◌, ◌*ℤ◌, ◌≤ℤ◌, ◌<ℤ◌}
use Rattle.std.specs.List.{slice_get}
use Rattle.std.proofs.Math.Nat.{mul-le-mul_left, mul-le-mul_right}
use Rattle.std.proofs.lemmas.Int.{ints}
use Rattle.std.proofs.lemmas.Bool.{cases_eq}
use Rattle.std.proofs.lemmas.List.Elements.{recursion_from_All}
use Rattle.std.proofs.lemmas.Option.{slice_get-get_or, slice_get_within, same_Some}
use Rattle.heesch_grid.specs.declared.Cell.{Cell}
use Rattle.heesch_grid.specs.declared.isometries.Iso.{Iso}
use Rattle.heesch_grid.specs.Cells.{cell}
use Rattle.heesch_grid.specs.Geometry.{Geometry, IsGrid, apply, image}
use Rattle.heesch_grid.specs.Integers.{small_multiple}
use Rattle.heesch_grid.specs.Lattice.{Triple}
use Rattle.heesch_grid.specs.Symmetry.{Member, IsRepresentative, TakesExactly, AreClasses}
use Rattle.heesch_grid.specs.TorusFormula.{IsWithinTriple}
use Rattle.heesch_grid.specs.Vectors.{IsWithin}
use Rattle.heesch_grid.proofs.Images.{turn_within, wider}
use Rattle.heesch_grid.proofs.WindowFacts.{member_map, map_member}
use Rattle.heesch_cert.specs.Reduced.{IsReducedPlace}
use Rattle.heesch_written.specs.Near.{IsNearPlace, ClassesAreNear}
use Rattle.heesch_written.proofs.Distances.{translation_near}
use Rattle.heesch_written.proofs.Shapes.{IsNearShape, near_shape}

-- ---- classes

-- a class that occurs has a first member
representative : (members : List Member) (class n : ℕ) (x : Member) → slice_get members n ≡ Some x → x.class ≡ class → (r : ℕ) × IsRepresentative members class r
representative [] class n x e c = absurd (not-suc-le-zero (slice_get_within [] n x e))
representative (m ∷ members) class n x e c =
    elim (cases_eq m.class class) [
      | inl same ↦ (0, ((m, refl, same), λ k member l f. absurd (not-suc-le-zero l)))
      | inr other ↦
          let tail = later n other e in
          let r = representative members class tail.0 x tail.1 c in
          (suc r.0, (r.1.0, λ k member l f. none other r k member l f))
    ]
  where
    later : (n : ℕ) → (m.class ≡ class → ⊥) → slice_get (m ∷ members) n ≡ Some x → (k : ℕ) × (slice_get members k ≡ Some x)
    later zero other e = absurd (other (ap (λ (y : Member). y.class) (same_Some m x e) ∙ c))
    later (suc n) other e = (n, e)

    none : (m.class ≡ class → ⊥) → (r : (r : ℕ) × IsRepresentative members class r) → (k : ℕ) (member : Member) → k < suc r.0 → slice_get (m ∷ members) k ≡ Some member → member.class ≡ class → ⊥
    none other r zero member l f same = other (ap (λ (y : Member). y.class) (same_Some m member f) ∙ same)
    none other r (suc k) member l f same = r.1.1 k member (le_of_suc-le-suc l) f same

-- ---- places

side_short : (p q : ℕ) (b : ℤ) → p * q ≤ 4096 → pos 0 ≤ℤ b → b <ℤ pos q → p ≤ 4096
side_short p q b most from below =
    let some : 1 ≤ q = omega (arith, ints, from, below) in
    let e = mul-le-mul_left p some in
    omega (arith, e, most)

other_short : (p q : ℕ) (a : ℤ) → p * q ≤ 4096 → pos 0 ≤ℤ a → a <ℤ pos p → q ≤ 4096
other_short p q a most from below =
    let some : 1 ≤ p = omega (arith, ints, from, below) in
    let e = mul-le-mul_right q some in
    omega (arith, e, most)

-- the translation of a place within the triple
within_triple : (t : Triple) (by : Iso) → t.p * t.q ≤ 4096 → IsWithinTriple t by → IsWithin 4096 (cell by.da by.db)
within_triple t by most w =
    let p = side_short t.p t.q by.db most w.db_from w.db_below in
    let q = other_short t.p t.q by.da most w.da_from w.da_below in
    record {
      a_low = omega (arith, ints, w.da_from);
      a_high = omega (arith, ints, w.da_below, p);
      b_low = omega (arith, ints, w.db_from);
      b_high = omega (arith, ints, w.db_below, q);
    }

added : (m n : ℕ) (x y : ℤ) → neg_ℤ (pos m) ≤ℤ x → x ≤ℤ pos m → neg_ℤ (pos n) ≤ℤ y → y ≤ℤ pos n → (neg_ℤ (pos (m + n)) ≤ℤ (x +ℤ y)) × ((x +ℤ y) ≤ℤ pos (m + n))
added m n x y xl xh yl yh = (omega (arith, ints, xl, yl), omega (arith, ints, xh, yh))

module _ (g : Geometry) (law : IsGrid g) where
  placed_within : (m n : ℕ) (by : Iso) (c : Cell) → by.turn < g.turns → IsWithin m (cell by.da by.db) → IsWithin n c → IsWithin (2 * n + 6 * m) (apply g by c)
  placed_within m n by c less step near =
      let turned = turn_within g law by.turn n c less near in
      let high = law.unit_range.1 in
      let x = small_multiple g.unit by.da m high step.a_low step.a_high in
      let y = small_multiple g.unit by.db m high step.b_low step.b_high in
      let a = added (2 * n) (6 * m) (g.turn by.turn c).a (pos g.unit *ℤ by.da) turned.a_low turned.a_high x.0 x.1 in
      let b = added (2 * n) (6 * m) (g.turn by.turn c).b (pos g.unit *ℤ by.db) turned.b_low turned.b_high y.0 y.1 in
      record { a_low = a.0; a_high = a.1; b_low = b.0; b_high = b.1 }

  module _ (shape : List Cell) (s : IsNearShape g shape) (t : Triple) (few : t.p * t.q ≤ 4096) (places : List Iso) where
    tile_within : (by : Iso) → IsReducedPlace g t by → (c : Cell) → Contains shape c → IsWithin 25000 (apply g by c)
    tile_within by is c m = wider (2 * 200 + 6 * 4096) 25000 (apply g by c) (omega arith) (placed_within 4096 200 by c is.0 (within_triple t by few is.1) (s.near c m))

    -- what takes a tile of the cover exactly to another
    taking_near : (from to by : Iso) → IsReducedPlace g t from → IsReducedPlace g t to → TakesExactly g shape t places from to by → IsNearPlace g by
    taking_near from to by p q h =
        let c : Cell = apply g from s.base in
        let start : IsWithin 25000 c = tile_within from p s.base s.inside in
        let in_image = member_map (apply g by) (image g from shape) c (member_map (apply g from) shape s.base s.inside) in
        let d = map_member (apply g to) shape (apply g by c) ((h.same (apply g by c)).0 in_image) in
        let end : IsWithin 25000 (apply g by c) = subst (IsWithin 25000) d.2 (tile_within to q d.0 d.1) in
        let less = h.is_symmetry.is_isometry in
        (less, wider (2 * 25000 + 25000) 100000 (cell by.da by.db) (omega arith) (translation_near g law 25000 25000 by c less start end))

    member_near : (count : ℕ) (members : List Member) → All (IsReducedPlace g t) places → AreClasses g shape t places count members → (k : ℕ) (x : Member) → slice_get members k ≡ Some x → IsNearPlace g x.by
    member_near count members reduced classes k x e =
        let r = representative members x.class k x e refl in
        let first = r.1.0 in
        let long = classes.one_each in
        let k_in = slice_get_within members k x e in
        let r_in = slice_get_within members r.0 first.0 first.1 in
        let k_place : k < length places = omega (arith, long, k_in) in
        let r_place : r.0 < length places = omega (arith, long, r_in) in
        let from = get_or places r.0 x.by in
        let to = get_or places k x.by in
        taking_near from to x.by (reduced r.0 x.by r_place) (reduced k x.by k_place)
        (classes.by_exact k r.0 x from to e r.1 (slice_get-get_or places r.0 x.by r_place) (slice_get-get_or places k x.by k_place))

pub classes_are_near : ClassesAreNear
classes_are_near g law n shape t places count members low most free few reduced classes =
    let s : IsNearShape g shape = near_shape g law n shape most free in
    recursion_from_All (λ (m : Member). IsNearPlace g m.by) members
    (λ k d l. member_near g law shape s t few places count members reduced classes k (get_or members k d) (slice_get-get_or members k d l))
