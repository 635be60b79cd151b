-- The lines of a cover, and triples of few units.
use Rattle.std.proofs.Common.{◌≡◌, ℕ, zero, suc, ◌+◌, ◌*◌, ◌<◌, ◌≤◌, List, [], ◌∷◌, length, take, All, arith, subst, ap, max, inl, inr, add-one, zero-le}
use Rattle.std.specs.Prelude.{Some}
use Rattle.std.specs.List.{AllByRecursion, slice_get}
use Rattle.std.proofs.lemmas.Int.{ints}
use Rattle.std.proofs.lemmas.List.Sums.{fold_more}
use Rattle.std.proofs.lemmas.List.Elements.{recursion_from_All}
use Rattle.std.proofs.lemmas.Option.{slice_get_cases}
use Rattle.std.proofs.Math.Seq.{take-length}
use Rattle.std.proofs.Math.Nat.{mul-le-mul, mul-le-mul_left, mul-le-mul_right}
use Rattle.heesch_grid.specs.declared.isometries.Iso.{Iso}
use Rattle.heesch_grid.specs.Geometry.{Geometry, IsGrid}
use Rattle.heesch_grid.specs.Lattice.{Triple, IsTriple}
use Rattle.heesch_grid.specs.Symmetry.{Member, greatest_class}
use Rattle.heesch_lattice.specs.Reduction.{IsSmallTriple}
use Rattle.heesch_cert.specs.Reduced.{IsReducedPlace}
use Rattle.heesch_written.specs.Near.{IsNearPlace}
use Rattle.heesch_text.specs.Catalogue.{tile_lines}
use Rattle.heesch_line.specs.Forms.{IsPlace}
use Rattle.heesch_written.proofs.Proven.{IsLineIf}

-- ---- triples

-- no more units than a domain of few tiles of few cells has cells
few_units : (per area n m : ℕ) → 1 ≤ per → per * area ≡ n * m → n ≤ 32 → m ≤ 12 → area ≤ 384
few_units per area n m low e n_high m_high =
    let once : 1 * area ≤ per * area = mul-le-mul_right area low in
    let most : n * m ≤ 32 * 12 = mul-le-mul n_high m_high in
    omega arith

pub small_triple : (g : Geometry) → IsGrid g → (t : Triple) (n m : ℕ) → IsTriple t → g.per * (t.p * t.q) ≡ n * m → n ≤ 32 → m ≤ 12 → IsSmallTriple t
small_triple g law t n m is e n_high m_high =
    let few = few_units g.per (t.p * t.q) n m law.per_range.0 e n_high m_high in
    record { is_triple = is; small = omega arith }

-- ---- places

pub near_place : (g : Geometry) → IsGrid g → (by : Iso) → IsNearPlace g by → IsPlace by
near_place g law by h = record {
  turn_range = (let t = law.turns_range.1 in let u : by.turn < g.turns = h.0 in omega arith);
  da_range = (h.1.a_low, h.1.a_high);
  db_range = (h.1.b_low, h.1.b_high);
}

reduced_place : (g : Geometry) → IsGrid g → (t : Triple) → IsSmallTriple t → (by : Iso) → IsReducedPlace g t by → IsPlace by
reduced_place g law t small by h =
    let p_small : t.p * 1 ≤ t.p * t.q = mul-le-mul_left t.p small.is_triple.q_positive in
    let q_small : 1 * t.q ≤ t.p * t.q = mul-le-mul_right t.q small.is_triple.p_positive in
    let p_high : t.p ≤ 4096 = (let s = small.small in omega arith) in
    let q_high : t.q ≤ 4096 = (let s = small.small in omega arith) in
    record {
      turn_range = (let t = law.turns_range.1 in let u : by.turn < g.turns = h.0 in omega arith);
      da_range = (let low = h.1.da_from in let high = h.1.da_below in (omega (arith, ints), omega (arith, ints)));
      db_range = (let low = h.1.db_from in let high = h.1.db_below in (omega (arith, ints), omega (arith, ints)));
    }

-- ---- tiles

written_tiles : (g : Geometry) → IsGrid g → (t : Triple) → IsSmallTriple t → (places : List Iso) (members : List Member) → AllByRecursion (IsReducedPlace g t) places → AllByRecursion (λ (m : Member). IsNearPlace g m.by) members → AllByRecursion IsLineIf (tile_lines places members)
written_tiles g law t small [] members h k = tt
written_tiles g law t small (p ∷ places) [] h k = tt
written_tiles g law t small (p ∷ places) (m ∷ members) h k = (λ n. (reduced_place g law t small p h.0, n, near_place g law m.by k.0), written_tiles g law t small places members h.1 k.1)

pub tiles_hold : (g : Geometry) → IsGrid g → (t : Triple) → IsSmallTriple t → (places : List Iso) (members : List Member) → All (IsReducedPlace g t) places → AllByRecursion (λ (m : Member). IsNearPlace g m.by) members → AllByRecursion IsLineIf (tile_lines places members)
tiles_hold g law t small places members h k = written_tiles g law t small places members (recursion_from_All (IsReducedPlace g t) places h) k

-- ---- classes

-- each class is at most one above those before it
abbrev AreNumbered : List Member → Type 0
AreNumbered members = (n : ℕ) (x : Member) → slice_get members n ≡ Some x → (1 ≤ x.class) × (x.class ≤ greatest_class (take n members) + 1)

one_more : (members : List Member) → AreNumbered members → (n : ℕ) → n < length members → greatest_class (take n members) ≤ n → greatest_class (take (n + 1) members) ≤ n + 1
one_more members h n l less =
    elim (slice_get_cases members n).1 [
      | inl w ↦
          let more = fold_more (λ (m : ℕ) (member : Member). max m member.class) 0 members n w.0 w.1 in
          let here = ap (λ (m : Member). m.class) w.3 in
          let bound = (h n w.0 w.2).1 in
          omega arith
      | inr w ↦ absurd (omega (arith, w.0))
    ]

greatest_of_first : (members : List Member) → AreNumbered members → (n : ℕ) → n ≤ length members → greatest_class (take n members) ≤ n
greatest_of_first members h zero l = zero-le
greatest_of_first members h (suc n) l = subst (λ (k : ℕ). greatest_class (take k members) ≤ k) (add-one n) (one_more members h n (omega arith) (greatest_of_first members h n (omega arith)))

pub few_classes : (members : List Member) → AreNumbered members → greatest_class members ≤ length members
few_classes members h = subst (λ (ms : List Member). greatest_class ms ≤ length members) (take-length members) (greatest_of_first members h (length members) (omega arith))
