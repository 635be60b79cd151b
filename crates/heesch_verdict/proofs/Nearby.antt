-- Canonical shapes, and the places of covers of small domains, lie near 0; the places of plain tilings are reduced.
use Rattle.std.proofs.Common.{◌≡◌, ◌*◌, ◌≤◌, ℕ, ℤ, pos, ◌≤ℤ◌, ◌<ℤ◌, List, arith, All}
use Rattle.std.proofs.Math.Nat.{mul-le-mul_left, mul-le-mul_right}
use Rattle.std.proofs.lemmas.Int.{ints}
use Rattle.std.proofs.lemmas.List.Elements.{All-weaker}
use Rattle.heesch_grid.specs.declared.Cell.{Cell}
use Rattle.heesch_grid.specs.declared.isometries.Iso.{Iso}
use Rattle.heesch_grid.specs.Cells.{cell}
use Rattle.heesch_grid.specs.Geometry.{Geometry, IsGrid}
use Rattle.heesch_grid.specs.Lattice.{Triple, IsTriple, IsTripleOfDomain}
use Rattle.heesch_grid.specs.Polyform.{IsCanonicalListOf}
use Rattle.heesch_grid.specs.Tiling.{no_move, half_turned}
use Rattle.heesch_grid.specs.Vectors.{IsWithin}
use Rattle.heesch_cert.specs.Reduced.{IsReducedPlace}
use Rattle.heesch_shape.proofs.Near.{canonical_within}
use Rattle.heesch_shape.specs.Walks.{IsShape}
use Rattle.heesch_tiling.specs.Counting.{IsInRange}
use Rattle.heesch_verdict.specs.Shapes.{IsCanonicalShape}

wider : (c : Cell) → IsWithin 200 c → IsWithin 100000 c
wider c w = record { a_low = omega (arith, ints, w.a_low); a_high = omega (arith, ints, w.a_high); b_low = omega (arith, ints, w.b_low); b_high = omega (arith, ints, w.b_high) }

pub canonical_shape : (g : Geometry) → IsGrid g → (shape : List Cell) → IsShape g shape → IsCanonicalListOf g shape shape → IsCanonicalShape g shape
canonical_shape g law shape form canonical = record {
  is_shape = form;
  canonical = canonical;
  near = λ c h. wider c (canonical_within g law shape shape form.polyform canonical form.few c h);
}

-- neither side of a triple of a small domain is long
sides : (per p q n m : ℕ) → 1 ≤ per → 1 ≤ p → 1 ≤ q → n ≤ 32 → m ≤ 12 → per * (p * q) ≡ n * m → (p ≤ 384) × (q ≤ 384)
sides per p q n m some wide high few tiles is =
    let all : 1 * (p * q) ≤ per * (p * q) = mul-le-mul_right (p * q) some in
    let columns : p * 1 ≤ p * q = mul-le-mul_left p high in
    let rows : 1 * q ≤ p * q = mul-le-mul_right q wide in
    let most : n * m ≤ n * 12 = mul-le-mul_left n tiles in
    (omega (arith, all, columns, most, is, few), omega (arith, all, rows, most, is, few))

near : (da db : ℤ) (p q : ℕ) → p ≤ 384 → q ≤ 384 → pos 0 ≤ℤ da → da <ℤ pos p → pos 0 ≤ℤ db → db <ℤ pos q → IsWithin 100000 (cell da db)
near da db p q narrow low a_from a_below b_from b_below = record { a_low = omega (arith, ints); a_high = omega (arith, ints); b_low = omega (arith, ints); b_high = omega (arith, ints) }

module _ (g : Geometry) (law : IsGrid g) where
  pub still_reduced : (t : Triple) → IsTriple t → IsReducedPlace g t no_move
  still_reduced t h =
      let some = law.turns_range.0 in
      let wide = h.p_positive in
      let high = h.q_positive in
      (omega (arith, some), record { da_from = omega (arith, ints); da_below = omega (arith, ints, wide); db_from = omega (arith, ints); db_below = omega (arith, ints, high) })

  pub half_turn_reduced : (t : Triple) (da db : ℤ) → pos 0 ≤ℤ da → da <ℤ pos t.p → pos 0 ≤ℤ db → db <ℤ pos t.q → IsReducedPlace g t (half_turned g da db)
  half_turn_reduced t da db a_from a_below b_from b_below = (law.half_turn_below, record { da_from = a_from; da_below = a_below; db_from = b_from; db_below = b_below })

  module _ (n m : ℕ) (few : n ≤ 32) (tiles : m ≤ 12) (t : Triple) (domain : IsTripleOfDomain g n m t) where
    pub sides_of : (t.p ≤ 384) × (t.q ≤ 384)
    sides_of = sides g.per t.p t.q n m law.per_range.0 domain.is_triple.p_positive domain.is_triple.q_positive few tiles domain.area

    pub places_in_range : (places : List Iso) → All (IsReducedPlace g t) places → All (IsInRange g) places
    places_in_range places h =
        All-weaker (IsReducedPlace g t) (IsInRange g) (λ by w. record { turn = w.0; near = near by.da by.db t.p t.q sides_of.0 sides_of.1 w.1.da_from w.1.da_below w.1.db_from w.1.db_below }) places h
