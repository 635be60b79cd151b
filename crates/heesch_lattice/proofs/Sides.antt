-- The sides of a lattice, as the code computes them.
use Rattle.std.proofs.Common.{◌≡◌, ℕ, ◌*◌, ◌≤◌, ℤ, pos, ◌*ℤ◌, ◌≤ℤ◌, to_z, of_z, w32, w64, arith}
use Rattle.std.proofs.lemmas.Int.{ints}
use Rattle.std.proofs.Math.Nat.{mul-le-mul_left, mul-le-mul_right}
use Rattle.heesch_grid.specs.Geometry.{Geometry, IsGrid}
use Rattle.heesch_grid.specs.Lattice.{Triple}
use Rattle.heesch_lattice.specs.Reduction.{IsSmallTriple}

abbrev pub side : ℤ → ℕ → ℤ
side unit n = to_z w64 (of_z w64 (to_z w64 (of_z w64 (to_z w32 (of_z w32 unit))) *ℤ to_z w64 n))

pub record IsSide (g : Geometry) (w : ℤ) (n : ℕ) : Type 0 where
  pub is : w ≡ pos g.unit *ℤ pos n
  pub from : pos 0 ≤ℤ w
  pub positive : 1 ≤ n → pos 1 ≤ℤ w
  pub small : w ≤ℤ pos 24576

pub side_of : (g : Geometry) → IsGrid g → (unit : ℤ) (n : ℕ) → unit ≡ pos g.unit → n ≤ 4096 → IsSide g (side unit n) n
side_of g law unit n e few =
    let some = law.unit_range.0 in
    let six = law.unit_range.1 in
    let u : to_z w64 (of_z w64 (to_z w32 (of_z w32 unit))) ≡ pos g.unit = omega (arith, ints, e, some, six) in
    let v : to_z w64 n ≡ pos n = omega (arith, ints, few) in
    let product : to_z w64 (of_z w64 (to_z w32 (of_z w32 unit))) *ℤ to_z w64 n ≡ pos (g.unit * n) = λ i. u i *ℤ v i in
    let a : g.unit * n ≤ 6 * n = mul-le-mul_right n six in
    let b : 1 * n ≤ g.unit * n = mul-le-mul_right n some in
    record {
      is = omega (arith, ints, product, a, few);
      from = omega (arith, ints, product, a, few);
      positive = λ h. omega (arith, ints, product, a, b, few, h);
      small = omega (arith, ints, product, a, few);
    }

pub few_columns : (p q : ℕ) → 1 ≤ q → p * q ≤ 4096 → p ≤ 4096
few_columns p q h small = let k : p * 1 ≤ p * q = mul-le-mul_left p h in omega (arith, k, small)

pub few_rows : (p q : ℕ) → 1 ≤ p → p * q ≤ 4096 → q ≤ 4096
few_rows p q h small = let k : 1 * q ≤ p * q = mul-le-mul_right q h in omega (arith, k, small)

-- the three sides of a triple
pub record AreSides (g : Geometry) (unit : ℤ) (t : Triple) : Type 0 where
  pub wide : IsSide g (side unit t.p) t.p
  pub high : IsSide g (side unit t.q) t.q
  pub slant : IsSide g (side unit t.s) t.s

pub sides_of : (g : Geometry) → IsGrid g → (unit : ℤ) (t : Triple) → unit ≡ pos g.unit → IsSmallTriple t → AreSides g unit t
sides_of g law unit t e h =
    let columns = few_columns t.p t.q h.is_triple.q_positive h.small in
    record {
      wide = side_of g law unit t.p e columns;
      high = side_of g law unit t.q e (few_rows t.p t.q h.is_triple.p_positive h.small);
      slant = side_of g law unit t.s e (let below = h.is_triple.s_below in omega (arith, columns, below));
    }
