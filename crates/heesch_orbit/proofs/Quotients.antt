-- The vectors of a lattice by two exact quotients.
use Rattle.std.proofs.Common.{◌≡◌, sym, ap, ◌∙◌, ℕ, ◌*◌, ◌≤◌, ℤ, pos, ◌+ℤ◌, ◌-ℤ◌, ◌*ℤ◌, Bool, true, false, true≢false, Option, Some, None, IfSome, IfNone, to_z, of_z, w32, arith}
use Rattle.std.specs.Option.{is_some}
use Rattle.std.proofs.Math.Nat.{mul-le-mul_left, mul-le-mul_right}
use Rattle.std.proofs.lemmas.Int.{ints}
use Rattle.heesch_grid.specs.declared.Cell.{Cell}
use Rattle.heesch_grid.specs.Integers.{mul_comm}
use Rattle.heesch_grid.specs.Geometry.{Geometry, IsGrid}
use Rattle.heesch_grid.specs.Lattice.{Triple}
use Rattle.heesch_grid.proofs.Quotients.{one_quotient}
use Rattle.heesch_orbit.specs.Steps.{IsVector}

-- p and q of a small triple are small
pub side_small : (p q : ℕ) → 1 ≤ p → 1 ≤ q → p * q ≤ 4096 → (p ≤ 4096) × (q ≤ 4096)
side_small p q k l h = (left p q l h, right p q k h)
  where
    left : (p q : ℕ) → 1 ≤ q → p * q ≤ 4096 → p ≤ 4096
    left p q l h = let m : p * 1 ≤ p * q = mul-le-mul_left p l in omega (arith, m)

    right : (p q : ℕ) → 1 ≤ p → p * q ≤ 4096 → q ≤ 4096
    right p q k h = let m : 1 * q ≤ p * q = mul-le-mul_right q k in omega (arith, m)

-- the quotient of the second number is j, and that of what is left of the first is i
pub vector_of : (t : Triple) (v : Cell) (i j : ℤ) → pos t.q *ℤ j ≡ v.b → pos t.p *ℤ i ≡ v.a -ℤ (j *ℤ pos t.s) → IsVector t v
vector_of t v i j b a = record { i = i; j = j; in_a = regroup v.a (j *ℤ pos t.s) (pos t.p *ℤ i) (i *ℤ pos t.p) a (mul_comm i (pos t.p)); in_b = sym b ∙ mul_comm (pos t.q) j }
  where
    regroup : (x y z w : ℤ) → z ≡ x -ℤ y → w ≡ z → x ≡ w +ℤ y
    regroup x y z w e f = omega (arith, ints)

pub vector_b : (t : Triple) (v : Cell) → (r : IsVector t v) → pos t.q *ℤ r.j ≡ v.b
vector_b t v r = mul_comm (pos t.q) r.j ∙ sym r.in_b

pub vector_a : (t : Triple) (v : Cell) (j : ℤ) → 1 ≤ t.q → pos t.q *ℤ j ≡ v.b → (r : IsVector t v) → pos t.p *ℤ r.i ≡ v.a -ℤ (j *ℤ pos t.s)
vector_a t v j l b r =
    let same : r.j ≡ j = one_quotient t.q r.j j v.b l (vector_b t v r) b in
    regroup v.a (r.i *ℤ pos t.p) (r.j *ℤ pos t.s) (j *ℤ pos t.s) (pos t.p *ℤ r.i) r.in_a (mul_comm (pos t.p) r.i) (ap (λ k. k *ℤ pos t.s) same)
  where
    regroup : (x y z w u : ℤ) → x ≡ y +ℤ z → u ≡ y → z ≡ w → u ≡ x -ℤ w
    regroup x y z w u e f h = omega (arith, ints)

-- where the first quotient is j, the second decides
pub decided : (t : Triple) (v : Cell) (j n m : ℤ) (o : Option ℤ) (b : Bool) → b ≡ is_some o → n ≡ pos t.p → m ≡ v.a -ℤ (j *ℤ pos t.s) → pos t.q *ℤ j ≡ v.b → 1 ≤ t.q → IfSome o (λ i. n *ℤ i ≡ m) → IfNone o ((i : ℤ) → n *ℤ i ≡ m → ⊥) → (b ≡ true → IsVector t v) × (IsVector t v → b ≡ true)
decided t v j n m (Some i) b is p_is m_is at_b l some none =
    ((λ e. vector_of t v i j at_b (ap (λ k. k *ℤ i) (sym p_is) ∙ some ∙ m_is)), (λ r. is))
decided t v j n m None b is p_is m_is at_b l some none =
    ((λ e. absurd (true≢false (sym e ∙ is))), (λ r. absurd (none r.i (ap (λ k. k *ℤ r.i) p_is ∙ vector_a t v j l at_b r ∙ sym m_is))))

-- where there is no first quotient, there is no vector
pub undecided : (t : Triple) (v : Cell) (n m : ℤ) → n ≡ pos t.q → m ≡ v.b → ((j : ℤ) → n *ℤ j ≡ m → ⊥) → (false ≡ true → IsVector t v) × (IsVector t v → false ≡ true)
undecided t v n m q_is m_is none =
    ((λ e. absurd (true≢false (sym e))), (λ r. absurd (none r.j (ap (λ k. k *ℤ r.j) q_is ∙ vector_b t v r ∙ sym m_is))))

-- a number as the code reads it
abbrev pub read : ℤ → ℤ
read z = to_z w32 (of_z w32 z)

pub read_unit : (g : Geometry) → IsGrid g → (u : ℤ) → u ≡ pos g.unit → read u ≡ pos g.unit
read_unit g law u e = let low = law.unit_range.0 in let high = law.unit_range.1 in omega (arith, ints, low, high, e)
