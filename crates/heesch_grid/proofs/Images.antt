-- Images under isometries, from the laws of a grid.
use Rattle.std.proofs.Common.{◌≡◌, ℕ, zero, suc, ◌<◌, ◌≤◌, ◌*◌, ℤ, pos, neg_ℤ, ◌≤ℤ◌, ◌*ℤ◌, to_z, of_z, w32, sym, ap, ◌∙◌, arith}
use Rattle.std.proofs.lemmas.Int.{ints}
use Rattle.heesch_grid.specs.declared.Cell.{Cell}
use Rattle.heesch_grid.specs.Cells.{cell, origin}
use Rattle.heesch_grid.specs.Geometry.{Geometry, IsGrid}
use Rattle.heesch_grid.specs.Pairs.{within_abs, abs_within, Cell-eta, times_add}
use Rattle.heesch_grid.specs.Vectors.{IsWithin, negated, plus, times}
use Rattle.heesch_grid.specs.Integers.{mul_neg, small_multiple}

-- pairs within a bound are within a greater one
pub wider : (m n : ℕ) (c : Cell) → m ≤ n → IsWithin m c → IsWithin n c
wider m n c l w = record { a_low = omega (arith, ints, w.a_low); a_high = omega (arith, ints, w.a_high); b_low = omega (arith, ints, w.b_low); b_high = omega (arith, ints, w.b_high) }

times_suc : (n : ℕ) (c : Cell) → times (suc n) c ≡ plus c (times n c)
times_suc n c = Cell-eta (times (suc n) c) (plus c (times n c)) (omega (arith, ints)) (omega (arith, ints))

module _ (g : Geometry) (law : IsGrid g) where
  pub turn_within : (k n : ℕ) (c : Cell) → k < g.turns → IsWithin n c → IsWithin (2 * n) (g.turn k c)
  turn_within k n c less w =
      let b = law.bounded k less c in
      let s = abs_within n c w in
      let sa = s.0 in
      let sb = s.1 in
      within_abs (2 * n) (g.turn k c) (omega arith) (omega arith)

  turn_origin : (k : ℕ) → k < g.turns → g.turn k origin ≡ origin
  turn_origin k less =
      let e = law.additive k less origin origin in
      Cell-eta (g.turn k origin) origin (omega (arith, ints, ap (λ c. c.a) e)) (omega (arith, ints, ap (λ c. c.b) e))

  pub turn_times : (k n : ℕ) (c : Cell) → k < g.turns → g.turn k (times n c) ≡ times n (g.turn k c)
  turn_times k zero c less =
      let e : times 0 c ≡ origin = Cell-eta (times 0 c) origin (omega (arith, ints)) (omega (arith, ints)) in
      let f : origin ≡ times 0 (g.turn k c) = Cell-eta origin (times 0 (g.turn k c)) (omega (arith, ints)) (omega (arith, ints)) in
      ap (g.turn k) e ∙ turn_origin k less ∙ f
  turn_times k (suc n) c less =
      ap (g.turn k) (times_suc n c) ∙ law.additive k less c (times n c) ∙ ap (plus (g.turn k c)) (turn_times k n c less) ∙ sym (times_suc n (g.turn k c))

  -- the image under a turn and a translation by a multiple of the unit
  abbrev pub carried : ℕ → Cell → Cell → Cell
  carried k v c = plus (g.turn k c) (times g.unit v)

  pub carried_twice : (k l : ℕ) (u v c : Cell) → k < g.turns → l < g.turns → carried (g.compose k l) (plus (g.turn l u) v) c ≡ carried l v (carried k u c)
  carried_twice k l u v c kl ll =
      let moved = times_add g.unit (g.turn l u) v in
      let turned = law.additive l ll (g.turn k c) (times g.unit u) ∙ ap (plus (g.turn l (g.turn k c))) (turn_times l g.unit u ll) in
      let both = (law.compose k l kl ll).1 c in
      Cell-eta (carried (g.compose k l) (plus (g.turn l u) v) c) (carried l v (carried k u c))
      (omega (arith, ints, ap (λ c. c.a) moved, ap (λ c. c.a) turned, ap (λ c. c.a) both))
      (omega (arith, ints, ap (λ c. c.b) moved, ap (λ c. c.b) turned, ap (λ c. c.b) both))

  times_negated : (n : ℕ) (c : Cell) → times n (negated c) ≡ negated (times n c)
  times_negated n c = Cell-eta (times n (negated c)) (negated (times n c)) (mul_neg (pos n) c.a) (mul_neg (pos n) c.b)

  -- the isometry by turn k and v, where turns i and k undo each other
  pub carried_back : (k i : ℕ) (v c : Cell) → k < g.turns → i < g.turns → g.turn i (g.turn k c) ≡ c → carried i (negated (g.turn i v)) (carried k v c) ≡ c
  carried_back k i v c kl il undone =
      let turned = law.additive i il (g.turn k c) (times g.unit v) ∙ ap (plus (g.turn i (g.turn k c))) (turn_times i g.unit v il) in
      let moved = times_negated g.unit (g.turn i v) in
      Cell-eta (carried i (negated (g.turn i v)) (carried k v c)) c
      (omega (arith, ints, ap (λ c. c.a) moved, ap (λ c. c.a) turned, ap (λ c. c.a) undone))
      (omega (arith, ints, ap (λ c. c.b) moved, ap (λ c. c.b) turned, ap (λ c. c.b) undone))

  pub carried_forth : (k i : ℕ) (v c : Cell) → k < g.turns → i < g.turns → ((c : Cell) → g.turn k (g.turn i c) ≡ c) → carried k v (carried i (negated (g.turn i v)) c) ≡ c
  carried_forth k i v c kl il undone =
      let w = negated (g.turn i v) in
      let turned = law.additive k kl (g.turn i c) (times g.unit w) ∙ ap (plus (g.turn k (g.turn i c))) (turn_times k g.unit w kl) in
      let zero_sum : plus (g.turn i v) w ≡ origin = Cell-eta (plus (g.turn i v) w) origin (omega (arith, ints)) (omega (arith, ints)) in
      let opposite : plus (g.turn k (g.turn i v)) (g.turn k w) ≡ origin = sym (law.additive k kl (g.turn i v) w) ∙ ap (g.turn k) zero_sum ∙ turn_origin k kl in
      let scaled : plus (times g.unit (g.turn k (g.turn i v))) (times g.unit (g.turn k w)) ≡ times g.unit origin = sym (times_add g.unit (g.turn k (g.turn i v)) (g.turn k w)) ∙ ap (times g.unit) opposite in
      let back = ap (times g.unit) (undone v) in
      Cell-eta (carried k v (carried i w c)) c
      (omega (arith, ints, ap (λ c. c.a) turned, ap (λ c. c.a) scaled, ap (λ c. c.a) back, ap (λ c. c.a) (undone c)))
      (omega (arith, ints, ap (λ c. c.b) turned, ap (λ c. c.b) scaled, ap (λ c. c.b) back, ap (λ c. c.b) (undone c)))

-- a product of the unit, as the code computes it, with its bounds
pub unit_product : (g : Geometry) → IsGrid g → (r a b y : ℤ) (n : ℕ) → r ≡ (a *ℤ b) → a ≡ pos g.unit → b ≡ y → neg_ℤ (pos n) ≤ℤ y → y ≤ℤ pos n → (r ≡ (pos g.unit *ℤ y)) × (neg_ℤ (pos (6 * n)) ≤ℤ r) × (r ≤ℤ pos (6 * n))
unit_product g laws r a b y n e f h low high =
    let same = e ∙ ap (λ a. a *ℤ b) f ∙ ap (λ b. pos g.unit *ℤ b) h in
    let bounds = small_multiple g.unit y n laws.unit_range.1 low high in
    (same, omega (arith, ints, same, bounds.0, bounds.1), omega (arith, ints, same, bounds.0, bounds.1))

abbrev pub read : ℤ → ℤ
read z = to_z w32 (of_z w32 z)

-- what a turn makes of a short translation, with its bounds
pub turned_step : (g : Geometry) → IsGrid g → (k : ℕ) (m : Cell) (x y : ℤ) → k < g.turns → m ≡ g.turn k (cell (read x) (read y)) → IsWithin 100000 (cell x y) → (m ≡ g.turn k (cell x y)) × IsWithin 200000 m
turned_step g laws k m x y less e w =
    let same : cell (read x) (read y) ≡ cell x y = Cell-eta (cell (read x) (read y)) (cell x y) (omega (arith, ints)) (omega (arith, ints)) in
    let f : m ≡ g.turn k (cell x y) = e ∙ ap (g.turn k) same in
    let bound = turn_within g laws k 100000 (cell x y) less w in
    let ea = ap (λ c. c.a) f in
    let eb = ap (λ c. c.b) f in
    (f, record { a_low = omega (arith, ints, bound.a_low, ea); a_high = omega (arith, ints, bound.a_high, ea); b_low = omega (arith, ints, bound.b_low, eb); b_high = omega (arith, ints, bound.b_high, eb) })
