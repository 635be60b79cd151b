-- Places in a window.
use Rattle.std.proofs.Common.{◌≡◌, refl, sym, ap, subst, ◌∙◌, ℕ, suc, ◌+◌, ◌*◌, ◌/◌, ◌%◌, ◌<◌, ◌≤◌, ℤ, pos, negsuc, ◌+ℤ◌, ◌-ℤ◌, ◌≤ℤ◌, ◌<ℤ◌, nat_abs, int_le, true, ◌&&◌, ◌⊎◌, inl, inr, arith, lt-ltb}
use Rattle.std.specs.Prelude.{int_lt, nat_lt, nat_le}
use Rattle.std.specs.Ordering.{int_eq}
use borrow.Author.Tests.{ltb-true}
use Rattle.std.proofs.Math.Nat.{mul-le-mul_right}
use Rattle.std.proofs.lemmas.Nat.{div-add-mod', div-mul-add, mod-mul-add, div_below, mul-add-lt}
use Rattle.std.proofs.lemmas.Int.{ints}
use Rattle.std.proofs.lemmas.Bool.{and_parts, and_from, cases_Bool}
use Rattle.std.proofs.lemmas.Bool.Decides.{Decides-int_eq}
use Rattle.heesch_grid.specs.declared.Cell.{Cell}
use Rattle.heesch_grid.specs.Cells.{cell, cell_before}
use Rattle.heesch_grid.specs.Pairs.{Cell-eta, or-left, or-right}
use Rattle.heesch_region.specs.declared.window.Window.{Window}
use Rattle.heesch_region.specs.Windows.{bits, wide, size, column, row, is_inside, is_inner, strip, place, cell_of, order}

-- ---- numbers

-- the distance from x to y, where y is not below it
pub distance : (x y : ℤ) → x ≤ℤ y → pos (nat_abs (y -ℤ x)) ≡ y -ℤ x
distance x y h = go (y -ℤ x) (omega (arith, ints))
  where
    go : (z : ℤ) → pos 0 ≤ℤ z → pos (nat_abs z) ≡ z
    go (pos m) h = refl
    go (negsuc m) h = absurd (omega (arith, ints))

pub distance_of : (x : ℤ) (n : ℕ) → nat_abs ((x +ℤ pos n) -ℤ x) ≡ n
distance_of x n = let h = distance x (x +ℤ pos n) (omega (arith, ints)) in omega (arith, ints, h)

le-is : (x y : ℤ) → x ≤ℤ y → int_le x y ≡ true
le-is x y h = grind (arith, ints)

lt-is : (x y : ℤ) → x <ℤ y → int_lt x y ≡ true
lt-is x y h = grind (arith, ints)

le_true : (m n : ℕ) → nat_le m n ≡ true → m ≤ n
le_true m n h = grind arith

is_le : (m n : ℕ) → m ≤ n → nat_le m n ≡ true
is_le m n h = grind arith

pub mod_less : (n u : ℕ) → 1 ≤ u → n % u < u
mod_less n u h = omega arith

-- ---- the window's pairs

pub record IsIn (w : Window) (c : Cell) : Type 0 where
  pub a_low : w.low.a ≤ℤ c.a
  pub a_high : column w c < wide w
  pub b_low : w.low.b ≤ℤ c.b
  pub b_high : row w c < w.tall

pub inside-true : (w : Window) (c : Cell) → is_inside w c ≡ true → IsIn w c
inside-true w c h =
    let x = and_parts (int_le w.low.a c.a) (nat_lt (column w c) (wide w) && (int_le w.low.b c.b && nat_lt (row w c) w.tall)) h in
    let y = and_parts (nat_lt (column w c) (wide w)) (int_le w.low.b c.b && nat_lt (row w c) w.tall) x.1 in
    let z = and_parts (int_le w.low.b c.b) (nat_lt (row w c) w.tall) y.1 in
    record { a_low = omega (arith, ints, x.0); a_high = ltb-true (column w c) (wide w) y.0; b_low = omega (arith, ints, z.0); b_high = ltb-true (row w c) w.tall z.1 }

pub inside-is : (w : Window) (c : Cell) → IsIn w c → is_inside w c ≡ true
inside-is w c h =
    and_from (int_le w.low.a c.a) (nat_lt (column w c) (wide w) && (int_le w.low.b c.b && nat_lt (row w c) w.tall)) (le-is w.low.a c.a h.a_low)
    (and_from (nat_lt (column w c) (wide w)) (int_le w.low.b c.b && nat_lt (row w c) w.tall) (lt-ltb (column w c) (wide w) h.a_high)
    (and_from (int_le w.low.b c.b) (nat_lt (row w c) w.tall) (le-is w.low.b c.b h.b_low) (lt-ltb (row w c) w.tall h.b_high)))

-- the pair in this row and column
pub pair_at : (w : Window) (r k : ℕ) → r < w.tall → k < wide w → (c : Cell) → c.a ≡ w.low.a +ℤ pos k → c.b ≡ w.low.b +ℤ pos r → IsIn w c × (column w c ≡ k) × (row w c ≡ r)
pair_at w r k p q c a b =
    let col : column w c ≡ k = ap (λ z. nat_abs (z -ℤ w.low.a)) a ∙ distance_of w.low.a k in
    let rw_ : row w c ≡ r = ap (λ z. nat_abs (z -ℤ w.low.b)) b ∙ distance_of w.low.b r in
    (record { a_low = omega (arith, ints, a); a_high = omega (arith, col, q); b_low = omega (arith, ints, b); b_high = omega (arith, rw_, p) }, col, rw_)

pub order_at : (w : Window) (r k : ℕ) → r < w.tall → k < wide w → (c : Cell) → c.a ≡ w.low.a +ℤ pos k → c.b ≡ w.low.b +ℤ pos r → order w c ≡ r * wide w + k
order_at w r k p q c a b = let at = pair_at w r k p q c a b in ap (λ n. n * wide w + column w c) at.2 ∙ ap (λ n. r * wide w + n) at.1

-- an inner pair
pub record IsInner (w : Window) (c : Cell) : Type 0 where
  pub inside : IsIn w c
  pub spot_low : 64 ≤ column w c / w.unit
  pub spot_high : column w c / w.unit + 64 < bits w
  pub row_low : 4 ≤ row w c
  pub row_high : row w c + 4 < w.tall

pub inner-true : (w : Window) (c : Cell) → is_inner w c ≡ true → IsInner w c
inner-true w c h =
    let x = and_parts (is_inside w c) (nat_le 64 (column w c / w.unit) && (nat_lt (column w c / w.unit + 64) (bits w) && (nat_le 4 (row w c) && nat_lt (row w c + 4) w.tall))) h in
    let y = and_parts (nat_le 64 (column w c / w.unit)) (nat_lt (column w c / w.unit + 64) (bits w) && (nat_le 4 (row w c) && nat_lt (row w c + 4) w.tall)) x.1 in
    let z = and_parts (nat_lt (column w c / w.unit + 64) (bits w)) (nat_le 4 (row w c) && nat_lt (row w c + 4) w.tall) y.1 in
    let v = and_parts (nat_le 4 (row w c)) (nat_lt (row w c + 4) w.tall) z.1 in
    record { inside = inside-true w c x.0; spot_low = le_true 64 (column w c / w.unit) y.0; spot_high = ltb-true (column w c / w.unit + 64) (bits w) z.0; row_low = le_true 4 (row w c) v.0; row_high = ltb-true (row w c + 4) w.tall v.1 }

pub inner-is : (w : Window) (c : Cell) → IsInner w c → is_inner w c ≡ true
inner-is w c h =
    and_from (is_inside w c) (nat_le 64 (column w c / w.unit) && (nat_lt (column w c / w.unit + 64) (bits w) && (nat_le 4 (row w c) && nat_lt (row w c + 4) w.tall))) (inside-is w c h.inside)
    (and_from (nat_le 64 (column w c / w.unit)) (nat_lt (column w c / w.unit + 64) (bits w) && (nat_le 4 (row w c) && nat_lt (row w c + 4) w.tall)) (is_le 64 (column w c / w.unit) h.spot_low)
    (and_from (nat_lt (column w c / w.unit + 64) (bits w)) (nat_le 4 (row w c) && nat_lt (row w c + 4) w.tall) (lt-ltb (column w c / w.unit + 64) (bits w) h.spot_high)
    (and_from (nat_le 4 (row w c)) (nat_lt (row w c + 4) w.tall) (is_le 4 (row w c) h.row_low) (lt-ltb (row w c + 4) w.tall h.row_high))))

-- ---- places

-- a place is below 64 times the size
pub place_fits : (tall unit words r s x : ℕ) → r < tall → s < unit → x < 64 * words → (r * unit + s) * (64 * words) + x < 64 * (tall * unit * words)
place_fits tall unit words r s x p q l =
    let strips : r * unit + s < unit * tall = mul-add-lt r unit s tall p q in
    let all : (r * unit + s) * (64 * words) + x < 64 * words * (unit * tall) = mul-add-lt (r * unit + s) (64 * words) x (unit * tall) strips l in
    subst (λ n. (r * unit + s) * (64 * words) + x < n) (swap words unit tall) all
  where
    swap : (words unit tall : ℕ) → 64 * words * (unit * tall) ≡ 64 * (tall * unit * words)
    swap words unit tall = omega arith

module _ (w : Window) where
  pub spot_below : (c : Cell) → IsIn w c → column w c / w.unit < bits w
  spot_below c h = div_below (column w c) w.unit (bits w) (let k = w.some in omega (arith, k)) h.a_high

  pub place_below : (c : Cell) → IsIn w c → place w c < 64 * size w
  place_below c h = place_fits w.tall w.unit w.words (row w c) (column w c % w.unit) (column w c / w.unit) h.b_high (mod_less (column w c) w.unit w.some) (spot_below c h)

  -- the strip and the spot of a place
  pub place_parts : (c : Cell) → IsIn w c → (place w c / bits w ≡ strip w c) × (place w c % bits w ≡ column w c / w.unit)
  place_parts c h = (div-mul-add (strip w c) (bits w) (column w c / w.unit) (spot_below c h), mod-mul-add (strip w c) (bits w) (column w c / w.unit) (spot_below c h))

  pub strip_parts : (c : Cell) → (strip w c / w.unit ≡ row w c) × (strip w c % w.unit ≡ column w c % w.unit)
  strip_parts c =
      let l = mod_less (column w c) w.unit w.some in
      (div-mul-add (row w c) w.unit (column w c % w.unit) l, mod-mul-add (row w c) w.unit (column w c % w.unit) l)

  -- the pair at some spot of a pair's strip
  pub along : (c : Cell) (x : ℕ) → IsIn w c → column w c / w.unit + x < bits w → cell_of w (place w c + x) ≡ cell (c.a +ℤ pos (w.unit * x)) c.b
  along c x h l =
      let spot = column w c / w.unit in
      let rest = column w c % w.unit in
      let n = place w c + x in
      let together : n ≡ strip w c * bits w + (spot + x) = regroup (strip w c * bits w) spot x in
      let at : n / bits w ≡ strip w c = ap (λ m. m / bits w) together ∙ div-mul-add (strip w c) (bits w) (spot + x) l in
      let in_strip : n % bits w ≡ spot + x = ap (λ m. m % bits w) together ∙ mod-mul-add (strip w c) (bits w) (spot + x) l in
      let s = strip_parts c in
      let col : n % bits w * w.unit + n / bits w % w.unit ≡ column w c + w.unit * x =
      ap (λ m. m * w.unit + n / bits w % w.unit) in_strip
      ∙ ap (λ m. (spot + x) * w.unit + m % w.unit) at
      ∙ ap (λ m. (spot + x) * w.unit + m) s.1
      ∙ columns spot x w.unit rest (column w c) (div-add-mod' (column w c) w.unit) in
      let rows : n / bits w / w.unit ≡ row w c = ap (λ m. m / w.unit) at ∙ s.0 in
      let a = distance w.low.a c.a h.a_low in
      let b = distance w.low.b c.b h.b_low in
      Cell-eta (cell_of w n) (cell (c.a +ℤ pos (w.unit * x)) c.b) (ap (λ m. w.low.a +ℤ pos m) col ∙ sum_a w.low.a c.a (column w c) (w.unit * x) a) (ap (λ m. w.low.b +ℤ pos m) rows ∙ sum_b w.low.b c.b (row w c) b)
    where
      regroup : (p s x : ℕ) → p + s + x ≡ p + (s + x)
      regroup p s x = omega arith

      columns : (s x u r k : ℕ) → s * u + r ≡ k → (s + x) * u + r ≡ k + u * x
      columns s x u r k e = omega (arith, e)

      sum_a : (low a : ℤ) (k m : ℕ) → pos k ≡ a -ℤ low → low +ℤ pos (k + m) ≡ a +ℤ pos m
      sum_a low a k m e = omega (arith, ints, e)

      sum_b : (low b : ℤ) (k : ℕ) → pos k ≡ b -ℤ low → low +ℤ pos k ≡ b
      sum_b low b k e = omega (arith, ints, e)

  -- the pair of a place, and the place of a pair
  pub pair_of_place : (c : Cell) → IsIn w c → cell_of w (place w c) ≡ c
  pair_of_place c h =
      ap (cell_of w) (plus_zero (place w c)) ∙ along c 0 h (let l = spot_below c h in omega (arith, l)) ∙ Cell-eta (cell (c.a +ℤ pos (w.unit * 0)) c.b) c (none c.a w.unit) refl
    where
      plus_zero : (m : ℕ) → m ≡ m + 0
      plus_zero m = omega arith

      none : (a : ℤ) (u : ℕ) → a +ℤ pos (u * 0) ≡ a
      none a u = let e : u * 0 ≡ 0 = omega arith in omega (arith, ints, ap pos e)

  pub column_of : (n : ℕ) → column w (cell_of w n) ≡ n % bits w * w.unit + n / bits w % w.unit
  column_of n = distance_of w.low.a (n % bits w * w.unit + n / bits w % w.unit)

  pub row_of : (n : ℕ) → row w (cell_of w n) ≡ n / bits w / w.unit
  row_of n = distance_of w.low.b (n / bits w / w.unit)

  pub spot_of : (n : ℕ) → column w (cell_of w n) / w.unit ≡ n % bits w
  spot_of n = ap (λ m. m / w.unit) (column_of n) ∙ div-mul-add (n % bits w) w.unit (n / bits w % w.unit) (mod_less (n / bits w) w.unit w.some)

  pub strip_of : (n : ℕ) → strip w (cell_of w n) ≡ n / bits w
  strip_of n =
      ap (λ m. m * w.unit + column w (cell_of w n) % w.unit) (row_of n)
      ∙ ap (λ m. n / bits w / w.unit * w.unit + m) (ap (λ m. m % w.unit) (column_of n) ∙ mod-mul-add (n % bits w) w.unit (n / bits w % w.unit) (mod_less (n / bits w) w.unit w.some))
      ∙ div-add-mod' (n / bits w) w.unit

  pub place_of_pair : (n : ℕ) → place w (cell_of w n) ≡ n
  place_of_pair n = ap (λ m. m * bits w + column w (cell_of w n) / w.unit) (strip_of n) ∙ ap (λ m. n / bits w * bits w + m) (spot_of n) ∙ div-add-mod' n (bits w)

  pub pair_inside : (n : ℕ) → n < 64 * size w → IsIn w (cell_of w n)
  pair_inside n l =
      let some : 1 ≤ w.unit = w.some in
      let border : 3 ≤ w.words = w.border in
      let full : 0 < bits w = omega (arith, border) in
      let strips : n / bits w < w.tall * w.unit = div_below n (bits w) (w.tall * w.unit) full (subst (λ m. n < m) (swap w.words w.unit w.tall) l) in
      let rows : n / bits w / w.unit < w.tall = div_below (n / bits w) w.unit w.tall (omega (arith, some)) strips in
      let less : n % bits w * w.unit + n / bits w % w.unit < w.unit * bits w = mul-add-lt (n % bits w) w.unit (n / bits w % w.unit) (bits w) (omega (arith, full)) (mod_less (n / bits w) w.unit some) in
      (pair_at w (n / bits w / w.unit) (n % bits w * w.unit + n / bits w % w.unit) rows (subst (λ m. n % bits w * w.unit + n / bits w % w.unit < m) (turn w.unit (bits w)) less) (cell_of w n) refl refl).0
    where
      swap : (words unit tall : ℕ) → 64 * (tall * unit * words) ≡ tall * unit * (64 * words)
      swap words unit tall = omega arith

      turn : (u l : ℕ) → u * l ≡ l * u
      turn u l = omega arith

  pub place_same : (c d : Cell) → IsIn w c → IsIn w d → place w c ≡ place w d → c ≡ d
  place_same c d i j e = sym (pair_of_place c i) ∙ ap (cell_of w) e ∙ pair_of_place d j

  -- ---- the order of pairs

  row_less : (r s m c n : ℕ) → r < s → c < m → r * m + c < s * m + n
  row_less r s m c n h k = let l : suc r * m ≤ s * m = mul-le-mul_right {m = suc r} {n = s} m h in omega (arith, l)

  pub order_below : (c : Cell) → IsIn w c → order w c < w.tall * wide w
  order_below c h = let l = row_less (row w c) w.tall (wide w) (column w c) 0 h.b_high h.a_high in omega (arith, l)

  pub order_of : (c d : Cell) → IsIn w c → IsIn w d → order w c ≤ order w d → (cell_before c d ≡ true) ⊎ (c ≡ d)
  order_of c d i j h =
      elim (cases_Bool (int_lt c.b d.b)) [
        | inl t ↦ inl (or-left (int_lt c.b d.b) (int_eq c.b d.b && int_lt c.a d.a) t)
        | inr f ↦ elim (cases_Bool (int_lt d.b c.b)) [
          | inl t ↦
              let less : nat_abs (d.b -ℤ w.low.b) < nat_abs (c.b -ℤ w.low.b) = let x = distance w.low.b c.b i.b_low in let y = distance w.low.b d.b j.b_low in omega (arith, ints, x, y, t) in
              let l = row_less (nat_abs (d.b -ℤ w.low.b)) (nat_abs (c.b -ℤ w.low.b)) (wide w) (nat_abs (d.a -ℤ w.low.a)) (nat_abs (c.a -ℤ w.low.a)) less j.a_high in
              absurd (omega (arith, l, h))
          | inr k ↦
              let same : c.b ≡ d.b = omega (arith, ints, f, k) in
              let rows : nat_abs (c.b -ℤ w.low.b) * wide w ≡ nat_abs (d.b -ℤ w.low.b) * wide w = ap (λ z. nat_abs (z -ℤ w.low.b) * wide w) same in
              let columns : nat_abs (c.a -ℤ w.low.a) ≤ nat_abs (d.a -ℤ w.low.a) = omega (arith, rows, h) in
              elim (cases_Bool (int_lt c.a d.a)) [
                | inl t ↦ inl (or-right (int_lt c.b d.b) (int_eq c.b d.b && int_lt c.a d.a) (and_from (int_eq c.b d.b) (int_lt c.a d.a) ((Decides-int_eq c.b d.b).1 same) t))
                | inr n ↦ inr (Cell-eta c d (let x = distance w.low.a c.a i.a_low in let y = distance w.low.a d.a j.a_low in omega (arith, ints, x, y, n, columns)) same)
              ]
        ]
      ]

  pub order_before : (c d : Cell) → IsIn w c → IsIn w d → order w c < order w d → cell_before c d ≡ true
  order_before c d i j h = elim (order_of c d i j (omega (arith, h))) [ inl t ↦ t | inr e ↦ absurd (omega (arith, h, ap (order w) e)) ]

  pub order_same : (c d : Cell) → IsIn w c → IsIn w d → order w c ≡ order w d → c ≡ d
  order_same c d i j h =
      elim (order_of c d i j (omega (arith, h))) [
        | inl t ↦ elim (order_of d c j i (omega (arith, h))) [ inl s ↦ absurd (not_both c d t s) | inr e ↦ sym e ]
        | inr e ↦ e
      ]
    where
      not_both : (c d : Cell) → cell_before c d ≡ true → cell_before d c ≡ true → ⊥
      not_both c d t s = grind (arith, ints)
