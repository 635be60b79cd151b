-- Places of cells and of spots in rows of marks.
use Rattle.std.proofs.Common.{◌≡◌, refl, ap, ◌∙◌, ℕ, ◌+◌, ◌-◌, ◌*◌, ◌<◌, ◌≤◌, ℤ, pos, negsuc, ◌+ℤ◌, ◌≤ℤ◌, ◌<ℤ◌, nat_abs, true, ◌&&◌, ◌⊎◌, inl, inr, arith}
use Rattle.std.specs.Prelude.{int_lt, nat_lt}
use Rattle.std.specs.Ordering.{int_eq}
use Rattle.std.proofs.lemmas.Nat.{mul-add-lt, same_from_place, mul-le}
use Rattle.std.proofs.lemmas.Int.{ints}
use Rattle.std.specs.Cmp.{signed_Decides}
use Rattle.std.proofs.lemmas.Bool.{cases_lt, and_from, lt-ltb}
use Rattle.heesch_grid.specs.declared.Cell.{Cell}
use Rattle.heesch_grid.specs.Cells.{cell_before, same_cell}
use Rattle.heesch_grid.specs.Pairs.{Cell-eta, or-left, or-right, same_cell-is}
use Rattle.heesch_grid.specs.Vectors.{IsWithin, plus, minus}
use Rattle.heesch_place.specs.declared.spots.Spot.{Spot}
use Rattle.heesch_place.specs.Spots.{cell_place, seen_from, shifted, spot_before, spot_place, width}

-- a coordinate that isn't below the corner lies as far above it as its place says
pub above : (z : ℤ) (low : ℕ) → pos 0 ≤ℤ (z +ℤ pos low) → pos (nat_abs (z +ℤ pos low)) ≡ z +ℤ pos low
above z low h = go (z +ℤ pos low) h
  where
    go : (x : ℤ) → pos 0 ≤ℤ x → pos (nat_abs x) ≡ x
    go (pos n) l = refl
    go (negsuc n) l = absurd (omega (arith, ints))

pub less_of : (x y : ℤ) → x <ℤ y → int_lt x y ≡ true
less_of x y h = grind (arith, ints)

-- rows and columns of a cell within the radius
module _ (low : ℕ) (c : Cell) (w : IsWithin low c) where
  pub row_is : pos (nat_abs (c.b +ℤ pos low)) ≡ c.b +ℤ pos low
  row_is = above c.b low (omega (arith, ints, w.b_low))

  pub column_is : pos (nat_abs (c.a +ℤ pos low)) ≡ c.a +ℤ pos low
  column_is = above c.a low (omega (arith, ints, w.a_low))

  pub row_within : nat_abs (c.b +ℤ pos low) ≤ 2 * low
  row_within = omega (arith, ints, row_is, w.b_high)

  pub column_within : nat_abs (c.a +ℤ pos low) ≤ 2 * low
  column_within = omega (arith, ints, column_is, w.a_high)

  pub place_below : (radius : ℕ) → low ≤ radius → cell_place (width radius) low c < width radius * width radius
  place_below radius l =
      let r = row_within in
      let k = column_within in
      mul-add-lt (nat_abs (c.b +ℤ pos low)) (width radius) (nat_abs (c.a +ℤ pos low)) (width radius) (omega arith) (omega arith)

pub spot_below : (radius forms low : ℕ) (s : Spot) → low ≤ radius → IsWithin low s.first → s.form < forms → spot_place (width radius) low forms s < width radius * width radius * forms
spot_below radius forms low s l w f =
    let h = mul-add-lt (cell_place (width radius) low s.first) forms s.form (width radius * width radius) (place_below low s.first w radius l) f in
    omega (arith, h)

-- a place that comes before another stands in an earlier row, or in an earlier column of the same row
rows_first : (a b c d w : ℕ) → b < w → d < w → a * w + b < c * w + d → (a < c) ⊎ ((a ≡ c) × (b < d))
rows_first a b c d w lb ld less = elim (cases_lt a c) [
  | inl l ↦ inl l
  | inr high ↦ elim (cases_lt c a) [
    | inl l ↦ let m : (c + 1) * w ≤ a * w = mul-le (c + 1) w a w (omega (arith, l)) (omega arith) in absurd (omega (arith, m, less, lb, ld))
    | inr low ↦ let e : a ≡ c = omega (arith, high, low) in let f = ap (λ n. n * w) e in inr (e, omega (arith, f, less))
  ]
]

-- the same places, counted from a cell that lies further up
pub places_add : (wide m n : ℕ) (c d : Cell) → IsWithin m c → IsWithin n d → cell_place wide m c + cell_place wide n d ≡ cell_place wide (m + n) (plus c d)
places_add wide m n c d wc wd =
    let cr = row_is m c wc in
    let ck = column_is m c wc in
    let dr = row_is n d wd in
    let dk = column_is n d wd in
    let sum : IsWithin (m + n) (plus c d) = record { a_low = omega (arith, ints, wc.a_low, wd.a_low); a_high = omega (arith, ints, wc.a_high, wd.a_high); b_low = omega (arith, ints, wc.b_low, wd.b_low); b_high = omega (arith, ints, wc.b_high, wd.b_high) } in
    let sr = row_is (m + n) (plus c d) sum in
    let sk = column_is (m + n) (plus c d) sum in
    let rows : nat_abs ((plus c d).b +ℤ pos (m + n)) ≡ nat_abs (c.b +ℤ pos m) + nat_abs (d.b +ℤ pos n) = omega (arith, ints, cr, dr, sr) in
    let columns : nat_abs ((plus c d).a +ℤ pos (m + n)) ≡ nat_abs (c.a +ℤ pos m) + nat_abs (d.a +ℤ pos n) = omega (arith, ints, ck, dk, sk) in
    let across : (nat_abs (c.b +ℤ pos m) + nat_abs (d.b +ℤ pos n)) * wide ≡ nat_abs (c.b +ℤ pos m) * wide + nat_abs (d.b +ℤ pos n) * wide = omega arith in
    let whole = ap (λ r. r * wide) rows in
    omega (arith, whole, across, columns)

-- two spots have two places
module _ (radius forms : ℕ) (s t : Spot) (ws : IsWithin radius s.first) (wt : IsWithin radius t.first) (fs : s.form < forms) (ft : t.form < forms) where
  same_first : cell_place (width radius) radius s.first ≡ cell_place (width radius) radius t.first → s.first ≡ t.first
  same_first e =
      let sk = column_within radius s.first ws in
      let tk = column_within radius t.first wt in
      let both = same_from_place (nat_abs (s.first.b +ℤ pos radius)) (nat_abs (s.first.a +ℤ pos radius)) (nat_abs (t.first.b +ℤ pos radius)) (nat_abs (t.first.a +ℤ pos radius)) (width radius) (omega arith) (omega arith) e in
      let rows = both.0 in
      let columns = both.1 in
      let sb = row_is radius s.first ws in
      let sa = column_is radius s.first ws in
      let tb = row_is radius t.first wt in
      let ta = column_is radius t.first wt in
      Cell-eta s.first t.first (omega (arith, ints, columns, sa, ta)) (omega (arith, ints, rows, sb, tb))

  cells_before_of : cell_place (width radius) radius s.first < cell_place (width radius) radius t.first → cell_before s.first t.first ≡ true
  cells_before_of l =
      let sk = column_within radius s.first ws in
      let tk = column_within radius t.first wt in
      let sb = row_is radius s.first ws in
      let sa = column_is radius s.first ws in
      let tb = row_is radius t.first wt in
      let ta = column_is radius t.first wt in
      elim (rows_first (nat_abs (s.first.b +ℤ pos radius)) (nat_abs (s.first.a +ℤ pos radius)) (nat_abs (t.first.b +ℤ pos radius)) (nat_abs (t.first.a +ℤ pos radius)) (width radius) (omega arith) (omega arith) l) [
        | inl k ↦ or-left (int_lt s.first.b t.first.b) (int_eq s.first.b t.first.b && int_lt s.first.a t.first.a) (less_of s.first.b t.first.b (omega (arith, ints, sb, tb, k)))
        | inr k ↦ let rows = k.0 in let columns = k.1 in
            or-right (int_lt s.first.b t.first.b) (int_eq s.first.b t.first.b && int_lt s.first.a t.first.a)
            (and_from (int_eq s.first.b t.first.b) (int_lt s.first.a t.first.a) ((signed_Decides s.first.b t.first.b).1 (omega (arith, ints, sb, tb, rows))) (less_of s.first.a t.first.a (omega (arith, ints, sa, ta, columns))))
      ]

  pub same_place : spot_place (width radius) radius forms s ≡ spot_place (width radius) radius forms t → s ≡ t
  same_place e =
      let cells = same_from_place (cell_place (width radius) radius s.first) s.form (cell_place (width radius) radius t.first) t.form forms fs ft e in
      let first = same_first cells.0 in
      let form : s.form ≡ t.form = cells.1 in
      λ i. record { form = form i; first = first i }

  pub place_before : spot_place (width radius) radius forms s < spot_place (width radius) radius forms t → spot_before s t ≡ true
  place_before less =
      elim (rows_first (cell_place (width radius) radius s.first) s.form (cell_place (width radius) radius t.first) t.form forms fs ft less) [
        | inl l ↦ or-left (cell_before s.first t.first) (same_cell s.first t.first && nat_lt s.form t.form) (cells_before_of l)
        | inr e ↦ or-right (cell_before s.first t.first) (same_cell s.first t.first && nat_lt s.form t.form)
            (and_from (same_cell s.first t.first) (nat_lt s.form t.form) (same_cell-is s.first t.first (same_first e.0)) (lt-ltb s.form t.form e.1))
      ]

-- ---- places counted from a cell further up
module _ (radius reach count : ℕ) (c x : Cell) (s : Spot) (few : reach ≤ radius) (wc : IsWithin (radius - reach) c) (ws : IsWithin reach (minus s.first x)) where
  pub shifted_within : IsWithin radius (shifted (minus c x) s).first
  shifted_within = record { a_low = omega (arith, ints, few, wc.a_low, ws.a_low); a_high = omega (arith, ints, few, wc.a_high, ws.a_high); b_low = omega (arith, ints, few, wc.b_low, ws.b_low); b_high = omega (arith, ints, few, wc.b_high, ws.b_high) }

  pub place_behind : cell_place (width radius) (radius - reach) c * count + spot_place (width radius) reach count (seen_from x s) ≡ spot_place (width radius) radius count (shifted (minus c x) s)
  place_behind =
      let wide = width radius in
      let sum : radius - reach + reach ≡ radius = omega (arith, few) in
      let cells : plus c (minus s.first x) ≡ plus (minus c x) s.first = Cell-eta (plus c (minus s.first x)) (plus (minus c x) s.first) (omega (arith, ints)) (omega (arith, ints)) in
      let all : cell_place wide (radius - reach) c + cell_place wide reach (minus s.first x) ≡ cell_place wide radius (plus (minus c x) s.first) = places_add wide (radius - reach) reach c (minus s.first x) wc ws ∙ (λ i. cell_place wide (sum i) (cells i)) in
      let each = ap (λ n. n * count) all in
      omega (arith, each)
