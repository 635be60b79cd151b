-- Boxes of cells, and the windows around them.
use Rattle.std.proofs.Common.{◌≡◌, sym, ap, subst, ◌∙◌, ℕ, ◌+◌, ◌*◌, ◌/◌, ◌%◌, ◌<◌, ◌≤◌, ℤ, pos, ◌+ℤ◌, ◌-ℤ◌, ◌≤ℤ◌, nat_abs, true, List, [], ◌∷◌, length, get_or, take, ◌⊎◌, inl, inr, arith, true≢false, neg_ℤ, ◌||◌}
use Rattle.std.specs.Int.{int_min, int_max}
use Rattle.std.proofs.lemmas.Int.{ints, clamps}
use Rattle.std.proofs.lemmas.Nat.{div-add-mod', div-mul-add, mul-add-lt, mod-mul-add, le-div, div_below, mul-le}
use Rattle.std.proofs.lemmas.List.Folds.{list_any_at, list_any_more}
use Rattle.std.proofs.lemmas.Bool.{or_cases}
use Rattle.heesch_grid.specs.declared.Cell.{Cell}
use Rattle.heesch_grid.specs.Cells.{cell, same_cell, has}
use Rattle.heesch_grid.specs.Vectors.{IsWithin}
use Rattle.heesch_grid.specs.Pairs.{Cell-eta, same_cell-true, same_cell-refl}
use Rattle.heesch_region.specs.declared.window.Window.{Window}
use Rattle.heesch_region.specs.Windows.{bits, wide, size, column, is_inner, cell_of}
use Rattle.heesch_region.specs.Spans.{IsBetween}
use Rattle.heesch_region.proofs.Places.{distance, mod_less, inner-is}

-- ---- sizes

pub quotient_less : (n u m : ℕ) → 1 ≤ u → n ≤ m → n / u ≤ m
quotient_less n u m some l = let k = div-add-mod' n u in below (n / u) u n m some (omega (arith, k)) l
  where
    grows : (q u : ℕ) → 1 ≤ u → q ≤ q * u
    grows q u some = let h = mul-le q 1 q u (omega arith) some in omega (arith, h)

    below : (q u n m : ℕ) → 1 ≤ u → q * u ≤ n → n ≤ m → q ≤ m
    below q u n m some k l = let h = grows q u some in omega (arith, h, k, l)

pub size_few : (w : Window) → size w ≤ 1674840
size_few w =
    let a = mul-le w.tall w.unit 4105 6 w.short w.few in
    mul-le (w.tall * w.unit) w.words 24630 68 a w.narrow

pub wide_few : (w : Window) → wide w ≤ 26112
wide_few w = mul-le (64 * w.words) w.unit 4352 6 (let l = w.narrow in omega (arith, l)) w.few

-- ---- the window around a box

pub inner_between : (w : Window) (first : ℤ) (low high : Cell) (columns rows : ℕ) → w.low.a +ℤ pos (64 * w.unit) ≡ first → first ≤ℤ low.a → pos columns ≡ high.a -ℤ first → w.words ≡ columns / w.unit / 64 + 3 → w.low.b +ℤ pos 4 ≡ low.b → pos rows ≡ high.b -ℤ low.b → w.tall ≡ rows + 9 → (c : Cell) → IsBetween low high c → is_inner w c ≡ true
inner_between w first low high columns rows start order wide_is words_is start_b rows_is tall_is c b =
    let a_from = b.a_from in
    let a_to = b.a_to in
    let b_from = b.b_from in
    let b_to = b.b_to in
    let u = w.unit in
    let k : ℕ = nat_abs (c.a -ℤ first) in
    let k_is : pos k ≡ c.a -ℤ first = distance first c.a (omega (arith, ints, a_from, order)) in
    let a_low : w.low.a ≤ℤ c.a = below_sum w.low.a c.a first (64 * u) start (omega (arith, ints, a_from, order)) in
    let col_is = distance w.low.a c.a a_low in
    let col : column w c ≡ 64 * u + k = columns_of w.low.a c.a first (column w c) k (64 * u) start k_is col_is in
    let parts : column w c ≡ (64 + k / u) * u + k % u = col ∙ split 64 k u (k / u) (k % u) (div-add-mod' k u) in
    let rest = mod_less k u w.some in
    let spot : column w c / u ≡ 64 + k / u = ap (λ n. n / u) parts ∙ div-mul-add (64 + k / u) u (k % u) rest in
    let most : k / u ≤ columns / u = le-div (k / u) columns u (positive u w.some) (least (k / u * u) (k % u) k columns (div-add-mod' k u) (omega (arith, ints, k_is, wide_is, a_to))) in
    let room : 64 + k / u + 64 < 64 * w.words = spots (k / u) (columns / u) w.words most words_is in
    let less : (64 + k / u) * u + k % u < u * (64 * w.words) = mul-add-lt (64 + k / u) u (k % u) (64 * w.words) (omega (arith, room)) rest in
    let b_low : w.low.b ≤ℤ c.b = omega (arith, ints, b_from, start_b) in
    let row_is = distance w.low.b c.b b_low in
    inner-is w c
    (record {
      inside = record { a_low = a_low; a_high = subst (λ n. n < wide w) (sym parts) (turned ((64 + k / u) * u + k % u) u (64 * w.words) less); b_low = b_low; b_high = omega (arith, ints, row_is, b_to, start_b, rows_is, tall_is) };
      spot_low = omega (arith, spot);
      spot_high = omega (arith, spot, room);
      row_low = omega (arith, ints, row_is, b_from, start_b);
      row_high = omega (arith, ints, row_is, b_to, start_b, rows_is, tall_is);
    })
  where
    below_sum : (low a first : ℤ) (m : ℕ) → low +ℤ pos m ≡ first → first ≤ℤ a → low ≤ℤ a
    below_sum low a first m e h = omega (arith, ints, e, h)

    columns_of : (low a first : ℤ) (n k m : ℕ) → low +ℤ pos m ≡ first → pos k ≡ a -ℤ first → pos n ≡ a -ℤ low → n ≡ m + k
    columns_of low a first n k m e f h = omega (arith, ints, e, f, h)

    split : (s k u q r : ℕ) → q * u + r ≡ k → s * u + k ≡ (s + q) * u + r
    split s k u q r e = omega (arith, e)

    positive : (u : ℕ) → 1 ≤ u → 0 < u
    positive u h = omega arith

    least : (p r k n : ℕ) → p + r ≡ k → k ≤ n → p ≤ n
    least p r k n e l = omega (arith, e, l)

    spots : (x q n : ℕ) → x ≤ q → n ≡ q / 64 + 3 → 64 + x + 64 < 64 * n
    spots x q n l e = omega (arith, l, e)

    turned : (n u l : ℕ) → n < u * l → n < l * u
    turned n u l h = omega (arith, h)

-- the first pair of a strip inside the border
pub first_is : (w : Window) (n : ℕ) → cell_of w (n * bits w + 64) ≡ cell (w.low.a +ℤ pos (64 * w.unit + n % w.unit)) (w.low.b +ℤ pos (n / w.unit))
first_is w n =
    let border : 3 ≤ w.words = w.border in
    let less : 64 < bits w = omega (arith, border) in
    let at : (n * bits w + 64) / bits w ≡ n = div-mul-add n (bits w) 64 less in
    let spot : (n * bits w + 64) % bits w ≡ 64 = mod-mul-add n (bits w) 64 less in
    Cell-eta (cell_of w (n * bits w + 64)) (cell (w.low.a +ℤ pos (64 * w.unit + n % w.unit)) (w.low.b +ℤ pos (n / w.unit)))
    (ap (λ m. w.low.a +ℤ pos (m * w.unit + (n * bits w + 64) / bits w % w.unit)) spot ∙ ap (λ m. w.low.a +ℤ pos (64 * w.unit + m % w.unit)) at)
    (ap (λ m. w.low.b +ℤ pos (m / w.unit)) at)

pub strip_rows : (n u tall : ℕ) → 1 ≤ u → 4 * u ≤ n → n + 4 * u < tall * u → (4 ≤ n / u) × (n / u + 4 < tall)
strip_rows n u tall some from to =
    (le-div 4 n u (positive u some) from, above n u tall some to)
  where
    positive : (u : ℕ) → 1 ≤ u → 0 < u
    positive u h = omega arith

    above : (n u tall : ℕ) → 1 ≤ u → n + 4 * u < tall * u → n / u + 4 < tall
    above n u tall some to = let e = div-mul-add' n u some in let h = div_below (n + 4 * u) u tall (positive u some) to in omega (arith, e, h)
      where
        div-mul-add' : (n u : ℕ) → 1 ≤ u → (n + 4 * u) / u ≡ n / u + 4
        div-mul-add' n u some = ap (λ m. m / u) (split n u (n / u) (n % u) (div-add-mod' n u)) ∙ div-mul-add (n / u + 4) u (n % u) (mod_less n u some)
          where
            split : (n u q r : ℕ) → q * u + r ≡ n → n + 4 * u ≡ (q + 4) * u + r
            split n u q r e = omega (arith, e)

pub first_near : (w : Window) (n : ℕ) → 4 * w.unit ≤ n → n + 4 * w.unit < w.tall * w.unit → IsWithin 1000000 (cell (w.low.a +ℤ pos (64 * w.unit + n % w.unit)) (w.low.b +ℤ pos (n / w.unit)))
first_near w n from to =
    let rows = strip_rows n w.unit w.tall w.some from to in
    near w.low.a w.low.b w.unit (n % w.unit) (n / w.unit) w.tall w.low_a w.high_a w.low_b w.high_b (mod_less n w.unit w.some) w.few rows.0 rows.1
  where
    near : (a b : ℤ) (u r q tall : ℕ) → neg_ℤ (pos 1000000) ≤ℤ (a +ℤ pos (64 * u)) → (a +ℤ pos (64 * u)) ≤ℤ pos 999990 → neg_ℤ (pos 1000000) ≤ℤ (b +ℤ pos 4) → (b +ℤ pos tall) ≤ℤ pos 1000005 → r < u → u ≤ 6 → 4 ≤ q → q + 4 < tall → IsWithin 1000000 (cell (a +ℤ pos (64 * u + r)) (b +ℤ pos q))
    near a b u r q tall a_low a_high b_low b_high l k m p = record {
      a_low = omega (arith, ints, a_low);
      a_high = omega (arith, ints, a_high, l, k);
      b_low = omega (arith, ints, b_low, m);
      b_high = omega (arith, ints, b_high, p);
    }

-- ---- low and high are bounds of the first cells of a list
pub record IsSpan (all cells : List Cell) (low high : Cell) : Type 0 where
  pub a_from : (c : Cell) → has cells c ≡ true → low.a ≤ℤ c.a
  pub a_to : (c : Cell) → has cells c ≡ true → c.a ≤ℤ high.a
  pub b_from : (c : Cell) → has cells c ≡ true → low.b ≤ℤ c.b
  pub b_to : (c : Cell) → has cells c ≡ true → c.b ≤ℤ high.b
  pub low_within : IsWithin 1000000 low
  pub high_within : IsWithin 1000000 high
  pub a_order : low.a ≤ℤ high.a
  pub b_order : low.b ≤ℤ high.b
  pub a_low : (c : Cell) → has all c ≡ true → c.a ≤ℤ (low.a +ℤ pos 4096)
  pub a_high : (c : Cell) → has all c ≡ true → high.a ≤ℤ (c.a +ℤ pos 4096)
  pub a_span : high.a ≤ℤ (low.a +ℤ pos 4096)
  pub b_low : (c : Cell) → has all c ≡ true → c.b ≤ℤ (low.b +ℤ pos 4096)
  pub b_high : (c : Cell) → has all c ≡ true → high.b ≤ℤ (c.b +ℤ pos 4096)
  pub b_span : high.b ≤ℤ (low.b +ℤ pos 4096)

-- any two cells of the list are close together
abbrev pub AreClose : List Cell → Type 0
AreClose all = (c d : Cell) → has all c ≡ true → has all d ≡ true → (d.a ≤ℤ (c.a +ℤ pos 4096)) × (d.b ≤ℤ (c.b +ℤ pos 4096))

some_of : (all : List Cell) (c : Cell) → has all c ≡ true → 0 < length all
some_of [] c h = absurd (true≢false (sym h))
some_of (x ∷ xs) c h = omega arith

pub span_start : (all : List Cell) (low : Cell) → IsWithin 1000000 low → (0 < length all → has all low ≡ true) → AreClose all → IsSpan all [] low low
span_start all low w first close =
    record {
      a_from = λ c h. absurd (true≢false (sym h));
      a_to = λ c h. absurd (true≢false (sym h));
      b_from = λ c h. absurd (true≢false (sym h));
      b_to = λ c h. absurd (true≢false (sym h));
      low_within = w;
      high_within = w;
      a_order = omega (arith, ints);
      b_order = omega (arith, ints);
      a_low = λ c h. (close low c (first (some_of all c h)) h).0;
      a_high = λ c h. (close c low h (first (some_of all c h))).0;
      a_span = omega (arith, ints);
      b_low = λ c h. (close low c (first (some_of all c h)) h).1;
      b_high = λ c h. (close c low h (first (some_of all c h))).1;
      b_span = omega (arith, ints);
    }

pub has_at : (xs : List Cell) (i : ℕ) (d : Cell) → i < length xs → has xs (get_or xs i d) ≡ true
has_at xs i d less = list_any_at (same_cell (get_or xs i d)) xs i d less (same_cell-refl (get_or xs i d))

pub span_more : (all : List Cell) (i : ℕ) (e low high low' high' : Cell) → AreClose all → i < length all → IsWithin 1000000 (get_or all i e) → low'.a ≡ int_min low.a (get_or all i e).a → low'.b ≡ int_min low.b (get_or all i e).b → high'.a ≡ int_max high.a (get_or all i e).a → high'.b ≡ int_max high.b (get_or all i e).b → IsSpan all (take i all) low high → IsSpan all (take (i + 1) all) low' high'
span_more all i e low high low' high' close less w la lb ha hb old =
    let x = get_or all i e in
    let x_in = has_at all i e less in
    let l = old.low_within in
    let h = old.high_within in
    record {
      a_from = λ c m. elim (was c m) [ inl k ↦ omega (arith, ints, clamps, la, old.a_from c k) | inr k ↦ omega (arith, ints, clamps, la, ap (λ c. c.a) k) ];
      a_to = λ c m. elim (was c m) [ inl k ↦ omega (arith, ints, clamps, ha, old.a_to c k) | inr k ↦ omega (arith, ints, clamps, ha, ap (λ c. c.a) k) ];
      b_from = λ c m. elim (was c m) [ inl k ↦ omega (arith, ints, clamps, lb, old.b_from c k) | inr k ↦ omega (arith, ints, clamps, lb, ap (λ c. c.b) k) ];
      b_to = λ c m. elim (was c m) [ inl k ↦ omega (arith, ints, clamps, hb, old.b_to c k) | inr k ↦ omega (arith, ints, clamps, hb, ap (λ c. c.b) k) ];
      low_within = record { a_low = omega (arith, ints, clamps, la, l.a_low, w.a_low); a_high = omega (arith, ints, clamps, la, l.a_high, w.a_high); b_low = omega (arith, ints, clamps, lb, l.b_low, w.b_low); b_high = omega (arith, ints, clamps, lb, l.b_high, w.b_high) };
      high_within = record { a_low = omega (arith, ints, clamps, ha, h.a_low, w.a_low); a_high = omega (arith, ints, clamps, ha, h.a_high, w.a_high); b_low = omega (arith, ints, clamps, hb, h.b_low, w.b_low); b_high = omega (arith, ints, clamps, hb, h.b_high, w.b_high) };
      a_order = omega (arith, ints, clamps, la, ha, old.a_order);
      b_order = omega (arith, ints, clamps, lb, hb, old.b_order);
      a_low = λ c m. least_more low.a x.a low'.a c.a la (old.a_low c m) (close x c x_in m).0;
      a_high = λ c m. most_more high.a x.a high'.a c.a ha (old.a_high c m) (close c x m x_in).0;
      a_span = spans low.a high.a x.a low'.a high'.a la ha old.a_span (old.a_low x x_in) (old.a_high x x_in);
      b_low = λ c m. least_more low.b x.b low'.b c.b lb (old.b_low c m) (close x c x_in m).1;
      b_high = λ c m. most_more high.b x.b high'.b c.b hb (old.b_high c m) (close c x m x_in).1;
      b_span = spans low.b high.b x.b low'.b high'.b lb hb old.b_span (old.b_low x x_in) (old.b_high x x_in);
    }
  where
    least_more : (l x m c : ℤ) → m ≡ int_min l x → c ≤ℤ (l +ℤ pos 4096) → c ≤ℤ (x +ℤ pos 4096) → c ≤ℤ (m +ℤ pos 4096)
    least_more l x m c e p q = omega (arith, ints, clamps, e, p, q)

    most_more : (h x m c : ℤ) → m ≡ int_max h x → h ≤ℤ (c +ℤ pos 4096) → x ≤ℤ (c +ℤ pos 4096) → m ≤ℤ (c +ℤ pos 4096)
    most_more h x m c e p q = omega (arith, ints, clamps, e, p, q)

    spans : (l h x m n : ℤ) → m ≡ int_min l x → n ≡ int_max h x → h ≤ℤ (l +ℤ pos 4096) → x ≤ℤ (l +ℤ pos 4096) → h ≤ℤ (x +ℤ pos 4096) → n ≤ℤ (m +ℤ pos 4096)
    spans l h x m n e f p q r = omega (arith, ints, clamps, e, f, p, q, r)

    was : (c : Cell) → has (take (i + 1) all) c ≡ true → (has (take i all) c ≡ true) ⊎ (c ≡ get_or all i e)
    was c m = elim (or_cases (has (take i all) c) (same_cell c (get_or all i e)) (sym (list_any_more (same_cell c) all i e less) ∙ m)) [ inl k ↦ inl k | inr k ↦ inr (same_cell-true c (get_or all i e) k) ]

pub has_more : (xs : List Cell) (i : ℕ) (d c : Cell) → i < length xs → has (take (i + 1) xs) c ≡ (has (take i xs) c || same_cell c (get_or xs i d))
has_more xs i d c less = list_any_more (same_cell c) xs i d less

-- the numbers of a window around a box
pub record AreNumbers (low high : Cell) (first : ℤ) (columns rows : ℕ) : Type 0 where
  pub first_low : neg_ℤ (pos 1000000) ≤ℤ first
  pub first_high : first ≤ℤ pos 999990
  pub first_order : first ≤ℤ low.a
  pub columns_few : columns ≤ 4096
  pub rows_few : rows ≤ 4096

pub numbers_of : (low high : Cell) (first : ℤ) (columns rows : ℕ) → IsWithin 1000000 low → IsWithin 1000000 high → high.a ≤ℤ (low.a +ℤ pos 4096) → high.b ≤ℤ (low.b +ℤ pos 4096) → first ≡ int_min low.a (pos 999990) → pos columns ≡ high.a -ℤ first → pos rows ≡ high.b -ℤ low.b → AreNumbers low high first columns rows
numbers_of low high first columns rows l h span_a span_b first_is columns_is rows_is =
    let l_low = l.a_low in
    let h_high = h.a_high in
    record {
      first_low = omega (arith, ints, clamps, first_is, l_low);
      first_high = omega (arith, ints, clamps, first_is);
      first_order = omega (arith, ints, clamps, first_is);
      columns_few = omega (arith, ints, clamps, first_is, columns_is, span_a, h_high);
      rows_few = omega (arith, ints, rows_is, span_b);
    }

pub words_few : (columns u : ℕ) → 1 ≤ u → columns ≤ 4096 → columns / u / 64 + 3 ≤ 68
words_few columns u some l = let k = quotient_less columns u 4096 some l in omega (arith, k)
