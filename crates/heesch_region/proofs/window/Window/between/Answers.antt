use Rattle.std.proofs.Common.{◌≡◌, ℤ, ◌≤ℤ◌, ◌+ℤ◌, ◌-ℤ◌, ◌+◌, ◌*◌, ◌/◌, ◌≤◌, pos, neg_ℤ, ℕ, to_z, of_z, w32, refl, sym, ap, ◌∙◌, subst, arith}
use Rattle.std.specs.Int.{int_min}
use Rattle.std.proofs.lemmas.Int.{ints, clamps}
use Rattle.heesch_grid.specs.declared.Cell.{Cell}
use Rattle.heesch_grid.specs.Cells.{cell}
use Rattle.heesch_region.specs.declared.window.Window.{Window}
use Rattle.heesch_grid.specs.Vectors.{IsWithin}
use Rattle.heesch_region.proofs.Boxes.{inner_between, AreNumbers, numbers_of, words_few}
use Rattle.heesch_region.proofs.window.Window.between.Goals as goal

abbrev read : ℤ → ℤ
read x = to_z w32 (of_z w32 x)

read_is : (x : ℤ) → neg_ℤ (pos 2000000) ≤ℤ x → x ≤ℤ pos 2000000 → read x ≡ x
read_is x low high = omega (arith, ints, low, high)

read_a : (c : Cell) → IsWithin 1000000 c → read c.a ≡ c.a
read_a c w = let l = w.a_low in let h = w.a_high in read_is c.a (omega (arith, ints, l)) (omega (arith, ints, h))

read_b : (c : Cell) → IsWithin 1000000 c → read c.b ≡ c.b
read_b c w = let l = w.b_low in let h = w.b_high in read_is c.b (omega (arith, ints, l)) (omega (arith, ints, h))

-- the facts of the calls, and what follows for the window
record AreFound (low high : Cell) (unit : ℕ) (first start_a start_b : ℤ) (columns rows : ℕ) : Type 0 where
  numbers : AreNumbers low high first columns rows
  columns_is : pos columns ≡ high.a -ℤ first
  rows_is : pos rows ≡ high.b -ℤ low.b
  a_is : read start_a +ℤ pos (64 * unit) ≡ first
  b_is : read start_b +ℤ pos 4 ≡ low.b

found : (low high : Cell) (unit : ℕ) (first start_a start_b : ℤ) (columns rows : ℕ) → unit ≤ 6 → IsWithin 1000000 low → IsWithin 1000000 high → high.a ≤ℤ (low.a +ℤ pos 4096) → high.b ≤ℤ (low.b +ℤ pos 4096) → first ≡ int_min (read low.a) (pos 999990) → pos columns ≡ read high.a -ℤ read first → pos rows ≡ read high.b -ℤ read low.b → start_a +ℤ pos (64 * unit) ≡ read first → start_b +ℤ pos 4 ≡ read low.b → AreFound low high unit first start_a start_b columns rows
found low high unit first start_a start_b columns rows few l h span_a span_b first_e columns_e rows_e a_e b_e =
    let first_is : first ≡ int_min low.a (pos 999990) = first_e ∙ ap (λ z. int_min z (pos 999990)) (read_a low l) in
    let la = l.a_low in
    let lb = l.a_high in
    let lc = l.b_low in
    let ld = l.b_high in
    let first_read : read first ≡ first = read_is first (omega (arith, ints, clamps, first_is, la, lb)) (omega (arith, ints, clamps, first_is, la, lb)) in
    let columns_is : pos columns ≡ high.a -ℤ first = columns_e ∙ ap (λ z. z -ℤ read first) (read_a high h) ∙ ap (λ z. high.a -ℤ z) first_read in
    let rows_is : pos rows ≡ high.b -ℤ low.b = rows_e ∙ ap (λ z. z -ℤ read low.b) (read_b high h) ∙ ap (λ z. high.b -ℤ z) (read_b low l) in
    let a_is : start_a +ℤ pos (64 * unit) ≡ first = a_e ∙ first_read in
    let b_is : start_b +ℤ pos 4 ≡ low.b = b_e ∙ read_b low l in
    let a_read : read start_a ≡ start_a = read_is start_a (omega (arith, ints, clamps, a_is, few, first_is, la, lb)) (omega (arith, ints, clamps, a_is, few, first_is, la, lb)) in
    let b_read : read start_b ≡ start_b = read_is start_b (omega (arith, ints, b_is, lc, ld)) (omega (arith, ints, b_is, lc, ld)) in
    record {
      numbers = numbers_of low high first columns rows l h span_a span_b first_is columns_is rows_is;
      columns_is = columns_is;
      rows_is = rows_is;
      a_is = ap (λ z. z +ℤ pos (64 * unit)) a_read ∙ a_is;
      b_is = ap (λ z. z +ℤ pos 4) b_read ∙ b_is;
    }

high_b : (x low high : ℤ) (rows : ℕ) → x +ℤ pos 4 ≡ low → pos rows ≡ high -ℤ low → high ≤ℤ pos 1000000 → (x +ℤ pos (rows + 9)) ≤ℤ pos 1000005
high_b x low high rows e f h = omega (arith, ints, e, f, h)

all : (c : goal.After-border_row) → AreFound c.args.low c.args.high c.args.unit c.first_column-first.result c.border_column.result c.border_row.result c.distance-columns.result c.distance-rows.result
all c =
    found c.args.low c.args.high c.args.unit c.first_column-first.result c.border_column.result c.border_row.result c.distance-columns.result c.distance-rows.result c.requires.few c.requires.low_near c.requires.high_near c.requires.span_a c.requires.span_b c.first_column-first.ensures c.distance-columns.ensures c.distance-rows.ensures c.border_column.ensures c.border_row.ensures

pub invariant_of-result-clause-narrow : goal.invariant_of-result-clause-narrow
invariant_of-result-clause-narrow c = words_few c.distance-columns.result c.args.unit c.requires.some (all c).numbers.columns_few

pub invariant_of-result-clause-short : goal.invariant_of-result-clause-short
invariant_of-result-clause-short c = let k = (all c).numbers.rows_few in omega (arith, k)

pub invariant_of-result-clause-low_a : goal.invariant_of-result-clause-low_a
invariant_of-result-clause-low_a c = subst (λ z. neg_ℤ (pos 1000000) ≤ℤ z) (sym (all c).a_is) (all c).numbers.first_low

pub invariant_of-result-clause-high_a : goal.invariant_of-result-clause-high_a
invariant_of-result-clause-high_a c = subst (λ z. z ≤ℤ pos 999990) (sym (all c).a_is) (all c).numbers.first_high

pub invariant_of-result-clause-low_b : goal.invariant_of-result-clause-low_b
invariant_of-result-clause-low_b c = subst (λ z. neg_ℤ (pos 1000000) ≤ℤ z) (sym (all c).b_is) c.requires.low_near.b_low

pub invariant_of-result-clause-high_b : goal.invariant_of-result-clause-high_b
invariant_of-result-clause-high_b c = high_b (read c.border_row.result) c.args.low.b c.args.high.b c.distance-rows.result (all c).b_is (all c).rows_is c.requires.high_near.b_high

pub returns-clause-inner : goal.returns-clause-inner
returns-clause-inner c d b =
    let f = found c.args.low c.args.high c.args.unit c.first_column-first.result c.border_column.result c.border_row.result c.distance-columns.result c.distance-rows.result c.requires.few c.requires.low_near c.requires.high_near c.requires.span_a c.requires.span_b c.first_column-first.ensures c.distance-columns.ensures c.distance-rows.ensures c.border_column.ensures c.border_row.ensures in
    let rows = f.numbers.rows_few in
    let w : Window = record {
      low = cell (read c.border_column.result) (read c.border_row.result);
      words = c.distance-columns.result / c.args.unit / 64 + 3;
      tall = c.distance-rows.result + 9;
      unit = c.args.unit;
      some = c.requires.some;
      few = c.requires.few;
      border = omega arith;
      narrow = words_few c.distance-columns.result c.args.unit c.requires.some f.numbers.columns_few;
      rows = omega arith;
      short = omega (arith, rows);
      low_a = subst (λ z. neg_ℤ (pos 1000000) ≤ℤ z) (sym f.a_is) f.numbers.first_low;
      high_a = subst (λ z. z ≤ℤ pos 999990) (sym f.a_is) f.numbers.first_high;
      low_b = subst (λ z. neg_ℤ (pos 1000000) ≤ℤ z) (sym f.b_is) c.requires.low_near.b_low;
      high_b = high_b (read c.border_row.result) c.args.low.b c.args.high.b c.distance-rows.result f.b_is f.rows_is c.requires.high_near.b_high;
    } in
    inner_between w c.first_column-first.result c.args.low c.args.high c.distance-columns.result c.distance-rows.result f.a_is f.numbers.first_order f.columns_is refl f.b_is f.rows_is refl d b
