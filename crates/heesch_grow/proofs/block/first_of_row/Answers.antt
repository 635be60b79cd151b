use Rattle.std.proofs.Common.{to_z, of_z, w32, sym, ap, ◌∙◌, arith, inl, inr}
use Rattle.std.proofs.lemmas.Int.{ints}
use Rattle.heesch_grid.specs.Cells.{cell}
use Rattle.heesch_grid.specs.Pairs.{int_cases}
use Rattle.heesch_grow.proofs.block.first_of_row.Goals as goal

pub returns-then-is_cell-clause-near : goal.returns-then-is_cell-clause-near
returns-then-is_cell-clause-near g c =
    let met = g.met.G.Grid in
    record {
      a_low = omega (arith, ints, c.loop-a.invariant.low);
      a_high = omega (arith, ints, c.loop-a-test.true, c.UNIT-a-end.ensures, met.sizes.unit_is, met.laws.unit_range.1);
      b_low = omega (arith, ints, c.requires.low);
      b_high = omega (arith, ints, c.requires.high);
    }

pub loop-a-preserved : goal.loop-a-preserved
loop-a-preserved g c =
    let met = g.met.G.Grid in
    let b = to_z w32 (of_z w32 c.args.b) in
    let high = met.laws.unit_range.1 in
    record {
      low = omega (arith, ints, c.loop-a.invariant.low, c.loop-a-test.true, c.UNIT-a-end.ensures, met.sizes.unit_is, high);
      none = λ a low less. elim (int_cases a (to_z w32 c.loop-a.a-bits)) [
        | inl e ↦ ap (λ x. g.G.Grid.geometry.is_cell (cell x b)) e ∙ sym c.is_cell.ensures ∙ c.if-is_cell.false
        | inr other ↦ c.loop-a.invariant.none a low (omega (arith, ints, less, other, c.loop-a-test.true, c.UNIT-a-end.ensures, met.sizes.unit_is, high))
      ];
    }
