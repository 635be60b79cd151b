use Rattle.std.proofs.Common.{◌≡◌, ◌+◌, true, false, sym, ap, ◌∙◌, arith}
use Rattle.heesch_tiling.specs.Counting.{in_window, window_size}
use Rattle.heesch_torus.proofs.Masking.{numbered_more, numbered_points}
use Rattle.heesch_torus.proofs.points.points_of.Goals as goal
use Rattle.heesch_torus.proofs.points.points_of.Goals.{then-is_cell, else-is_cell}

pub loop-k-preserved : goal.loop-k-preserved
loop-k-preserved g c =
    elim c.if-is_cell.branch [
      | then-is_cell w ↦
          let cell : g.G.Grid.geometry.is_cell (in_window g.G.Grid.geometry c.args.triple c.loop-k.k) ≡ true = ap g.G.Grid.geometry.is_cell (sym c.pair_at.ensures.is) ∙ sym c.is_cell.ensures ∙ w.if-is_cell.true in
          numbered_more g.G.Grid.geometry c.args.triple c.loop-k.k c.loop-k.numbers.items c.push.new.self.items c.loop-k.count c.if-is_cell.count true cell c.in_ok-push.ensures.items w.count-is c.loop-k.invariant
      | else-is_cell w ↦
          let none : g.G.Grid.geometry.is_cell (in_window g.G.Grid.geometry c.args.triple c.loop-k.k) ≡ false = ap g.G.Grid.geometry.is_cell (sym c.pair_at.ensures.is) ∙ sym c.is_cell.ensures ∙ w.if-is_cell.false in
          let same : c.if-is_cell.count ≡ c.loop-k.count + 0 = omega (arith, w.count-is) in
          numbered_more g.G.Grid.geometry c.args.triple c.loop-k.k c.loop-k.numbers.items c.push.new.self.items c.loop-k.count c.if-is_cell.count false none c.in_ok-push.ensures.items same c.loop-k.invariant
    ]

pub returns : goal.returns
returns g c =
    let last : c.loop-k.k ≡ window_size g.G.Grid.geometry c.args.triple = omega (arith, c.loop-k-test.false, c.loop-k.auto.k-end, c.window_size-k-end.ensures.is) in
    numbered_points g.G.Grid.geometry c.args.triple c.loop-k.k c.loop-k.numbers.items c.loop-k.count last c.loop-k.invariant
