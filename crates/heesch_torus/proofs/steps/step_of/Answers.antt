use Rattle.std.proofs.Common.{◌≡◌, ◌+◌, ◌<◌, ℕ, List, length, true, false, sym, ap, subst, ◌∙◌, lit<, arith}
use Rattle.std.specs.Prelude.{Some}
use Rattle.heesch_tiling.specs.Counting.{in_window, window_size}
use Rattle.heesch_torus.specs.Formula.{reduced_cells}
use Rattle.heesch_torus.proofs.Stepping.{Begun, step_more, step_same, step_room, translation_moves}
use Rattle.heesch_torus.proofs.steps.step_of.Goals as goal
use Rattle.heesch_torus.proofs.steps.step_of.Goals.{then-is_cell, else-is_cell}

pub push-requires : goal.push-requires
push-requires g c =
    let less : c.loop-k.k < window_size g.G.Grid.geometry c.args.torus.now.triple = omega (arith, c.loop-k-test.true, c.loop-k.auto.k-end, c.window_size-k-end.ensures.is) in
    let cell : g.G.Grid.geometry.is_cell (in_window g.G.Grid.geometry c.args.torus.now.triple c.loop-k.k) ≡ true = ap g.G.Grid.geometry.is_cell (sym c.pair_at-c.ensures.is) ∙ sym c.is_cell.ensures ∙ c.if-is_cell.true in
    let room : length c.loop-k.step.items < length (reduced_cells g.G.Grid.geometry c.args.torus.now.triple) = step_room g.G.Grid.geometry c.args.torus.now.triple c.args.by.now.iso.da c.args.by.now.iso.db c.loop-k.k c.loop-k.step.items less cell c.loop-k.invariant in
    let few = c.args.torus.now.maskable.few in
    (lit< tt, omega (arith, room, few))

pub loop-k-preserved : goal.loop-k-preserved
loop-k-preserved g c =
    elim c.if-is_cell.branch [
      | then-is_cell w ↦
          let cell : g.G.Grid.geometry.is_cell (in_window g.G.Grid.geometry c.args.torus.now.triple c.loop-k.k) ≡ true = ap g.G.Grid.geometry.is_cell (sym c.pair_at-c.ensures.is) ∙ sym c.is_cell.ensures ∙ w.if-is_cell.true in
          subst (λ (v : List ℕ). Begun g.G.Grid.geometry c.args.torus.now.triple c.args.by.now.iso.da c.args.by.now.iso.db (c.loop-k.k + 1) v) (sym (λ i. (w.step-is i).items))
          (step_more g.G.Grid.geometry c.args.torus.now.triple c.args.by.now.iso.da c.args.by.now.iso.db c.loop-k.k w.point_of.result c.loop-k.step.items w.push.new.self.items cell
          (w.point_of.ensures ∙ ap Some (translation_moves g.G.Grid.geometry c.args.torus.now.triple g.met.G.Grid.laws c.args.by.now.iso c.loop-k.k c.pair_at-c.result c.requires c.pair_at-c.ensures.is))
          w.push.ensures.items c.loop-k.invariant)
      | else-is_cell w ↦
          let none : g.G.Grid.geometry.is_cell (in_window g.G.Grid.geometry c.args.torus.now.triple c.loop-k.k) ≡ false = ap g.G.Grid.geometry.is_cell (sym c.pair_at-c.ensures.is) ∙ sym c.is_cell.ensures ∙ w.if-is_cell.false in
          subst (λ (v : List ℕ). Begun g.G.Grid.geometry c.args.torus.now.triple c.args.by.now.iso.da c.args.by.now.iso.db (c.loop-k.k + 1) v) (sym (λ i. (w.step-is i).items))
          (step_same g.G.Grid.geometry c.args.torus.now.triple c.args.by.now.iso.da c.args.by.now.iso.db c.loop-k.k c.loop-k.step.items none c.loop-k.invariant)
    ]
