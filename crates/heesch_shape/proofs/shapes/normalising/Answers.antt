use Rattle.std.proofs.Common.{sym, subst}
use Rattle.heesch_grid.specs.Cells.{cell}
use Rattle.heesch_shape.specs.Least.{IsStep}
use Rattle.heesch_grid.proofs.Images.{read}
use Rattle.heesch_shape.proofs.Normal.{least_within, normalising_of, read_step, read_wide}
use Rattle.heesch_shape.proofs.shapes.normalising.Goals as goal

pub returns : goal.returns
returns g c =
    let geometry = g.G.Grid.geometry in
    let laws = g.met.G.Grid.laws in
    let xs = c.args.cells.now in
    let m = c.least-least.result in
    let near = least_within geometry xs m c.requires c.least-least.ensures in
    let high = laws.unit_range.1 in
    let a = c.step_of.result in
    let b = c.step_of-2.result in
    let step_a = subst (λ z. IsStep geometry.unit z a) (read_wide m.a near.a_low near.a_high) c.step_of.ensures in
    let step_b = subst (λ z. IsStep geometry.unit z b) (read_wide m.b near.b_low near.b_high) c.step_of-2.ensures in
    let read_a = read_step geometry.unit m.a a high near.a_low near.a_high step_a in
    let read_b = read_step geometry.unit m.b b high near.b_low near.b_high step_b in
    normalising_of geometry laws xs c.requires m (cell (read a) (read b)) c.least-least.ensures (subst (IsStep geometry.unit m.a) (sym read_a) step_a) (subst (IsStep geometry.unit m.b) (sym read_b) step_b)
