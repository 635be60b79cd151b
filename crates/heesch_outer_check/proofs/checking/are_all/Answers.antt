use Rattle.std.proofs.Common.{length, eqb-true, eq-eqb}
use Rattle.heesch_outer_check.proofs.Places.{all_of_size}
use Rattle.heesch_outer_check.proofs.checking.are_all.Goals as goal

pub returns-in-Size : goal.returns-in-Size
returns-in-Size g c =
    let a = c.args in
    let all = all_of_size a.header.now g.G.Grid.geometry c.requires.grid a.shapes.now c.in-Size.n c.in-Size.is c.requires.shapes a.count in
    (λ e. all.0 (eqb-true (length a.shapes.now) a.count e), λ x. eq-eqb (length a.shapes.now) a.count (all.1 x))
