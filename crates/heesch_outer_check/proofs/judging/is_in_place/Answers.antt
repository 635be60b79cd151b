use Rattle.heesch_outer_check.proofs.Places.{place_of_size}
use Rattle.heesch_outer_check.proofs.judging.is_in_place.Goals as goal

pub returns-in-Size : goal.returns-in-Size
returns-in-Size g c =
    let a = c.args in
    let place = place_of_size g.G.Grid.geometry a.subject a.shapes.now c.in-Size.n c.in-Size.is c.requires a.before a.cells.now in
    (λ e. place.0 (c.is_listed_at.ensures.0 e), λ p. c.is_listed_at.ensures.1 (place.1 p))
