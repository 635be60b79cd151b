use Rattle.heesch_app.proofs.given.write_given_text.Goals as goal

pub returns-in-Square-on_grid-clause-given : goal.returns-in-Square-on_grid-clause-given
returns-in-Square-on_grid-clause-given g c = rw c.in-Square-on_grid.is c.on_grid-write_given.ensures.given

pub returns-in-Hex-on_grid-clause-given : goal.returns-in-Hex-on_grid-clause-given
returns-in-Hex-on_grid-clause-given g c = rw c.in-Hex-on_grid.is c.on_grid-write_given-2.ensures.given

pub returns-in-Iamond-on_grid-clause-given : goal.returns-in-Iamond-on_grid-clause-given
returns-in-Iamond-on_grid-clause-given g c = rw c.in-Iamond-on_grid.is c.on_grid-write_given-3.ensures.given

pub returns-in-Kite-on_grid-clause-given : goal.returns-in-Kite-on_grid-clause-given
returns-in-Kite-on_grid-clause-given g c = rw c.in-Kite-on_grid.is c.on_grid-write_given-4.ensures.given
