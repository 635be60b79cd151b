use Rattle.heesch_shape.proofs.Near.{canonical_within}
use Rattle.heesch_cert.proofs.Models.{model_where_coronas, models_are_coronas}
use Rattle.heesch_encode.proofs.MovedRings.{same_rings}
use Rattle.heesch_encode.proofs.encoding.encode_flat.Goals as goal

pub rings_of-requires : goal.rings_of-requires
rings_of-requires g c =
    let s = c.cells-cells.ensures.shape in
    canonical_within g.G.Grid.geometry g.met.G.Grid.laws c.args.shape.now c.args.shape.now s.polyform c.requires.canonical s.few

pub formula-requires : goal.formula-requires
formula-requires g c =
    let u = c.in_ok-universe.ensures in
    let rings_are = same_rings g.G.Grid.geometry c.args.shape.now c.in_ok-universe.universe.shape c.in_ok-rings.rings.items c.deref.result.now u.shape c.deref.ensures.value c.in_ok-rings.ensures in
    record { universe = u.universe; shape_is = u.shape; level_is = u.level; few = u.few; rings_are = rings_are }

pub returns-clause-satisfiable : goal.returns-clause-satisfiable
returns-clause-satisfiable g c =
    let made = c.in_ok-formula.formula in
    model_where_coronas c.args.version g.G.Grid.geometry c.args.shape.now c.args.level c.in_ok-universe.universe.vars made.vars made.clauses g.met.G.Grid.laws c.cells-cells.ensures.shape.polyform c.requires.level.0 c.in_ok-formula.ensures.formula

pub returns-clause-models : goal.returns-clause-models
returns-clause-models g c = λ values satisfied.
    let made = c.in_ok-formula.formula in
    models_are_coronas c.args.version g.G.Grid.geometry c.args.shape.now c.args.level c.in_ok-universe.universe.vars made.vars made.clauses values g.met.G.Grid.laws c.cells-cells.ensures.shape.polyform c.requires.level.0 c.in_ok-formula.ensures.formula satisfied
