use Rattle.std.proofs.Common.{sym, ◌∙◌}
use Rattle.heesch_lattice.proofs.Reducing.{same_of}
use Rattle.heesch_lattice.proofs.triple.Triple.same.Goals as goal

pub returns : goal.returns
returns g c =
    let met = g.met.G.Grid in
    let first = c.reduce.ensures in
    let second = c.reduce-2.ensures in
    let both = same_of g.G.Grid.geometry met.laws c.args.self first.triple c.args.c c.args.d c.reduce.result c.reduce-2.result first.differs first.unit second.differs second.unit in
    ((λ e. both.0 (sym c.eq.ensures ∙ e)), (λ v. c.eq.ensures ∙ both.1 v))
