use Rattle.std.proofs.Common.{length, subst, rules}
use Rattle.heesch_grid.specs.Lattice.{Triple}
use Rattle.heesch_verdict.specs.Domains.{IsTripleEnd, SettlesOne}
use Rattle.heesch_verdict.proofs.Firsts.{domain_at}
use Rattle.heesch_verdict.proofs.Settling.{next_is_first, one_settled}
use Rattle.heesch_verdict.proofs.subject.Subject.settle_all.Goals as goal

pub settle-requires-clause-domain : goal.settle-requires-clause-domain
settle-requires-clause-domain g c =
    domain_at g.G.Grid.geometry (length c.args.self.now.shape.now) c.args.self.now.limits.domain c.requires.limits.domain_range.1 c.args.triples.now c.requires.triples c.loop-triple.triple-index c.triple-item.result c.loop-triple-test.true c.triple-item.is

pub returns-in-Some : goal.returns-in-Some
returns-in-Some g c =
    next_is_first g.G.Grid.geometry c.args.self.now.limits c.args.self.now.shape.now c.requires.shape.is_shape.polyform.some c.args.triples.now c.requires.triples c.loop-triple.triple-index c.triple-item.result c.loop-triple-test.true c.triple-item.is c.loop-triple.settled c.loop-triple.invariant c.in-Some.tiling
    (subst (IsTripleEnd g.G.Grid.geometry c.args.self.now.shape.now c.args.self.now.limits.turns c.triple-item.result c.loop-triple.settled c.settle.new.settled) c.in-Some.is c.in_ok-tiling.ensures)

pub loop-triple-preserved : goal.loop-triple-preserved
loop-triple-preserved g c =
    let one : SettlesOne g.G.Grid.geometry c.args.self.now.shape.now c.args.self.now.limits.turns c.triple-item.result c.loop-triple.settled c.settle.new.settled = search rules in
    one_settled g.G.Grid.geometry c.args.self.now.shape.now c.args.self.now.limits.turns c.args.triples.now c.loop-triple.triple-index c.triple-item.result c.loop-triple-test.true c.loop-triple.settled c.loop-triple.invariant c.settle.new.settled
    (subst (λ (u : Triple). SettlesOne g.G.Grid.geometry c.args.self.now.shape.now c.args.self.now.limits.turns u c.loop-triple.settled c.settle.new.settled) c.triple-item.is one)
