use Rattle.std.proofs.Common.{◌≡◌, ◌-◌, ℕ, subst, arith}
use Rattle.heesch_torus.specs.Domains.{AreUpTo}
use Rattle.heesch_torus.proofs.domains.triples_up_to.Goals as goal

pub returns : goal.returns
returns g c =
    let some = c.requires.domain.0 in
    let e : c.loop-tiles.tiles - 1 ≡ c.args.domain = omega (arith, some) in
    subst (λ (n : ℕ). AreUpTo g.G.Grid.geometry c.args.count n c.loop-tiles.all.items) e c.loop-tiles.invariant
