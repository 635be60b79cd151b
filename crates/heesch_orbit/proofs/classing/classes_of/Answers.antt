use Rattle.std.proofs.Common.{rules, ◌≡◌, subst, List, length}
use Rattle.heesch_grid.specs.declared.isometries.Iso.{Iso}
use Rattle.heesch_orbit.specs.Found.{AreFound}
use Rattle.heesch_orbit.proofs.Finding.{all_found, take_all}
use Rattle.heesch_orbit.proofs.classing.classes_of.Goals as goal

pub returns : goal.returns
returns g c =
    let l = c.len.ensures in
    let long : c.len.result ≡ length c.loop-to.representatives.items = search (rules, l) in
    all_found g.G.Grid.geometry g.met.G.Grid.laws c.args.turned.now c.args.triple c.requires.triple c.args.places.now c.loop-to.representatives.items c.loop-to.members c.len.result long
    (subst (λ (tiles : List Iso). AreFound g.G.Grid.geometry c.args.turned.now c.args.triple c.args.places.now tiles c.loop-to.representatives.items c.loop-to.members) (take_all c.loop-to.to-index c.args.places.now c.loop-to-test.false) c.loop-to.invariant.found)
