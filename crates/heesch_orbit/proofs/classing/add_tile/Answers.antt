use Rattle.std.proofs.Common.{◌≡◌, ◌+◌, ℕ, sym, ap, ◌∙◌, length}
use Rattle.heesch_orbit.proofs.Finding.{known_pushed, new_pushed}
use Rattle.heesch_orbit.proofs.classing.add_tile.Goals as goal

pub returns-in-Some-clause-found : goal.returns-in-Some-clause-found
returns-in-Some-clause-found g c =
    known_pushed g.G.Grid.geometry g.met.G.Grid.laws c.args.turned.now c.args.triple c.requires.triple c.args.places.now c.args.representatives.now.items c.as_slice.result.now c.as_slice.ensures.value c.args.to c.in-Some.member c.args.members.now c.push.new.self
    c.in-Some.ensures.some c.push.result c.push.ensures.ok

pub returns-clause-found : goal.returns-clause-found
returns-clause-found g c =
    let long : c.len.result ≡ length c.args.representatives.now.items + 1 = c.len.ensures ∙ c.in_ok-push.ensures.len ∙ ap (λ (n : ℕ). n + 1) (sym c.as_slice.ensures.len ∙ ap length c.as_slice.ensures.value) in
    new_pushed g.G.Grid.geometry g.met.G.Grid.laws c.args.turned.now c.args.triple c.requires.triple c.args.places.now c.args.representatives.now.items c.as_slice.result.now c.as_slice.ensures.value c.args.to c.new_member.result c.args.members.now c.push-3.new.self
    c.in_default.ensures.none c.len.result long c.new_member.ensures c.push-2.new.self.items c.in_ok-push.ensures.items c.push-3.result c.push-3.ensures.ok
