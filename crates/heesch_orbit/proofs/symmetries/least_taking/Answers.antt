use Rattle.std.proofs.Common.{◌∙◌, sym, true≢false, arith}
use Rattle.heesch_orbit.proofs.Leasts.{least, none_of_turn, none_more, none_at_all}
use Rattle.heesch_orbit.proofs.symmetries.least_taking.Goals as goal
use Rattle.heesch_orbit.proofs.symmetries.least_taking.Goals.{in-Some+else-is_symmetry, in_default}

pub returns-then-is_symmetry-clause-some : goal.returns-then-is_symmetry-clause-some
returns-then-is_symmetry-clause-some g c =
    least g.G.Grid.geometry c.args.turned.now c.args.triple c.args.places.now c.args.from c.args.to c.in-Some.by c.loop-k.k c.in-Some.ensures.turn (record { is_symmetry = c.is_symmetry.ensures.0 c.if-is_symmetry.true; same = c.in-Some.ensures.some }) c.loop-k.invariant

pub loop-k-preserved : goal.loop-k-preserved
loop-k-preserved g c =
    none_more g.G.Grid.geometry c.args.turned.now c.args.triple c.args.places.now c.args.from c.args.to c.loop-k.k c.loop-k.invariant (elim c.match-taking.branch [
      | in-Some+else-is_symmetry w ↦
          none_of_turn g.G.Grid.geometry c.args.turned.now c.args.triple c.args.places.now c.args.from c.args.to c.loop-k.k w.in-Some.by w.in-Some.ensures.only (λ is. true≢false (sym (w.is_symmetry.ensures.1 is) ∙ w.if-is_symmetry.false))
      | in_default w ↦ (λ other turn h. w.in_default.ensures.none other turn h.same)
    ])

pub returns-clause-none : goal.returns-clause-none
returns-clause-none g c =
    let last = c.loop-k-test.false in
    let all = c.TURNS-k-end.ensures ∙ g.met.G.Grid.sizes.turns_is in
    none_at_all g.G.Grid.geometry c.args.turned.now c.args.triple c.args.places.now c.args.from c.args.to c.loop-k.k (omega (arith, last, all)) c.loop-k.invariant
