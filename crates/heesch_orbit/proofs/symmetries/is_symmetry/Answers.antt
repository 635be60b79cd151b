use Rattle.std.proofs.Common.{true≢false, sym, ◌∙◌}
use Rattle.heesch_orbit.proofs.Deciding.{places_decide_symmetries}
use Rattle.heesch_orbit.proofs.symmetries.is_symmetry.Goals as goal

pub returns-then-carries_places : goal.returns-then-carries_places
returns-then-carries_places g c =
    let decide = places_decide_symmetries g.G.Grid.geometry c.args.turned.now c.args.triple c.args.places.now c.args.by g.met.G.Grid.laws c.requires.triple in (
      (λ e. decide.1 (record { is_isometry = c.requires.turn; carries = c.carries_places.ensures.0 c.if-carries_places.true; lattice = c.keeps_lattice.ensures.0 e })),
      (λ h. c.keeps_lattice.ensures.1 (decide.0 h).lattice),
    )

pub returns-else-carries_places : goal.returns-else-carries_places
returns-else-carries_places g c =
    let decide = places_decide_symmetries g.G.Grid.geometry c.args.turned.now c.args.triple c.args.places.now c.args.by g.met.G.Grid.laws c.requires.triple in (
      (λ e. absurd (true≢false (sym e ∙ c.if-carries_places.false))),
      (λ h. c.carries_places.ensures.1 (decide.0 h).carries),
    )
