use Rattle.std.proofs.Common.{true≢false, refl, sym, ◌∙◌, get_or}
use Rattle.heesch_grid.specs.declared.isometries.Iso.{Iso}
use Rattle.heesch_grid.specs.Geometry.{image}
use Rattle.heesch_grid.specs.Symmetry.{CarriesToTranslate}
use Rattle.heesch_grid.specs.Tiling.{no_move}
use Rattle.heesch_orbit.proofs.Places.{each_more, each_all, member_at}
use Rattle.heesch_orbit.proofs.symmetries.has_image.Goals as goal

pub returns-then-carries : goal.returns-then-carries
returns-then-carries g c =
    let places = c.args.places.now in
    let i = c.loop-to.to-index in
    ((λ e. (get_or places i no_move, member_at (λ (x : Iso). Iso) places i no_move c.loop-to-test.true, c.carries.ensures.0 c.if-carries.true)), (λ h. refl))

pub loop-to-preserved : goal.loop-to-preserved
loop-to-preserved g c =
    let geometry = g.G.Grid.geometry in
    let shape = c.args.turned.now in
    each_more (λ (to : Iso). CarriesToTranslate geometry c.args.triple c.args.by (image geometry c.args.from shape) (image geometry to shape) → ⊥) c.args.places.now c.loop-to.to-index no_move c.loop-to-test.true c.loop-to.invariant (λ h. true≢false (sym (c.carries.ensures.1 h) ∙ c.if-carries.false))

pub returns : goal.returns
returns g c =
    let geometry = g.G.Grid.geometry in
    let shape = c.args.turned.now in
    ((λ e. absurd (true≢false (sym e))), (λ h. absurd (each_all (λ (to : Iso). CarriesToTranslate geometry c.args.triple c.args.by (image geometry c.args.from shape) (image geometry to shape) → ⊥) c.args.places.now c.loop-to.to-index c.loop-to-test.false c.loop-to.invariant h.0 h.1 h.2)))
