use Rattle.std.proofs.Common.{[], map, sym, ap, subst, ◌∙◌, arith}
use Rattle.heesch_place.specs.Found.{Adds}
use Rattle.heesch_place.specs.Spots.{IsCover}
use Rattle.heesch_place.specs.Universes.{Placed}
use Rattle.heesch_place.proofs.Beside.{covers_more, covers_all}
use Rattle.heesch_place.proofs.Numbering.{get_or-mapped, length-mapped}
use Rattle.heesch_place.proofs.forms.covers_of.Goals as goal

pub loop-form-preserved : goal.loop-form-preserved
loop-form-preserved g c =
    let places = c.args.forms.now in
    let forms = map (λ (p : Placed). p.tile) places in
    let l = c.loop-form in
    let item = c.index-forms-form.result in
    let long = length-mapped (λ (p : Placed). p.tile) places in
    let cells = c.cells.ensures.cells ∙ c.shape.ensures ∙ ap (λ (p : Placed). p.tile) c.index-forms-form.is ∙ sym (get_or-mapped (λ (p : Placed). p.tile) places l.form item [] c.loop-form-test.true) in
    covers_more forms l.form l.covers.items c.add_covers.new.covers.items (omega (arith, long, c.loop-form-test.true)) l.invariant
    (subst (λ zs. Adds (IsCover l.form zs) l.covers.items c.add_covers.new.covers.items) cells c.in_ok-add_covers.ensures)

pub returns : goal.returns
returns g c =
    let places = c.args.forms.now in
    let forms = map (λ (p : Placed). p.tile) places in
    let l = c.loop-form in
    covers_all forms l.form l.covers.items (omega (arith, length-mapped (λ (p : Placed). p.tile) places, c.loop-form-test.false, l.auto.form-end)) l.invariant
