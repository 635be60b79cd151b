use Rattle.std.proofs.Common.{◌≡◌, refl, [], ◌∷◌, ◌++◌, get_or, Contains, ap, ◌∙◌, arith}
use Rattle.heesch_grid.specs.declared.Cell.{Cell}
use Rattle.heesch_grid.specs.Cells.{origin}
use Rattle.heesch_grid.specs.Vectors.{minus}
use Rattle.heesch_grid.proofs.Images.{wider}
use Rattle.heesch_shape.proofs.Loops.{has_at}
use Rattle.heesch_place.specs.declared.spots.Spot.{Spot}
use Rattle.heesch_place.specs.Found.{FromOne}
use Rattle.heesch_place.specs.Spots.{IsCover}
use Rattle.heesch_place.proofs.Beside.{cover_of, of_cover}
use Rattle.heesch_place.proofs.Gathering.{adds_one, from_more, from_all, joins_same}
use Rattle.heesch_place.proofs.Moves.{away}
use Rattle.heesch_place.proofs.Moving.{first_is}
use Rattle.heesch_place.proofs.forms.add_covers.Goals as goal

pub difference-requires-clause-from : goal.difference-requires-clause-from
difference-requires-clause-from c =
    let cells = c.args.cells.now in
    let d = get_or cells c.loop-c.c-index origin in
    wider 5000 2000000 d (omega arith) (c.requires.near d (has_at cells c.loop-c.c-index origin c.loop-c-test.true))

pub loop-c-preserved : goal.loop-c-preserved
loop-c-preserved c =
    let cells = c.args.cells.now in
    let l = c.loop-c in
    let d = get_or cells l.c-index origin in
    let first = c.first_of-first.result in
    let old = l.covers.items in
    let new = c.add.new.all.items in
    let spot : Cell → Spot = λ z. record { form = c.args.form; first = z } in
    let is = c.in_ok-add.ensures ∙ ap (λ z. old ++ spot z ∷ []) (away c.difference.result d first c.difference.ensures.is) in
    from_more (λ (z : Cell) (s : Spot). s ≡ spot (minus first z)) cells l.c-index origin (Contains c.args.covers.now.items) (Contains old) (Contains new) c.loop-c-test.true l.invariant
    (adds_one (λ s. s ≡ spot (minus first d)) old new (spot (minus first d)) is refl (λ s e. e))

pub returns : goal.returns
returns c =
    let cells = c.args.cells.now in
    let l = c.loop-c in
    let first = c.first_of-first.result in
    let R = λ (z : Cell) (s : Spot). s ≡ record { form = c.args.form; first = minus first z } in
    let head = first_is cells first c.first_of-first.ensures.first in
    joins_same (FromOne R cells) (IsCover c.args.form cells) (Contains c.args.covers.now.items) (Contains l.covers.items) (cover_of c.args.form cells first head) (of_cover c.args.form cells first head)
    (from_all R cells l.c-index (Contains c.args.covers.now.items) (Contains l.covers.items) (omega (arith, c.loop-c-test.false, l.auto.c-index-end)) l.invariant)
