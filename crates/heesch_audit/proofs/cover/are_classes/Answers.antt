use Rattle.std.proofs.Common.{◌∙◌, sym}
use Rattle.heesch_logs.proofs.Equal.{refused}
use Rattle.heesch_audit.proofs.OneClasses.{one_classes, same_classes}
use Rattle.heesch_audit.proofs.cover.are_classes.Goals as goal

pub returns-then-found-written : goal.returns-then-found-written
returns-then-found-written g c =
    let found = c.in_ok-found.found in
    let written = c.args.written.now in
    refused (λ h. c.if-found-written.true (one_classes g.G.Grid.geometry g.met.G.Grid.laws c.args.shape.now c.requires.shape.is_shape.polyform.some c.args.tiling.now.triple c.args.tiling.now.places found.members written.members found.count written.count c.in_ok-found.ensures h.0).0)

pub returns : goal.returns
returns g c =
    let found = c.in_ok-found.found in
    let written = c.args.written.now in
    let classes = same_classes g.G.Grid.geometry g.met.G.Grid.laws c.args.shape.now c.requires.shape.is_shape.polyform.some c.args.tiling.now.triple c.args.tiling.now.places found.members written.members found.count written.count c.if-found-written.false c.in_ok-found.ensures in
    let same = c.are_same_members.ensures in (
      (λ t. (classes.0 (sym c.as_slice.ensures ∙ (same.0 t ∙ c.as_slice-2.ensures)), c.if-count-written.false)),
      (λ h. same.1 (c.as_slice.ensures ∙ (classes.1 h.0 ∙ sym c.as_slice-2.ensures))),
    )
