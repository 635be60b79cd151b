use Rattle.std.proofs.Common.{sym, ap, ◌∙◌, not, length, true≢false}
use Rattle.heesch_cuts.proofs.Conditions.{outside_is, some_length}
use Rattle.heesch_cuts.proofs.checking.is_hole.Goals as goal
use Rattle.heesch_cuts.proofs.checking.is_hole.Goals.{then-not-is_empty, else-not-is_empty}

pub returns-then-are_rising : goal.returns-then-are_rising
returns-then-are_rising g c =
    elim c.if-not-is_empty.branch [
      | then-not-is_empty w ↦ outside_is g.G.Grid.geometry c.args.shape.now c.args.hole.now (some_length (length c.args.hole.now) (sym c.is_empty.ensures ∙ w.if-not-is_empty.true)) (w.are_rising.ensures.0 (sym w.value-is ∙ c.if-are_rising.true)) c.are_outside.result c.are_outside.ensures
      | else-not-is_empty w ↦ absurd (true≢false (sym c.if-are_rising.true ∙ w.value-is ∙ ap not w.if-not-is_empty.false))
    ]
