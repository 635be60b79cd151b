use Rattle.std.proofs.Common.{◌||◌, true, set, sym, ap, subst, ◌∙◌}
use Rattle.heesch_grid.specs.Cells.{same_cell}
use Rattle.heesch_index.specs.Marking.{Marked, IsBetween, is_marked}
use Rattle.heesch_index.proofs.BoxFacts.{inside-is}
use Rattle.heesch_index.proofs.MarkFacts.{marked_in, marked_more}
use Rattle.heesch_index.proofs.marks.CellMarks.add.Goals as goal

pub returns-clause-cells : goal.returns-clause-cells
returns-clause-cells c d =
    let box = c.self.inside.bounds in
    let marks = c.self.inside.marks.items in
    let between = subst (λ (m : Marked). IsBetween m.low m.high c.args.cell) (sym c.self.view_is) c.requires in
    ap (λ n. is_marked (marked_in box (set marks n true)) d) c.place-place.ensures.is
    ∙ marked_more box marks c.args.cell (inside-is box c.args.cell between) c.self.invariant d
    ∙ ap (λ (m : Marked). is_marked m d || same_cell c.args.cell d) c.self.view_is
