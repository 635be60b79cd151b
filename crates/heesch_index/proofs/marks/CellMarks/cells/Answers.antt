use Rattle.std.proofs.Common.{◌≡◌, ◌+◌, true, ◌∷◌, ◌++◌, [], false, get_or, sym, ap, subst, ◌∙◌, arith, rules}
use Rattle.heesch_grid.specs.Cells.{cell_before}
use Rattle.heesch_grid.specs.Listing.{ListsExactly}
use Rattle.heesch_index.specs.Marking.{Marked, is_marked}
use Rattle.heesch_index.proofs.MarkFacts.{IsListed, listed_none, listed_more, listed_same, listed_all}
use Rattle.heesch_index.proofs.marks.CellMarks.cells.Goals as goal
use Rattle.heesch_index.proofs.marks.CellMarks.cells.Goals.{then-marked+in_ok-push, else-marked}

pub loop-place-init : goal.loop-place-init
loop-place-init c =
    let box = c.self.inside.bounds in
    let marks = c.self.inside.marks.items in
    subst (IsListed box marks 0) (sym c.new-cells.ensures.items) (listed_none box marks)

pub loop-place-preserved : goal.loop-place-preserved
loop-place-preserved c =
    let box = c.self.inside.bounds in
    let marks = c.self.inside.marks.items in
    let at = c.loop-place.place in
    let read = ap (λ ms. get_or ms at false) c.deref-marked-items.ensures.value in
    elim c.if-marked.branch [
      | then-marked+in_ok-push w ↦
          let e : c.if-marked.cells.items ≡ c.loop-place.cells.items ++ w.cell_at.result ∷ [] = search rules in
          subst (IsListed box marks (at + 1)) (sym e) (listed_more box marks at w.cell_at.result c.loop-place.cells.items w.cell_at.ensures.inside w.cell_at.ensures.place (sym read ∙ w.if-marked.true) c.loop-place.invariant)
      | else-marked w ↦
          let e : c.if-marked.cells.items ≡ c.loop-place.cells.items = search rules in
          subst (IsListed box marks (at + 1)) (sym e) (listed_same box marks at c.loop-place.cells.items (sym read ∙ w.if-marked.false) c.loop-place.invariant)
    ]

pub returns : goal.returns
returns c =
    let box = c.self.inside.bounds in
    let marks = c.self.inside.marks.items in
    let at = c.loop-place.place in
    let xs = c.loop-place.cells.items in
    subst (λ (m : Marked). ListsExactly cell_before (λ d. is_marked m d ≡ true) xs) c.self.view_is
    (listed_all box marks at xs (omega (arith, c.loop-place-test.false, c.deref-marked-items.ensures.len, c.self.invariant)) c.loop-place.invariant)
