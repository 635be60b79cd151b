use Rattle.std.proofs.Common.{subst, sym}
use Rattle.std.specs.Prelude.{IfNone, ◌≡◌, false}
use Rattle.heesch_grid.specs.Cells.{has}
use Rattle.heesch_cuts.proofs.Rising.{not_found}
use Rattle.heesch_cuts.proofs.cells.place_of.Goals as goal

pub returns-clause-none : goal.returns-clause-none
returns-clause-none c =
    let xs = c.args.cells.now in
    let d = c.args.c in
    subst (λ o. IfNone o (has xs d ≡ false)) (sym c.ok.ensures.value) (not_found xs d c.binary_search.result c.requires c.binary_search.ensures.position)
