-- The order of cell lists is total.
use Rattle.std.proofs.Common.{◌∙◌}
use Rattle.std.specs.Cmp.{IsTotalOrder, IsEquivalence, IsPartialEquivalence}
use Rattle.std.specs.Cmp.Lexicographic.{slice_cmp}
use Rattle.std.specs.Ordering.{eq_by_cmp}
use Rattle.std.proofs.lemmas.Cmp.{lists_total, then_total, on_total, int_cmp_total, eq_by_cmp_equiv}
use Rattle.heesch_grid.specs.Cells.{cell_cmp}

pub list_total : IsTotalOrder (slice_cmp cell_cmp)
list_total = lists_total (then_total (on_total (λ c. c.b) int_cmp_total) (on_total (λ c. c.a) int_cmp_total))

pub list_equivalence : IsEquivalence (eq_by_cmp (slice_cmp cell_cmp))
list_equivalence = eq_by_cmp_equiv list_total

pub list_per : IsPartialEquivalence (eq_by_cmp (slice_cmp cell_cmp))
list_per = record { symm = list_equivalence.symm; trans = λ x y z p q. list_equivalence.congr x y z p ∙ q }
