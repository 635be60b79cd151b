-- The order of cell lists is transitive.
use Rattle.std.proofs.Common.{◌≡◌, true, List, Ordering, refl, sym, ap, ◌∙◌}
use Rattle.std.specs.declared.cmp.Ordering.TheVariants.{Less, Equal, Greater}
use Rattle.std.specs.Ordering.{is_lt}
use Rattle.std.specs.Cmp.Lexicographic.{slice_cmp}
use Rattle.heesch_grid.specs.declared.Cell.{Cell}
use Rattle.heesch_grid.specs.Cells.{cell_cmp, cells_before}
use Rattle.heesch_grid.proofs.OrderFacts.{cells_less}
use Rattle.heesch_shape.specs.Order.{list_total}

less_is : (o : Ordering) → is_lt o ≡ true → o ≡ Less
less_is Less e = refl
less_is Equal e = absurd (let n : ⊥ = cc in n)
less_is Greater e = absurd (let n : ⊥ = cc in n)

pub before_transitive : (x y z : List Cell) → cells_before x y ≡ true → cells_before y z ≡ true → cells_before x z ≡ true
before_transitive x y z p q =
    sym (cells_less x z) ∙ ap is_lt (list_total.trans x y z (less_is (slice_cmp cell_cmp x y) (cells_less x y ∙ p)) (less_is (slice_cmp cell_cmp y z) (cells_less y z ∙ q)))
