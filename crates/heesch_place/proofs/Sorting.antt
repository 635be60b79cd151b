-- Sorted lists of cell lists, kept once.
use Rattle.std.proofs.Common.{◌≡◌, true, false, List, Contains, IsPermutation, IsSorted, Ordering, refl, sym, ◌∙◌}
use Rattle.std.specs.declared.cmp.Ordering.TheVariants.{Less, Equal, Greater}
use Rattle.std.specs.Cmp.Lexicographic.{slice_cmp}
use Rattle.std.specs.List.{dedup}
use Rattle.std.specs.Ordering.{is_lt, is_gt, is_eq, eq_by_cmp}
use Rattle.heesch_grid.specs.declared.Cell.{Cell}
use Rattle.heesch_grid.specs.Cells.{cell_cmp, cells_before}
use Rattle.heesch_grid.specs.Listing.{ListsExactly}
use Rattle.heesch_grid.proofs.OrderFacts.{cells_less, cells_greater}
use Rattle.heesch_grid.proofs.Pinned.{cells_before-total}
use Rattle.heesch_shape.specs.Order.{list_total, list_equivalence}
use Rattle.heesch_place.proofs.Gathering.{listed}

-- a comparison that is `Equal` is neither of the others
not_less : (o : Ordering) → is_eq o ≡ true → is_lt o ≡ false
not_less Less e = sym e
not_less Equal e = refl
not_less Greater e = refl

not_greater : (o : Ordering) → is_eq o ≡ true → is_gt o ≡ false
not_greater Less e = refl
not_greater Equal e = refl
not_greater Greater e = sym e

pub tied_lists : (x y : List Cell) → eq_by_cmp (slice_cmp cell_cmp) x y ≡ true → x ≡ y
tied_lists x y e =
    let o = slice_cmp cell_cmp x y in
    cells_before-total x y (sym (cells_less x y) ∙ not_less o e) (sym (cells_greater x y) ∙ not_greater o e)

pub listed_lists : (all ys zs : List (List Cell)) → IsPermutation all ys → IsSorted (slice_cmp cell_cmp) ys → zs ≡ dedup (eq_by_cmp (slice_cmp cell_cmp)) ys → ListsExactly cells_before (Contains all) zs
listed_lists = listed (slice_cmp cell_cmp) cells_before (eq_by_cmp (slice_cmp cell_cmp)) cells_less tied_lists list_total list_equivalence (λ x y. refl)
