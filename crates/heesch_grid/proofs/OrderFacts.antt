-- The order of cells and of cell lists, as tests and as answers of three.
use Rattle.std.proofs.Common.{◌≡◌, refl, ◌∙◌, arith, ◌&&◌, ◌||◌, Bool, List, [], ◌∷◌}
use Rattle.std.specs.declared.cmp.Ordering.{Ordering}
use Rattle.std.specs.declared.cmp.Ordering.TheVariants.{Less, Equal, Greater}
use Rattle.std.specs.Ordering.{is_lt, is_gt, is_eq, ordering_then}
use Rattle.std.specs.Cmp.Lexicographic.{slice_cmp}
use Rattle.std.proofs.lemmas.Int.{ints}
use Rattle.heesch_grid.specs.declared.Cell.{Cell}
use Rattle.heesch_grid.specs.Cells.{same_cell, cell_before, cell_cmp, cells_before}
use Rattle.heesch_grid.specs.Integers.{same_truth}

pub cell_less : (c d : Cell) → is_lt (cell_cmp c d) ≡ cell_before c d
cell_less c d = same_truth (is_lt (cell_cmp c d)) (cell_before c d) (λ h. grind (arith, ints)) (λ h. grind (arith, ints))

pub cell_greater : (c d : Cell) → is_gt (cell_cmp c d) ≡ cell_before d c
cell_greater c d = same_truth (is_gt (cell_cmp c d)) (cell_before d c) (λ h. grind (arith, ints)) (λ h. grind (arith, ints))

pub cell_equal : (c d : Cell) → is_eq (cell_cmp c d) ≡ same_cell c d
cell_equal c d = same_truth (is_eq (cell_cmp c d)) (same_cell c d) (λ h. grind (arith, ints)) (λ h. grind (arith, ints))

pub cell_equal_back : (c d : Cell) → is_eq (cell_cmp c d) ≡ same_cell d c
cell_equal_back c d = same_truth (is_eq (cell_cmp c d)) (same_cell d c) (λ h. grind (arith, ints)) (λ h. grind (arith, ints))

then_less : (o r : Ordering) → is_lt (ordering_then o r) ≡ (is_lt o || (is_eq o && is_lt r))
then_less Less r = refl
then_less Equal r = refl
then_less Greater r = refl

then_greater : (o r : Ordering) → is_gt (ordering_then o r) ≡ (is_gt o || (is_eq o && is_gt r))
then_greater Less r = refl
then_greater Equal r = refl
then_greater Greater r = refl

-- what an answer on lists says, by its cases
cells_by : (f : Ordering → Bool) (before : List Cell → List Cell → Bool) → f Equal ≡ before [] [] → ((y : Cell) (ys : List Cell) → f Less ≡ before [] (y ∷ ys)) → ((x : Cell) (xs : List Cell) → f Greater ≡ before (x ∷ xs) []) → ((x y : Cell) (xs ys : List Cell) → f (slice_cmp cell_cmp xs ys) ≡ before xs ys → f (ordering_then (cell_cmp x y) (slice_cmp cell_cmp xs ys)) ≡ before (x ∷ xs) (y ∷ ys)) → (xs ys : List Cell) → f (slice_cmp cell_cmp xs ys) ≡ before xs ys
cells_by f before none shorter longer step [] [] = none
cells_by f before none shorter longer step [] (y ∷ ys) = shorter y ys
cells_by f before none shorter longer step (x ∷ xs) [] = longer x xs
cells_by f before none shorter longer step (x ∷ xs) (y ∷ ys) = step x y xs ys (cells_by f before none shorter longer step xs ys)

pub cells_less : (xs ys : List Cell) → is_lt (slice_cmp cell_cmp xs ys) ≡ cells_before xs ys
cells_less =
    cells_by is_lt cells_before refl (λ y ys. refl) (λ x xs. refl) (λ x y xs ys rest. then_less (cell_cmp x y) (slice_cmp cell_cmp xs ys) ∙ (λ i. cell_less x y i || (cell_equal x y i && rest i)))

pub cells_greater : (xs ys : List Cell) → is_gt (slice_cmp cell_cmp xs ys) ≡ cells_before ys xs
cells_greater =
    cells_by is_gt (λ xs ys. cells_before ys xs) refl (λ y ys. refl) (λ x xs. refl) (λ x y xs ys rest. then_greater (cell_cmp x y) (slice_cmp cell_cmp xs ys) ∙ (λ i. cell_greater x y i || (cell_equal_back x y i && rest i)))
