-- The cells of a shape under a turn.
use Rattle.std.proofs.Common.{◌≡◌, ℕ, ◌<◌, true, List, map, IsSorted, IsPermutation, sym, ap, ◌∙◌, subst}
use Rattle.std.specs.List.{IsDistinct}
use Rattle.std.proofs.lemmas.List.Sorted.{list_any-IsPermutation}
use Rattle.std.proofs.lemmas.Map.Keys.{IsDistinct-IsPermutation}
use Rattle.heesch_grid.specs.declared.Cell.{Cell}
use Rattle.heesch_grid.specs.Cells.{same_cell, cell_cmp, has, IsCellListOf}
use Rattle.heesch_grid.specs.Geometry.{Geometry, IsGrid}
use Rattle.heesch_grid.specs.Integers.{same_truth}
use Rattle.heesch_grid.specs.Pairs.{same_cell-true, same_cell-is}
use Rattle.heesch_grid.specs.Vectors.{IsWithin}
use Rattle.heesch_grid.proofs.Images.{turn_within}
use Rattle.heesch_shape.specs.Walks.{IsShape}
use Rattle.heesch_shape.proofs.Sets.{map_has, distinct_map, rises_from_sorted}
use Rattle.heesch_shape.proofs.Words.{list_of_same, order_of}

same_cell_flips : (x y : Cell) → same_cell x y ≡ same_cell y x
same_cell_flips x y =
    same_truth (same_cell x y) (same_cell y x) (λ h. same_cell-is y x (sym (same_cell-true x y h))) (λ h. same_cell-is x y (sym (same_cell-true y x h)))

module _ (g : Geometry) (law : IsGrid g) (k : ℕ) (shape items ys zs : List Cell) (less : k < g.turns) (is_shape : IsShape g shape) (e : items ≡ map (g.turn k) shape) (p : IsPermutation items ys) where
  turn_once : (c d : Cell) → g.turn k c ≡ g.turn k d → c ≡ d
  turn_once c d h =
      let i = law.inverse k less in
      sym (i.1 c).0 ∙ ap (g.turn (g.inverse k)) h ∙ (i.1 d).0

  same : (c : Cell) → has ys c ≡ has (map (g.turn k) shape) c
  same c = sym (list_any-IsPermutation (same_cell c) items ys p) ∙ ap (λ ws. has ws c) e

  pub turned_list : IsSorted cell_cmp ys → zs ≡ ys → IsCellListOf (map (g.turn k) shape) zs
  turned_list sorted is =
      let distinct = subst (IsDistinct same_cell) (sym e) (distinct_map (g.turn k) turn_once shape (order_of g shape is_shape)) in
      let order = rises_from_sorted ys (IsDistinct-IsPermutation same_cell same_cell_flips items ys p distinct) sorted in
      subst (IsCellListOf (map (g.turn k) shape)) (sym is) (list_of_same (map (g.turn k) shape) ys order (record { same = same }))

  pub turned_near : zs ≡ ys → (c : Cell) → has zs c ≡ true → IsWithin 2000000 c
  turned_near is c h =
      let d = map_has (g.turn k) shape c (sym (same c) ∙ ap (λ ws. has ws c) (sym is) ∙ h) in
      subst (IsWithin 2000000) (sym d.2) (turn_within g law k 1000000 d.0 less (is_shape.within d.0 d.1))
