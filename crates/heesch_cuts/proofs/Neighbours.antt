-- Loops over the cells that are adjacent to a cell.
use Rattle.std.proofs.Common.{◌≡◌, sym, subst, ◌∙◌, ℕ, ◌+◌, ◌<◌, ◌≤◌, length, take, All, arith}
use Rattle.std.specs.Prelude.{Some}
use Rattle.std.specs.List.{slice_get}
use Rattle.std.proofs.lemmas.List.{take_all}
use Rattle.std.proofs.lemmas.List.Elements.{All-more, All-same}
use Rattle.std.proofs.lemmas.Option.{get_or_from_slice_get}
use Rattle.heesch_grid.specs.declared.Cell.{Cell}
use Rattle.heesch_grid.specs.Geometry.{Geometry, IsGrid, IsCell}

module _ (g : Geometry) (law : IsGrid g) (c : Cell) (is : IsCell g c) (end : ℕ) (ends : end ≡ g.adjacent_count) where
  long : end ≡ length (g.adjacent c)
  long = ends ∙ sym ((law.adjacent_listed c is).1)

  -- a number below the end is the place of one of them
  pub one_neighbour : (i : ℕ) → i < end → i < length (g.adjacent c)
  one_neighbour i l = omega (arith, long, l)

  -- and at the end there is none left
  pub no_neighbour : (i : ℕ) → end ≤ i → length (g.adjacent c) ≤ i
  no_neighbour i l = omega (arith, long, l)

  -- what holds of the first of them and of the next
  pub more_neighbours : (P : Cell → Type 0) (i : ℕ) (d : Cell) → i < end → slice_get (g.adjacent c) i ≡ Some d → All P (take i (g.adjacent c)) → P d → All P (take (i + 1) (g.adjacent c))
  more_neighbours P i d l at h p = All-more P (g.adjacent c) i d (one_neighbour i l) h (subst P (sym (get_or_from_slice_get (g.adjacent c) i d d at)) p)

  -- and of all
  pub all_neighbours : (P : Cell → Type 0) (i : ℕ) → end ≤ i → All P (take i (g.adjacent c)) → All P (g.adjacent c)
  all_neighbours P i l h = All-same P (g.adjacent c) (take i (g.adjacent c)) (sym (take_all i (g.adjacent c) (no_neighbour i l))) h
