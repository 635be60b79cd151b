-- Free polyforms of at most 32 cells lie near 0.
use Rattle.std.proofs.Common.{ℕ, ◌<◌, ◌≤◌, List, [], ◌∷◌, length, Contains, arith}
use Rattle.std.proofs.lemmas.List.Elements.{recursion_from_All}
use Rattle.heesch_grid.specs.declared.Cell.{Cell}
use Rattle.heesch_grid.specs.Geometry.{Geometry, IsGrid}
use Rattle.heesch_grid.specs.Polyform.{IsPolyform, IsFreePolyform}
use Rattle.heesch_grid.specs.Vectors.{IsWithin}
use Rattle.heesch_grid.proofs.CellFacts.{has-is}
use Rattle.heesch_grid.proofs.GrowthOfLists.{image_length}
use Rattle.heesch_grid.proofs.IsometryFacts.{image_polyform}
use Rattle.heesch_grid.proofs.ListFacts.{member_here, All-from_members}
use Rattle.heesch_shape.proofs.Near.{canonical_within}
use Rattle.heesch_written.specs.Near.{ShapesAreNear}
use Rattle.heesch_grid.proofs.Images.{wider}

-- a polyform of at most 32 cells near 0, and a cell of it
pub record IsNearShape (g : Geometry) (shape : List Cell) : Type 0 where
  pub polyform : IsPolyform g shape
  pub few : length shape ≤ 32
  pub near : (c : Cell) → Contains shape c → IsWithin 200 c
  pub base : Cell
  pub inside : Contains shape base

pub first_cell : (cells : List Cell) → 0 < length cells → (c : Cell) × Contains cells c
first_cell [] some = absurd (omega arith)
first_cell (c ∷ cells) some = (c, member_here c cells)

pub near_shape : (g : Geometry) → IsGrid g → (n : ℕ) (shape : List Cell) → n ≤ 32 → IsFreePolyform g n shape → IsNearShape g shape
near_shape g law n shape most free =
    let polyform = image_polyform g law free.cells shape free.polyform free.canonical.is_image in
    let same = image_length g law free.cells shape free.polyform.is_set.rising free.canonical.is_image in
    let size = free.size in
    let few : length shape ≤ 32 = omega (arith, same, size, most) in
    let first = first_cell shape polyform.some in
    record {
      polyform = polyform;
      few = few;
      near = λ c m. canonical_within g law free.cells shape free.polyform free.canonical few c (has-is shape c m);
      base = first.0;
      inside = first.1;
    }

pub shapes_are_near : ShapesAreNear
shapes_are_near g law n shape most free =
    let s : IsNearShape g shape = near_shape g law n shape most free in
    recursion_from_All (IsWithin 100000) shape (All-from_members (IsWithin 100000) shape (λ c m. wider 200 100000 c (omega arith) (s.near c m)))
