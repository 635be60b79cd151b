-- Isometries give one list of layers of tiles, and its tiles are placements.
use Rattle.std.proofs.Common.{◌≡◌, List, [], ◌∷◌, All, Contains}
use Rattle.std.specs.List.{AllZip}
use Rattle.std.proofs.lemmas.List.Elements.{All-cons, All-nil, All-head, All-tail}
use Rattle.heesch_grid.specs.declared.Cell.{Cell}
use Rattle.heesch_grid.specs.declared.isometries.Iso.{Iso}
use Rattle.heesch_grid.specs.Cells.{cell_before, IsCellListOf}
use Rattle.heesch_grid.specs.Geometry.{Geometry, image}
use Rattle.heesch_grid.specs.Placement.{IsPlacement}
use Rattle.heesch_grid.proofs.CellFacts.{cell_before-irreflexive, cell_before-asymmetric}
use Rattle.heesch_grid.proofs.ListFacts.{same_listing}
use Rattle.heesch_shape.proofs.Zips.{one_zip}
use Rattle.heesch_corona.specs.Tiles.{IsInRange, IsLayerOf, AreTilesOf}
use Rattle.heesch_corona.specs.Statements.{TilesAreUnique}

one_tile : (g : Geometry) (shape : List Cell) (by : Iso) (s t : List Cell) → IsCellListOf (image g by shape) s → IsCellListOf (image g by shape) t → s ≡ t
one_tile g shape by s t h k = same_listing cell_before cell_before-irreflexive cell_before-asymmetric (Contains (image g by shape)) s t h k

pub tiles_are_unique : TilesAreUnique
tiles_are_unique g shape layers tiles other h k =
    one_zip (IsLayerOf g shape) (λ layer s t p q. one_zip (λ by tile. IsCellListOf (image g by shape) tile) (one_tile g shape) layer s t p q) layers tiles other h k

zip_all : {A B : Type 0} (P : A → Type 0) (R : A → B → Type 0) (Q : B → Type 0) → ((x : A) (y : B) → P x → R x y → Q y) → (xs : List A) (ys : List B) → All P xs → AllZip R xs ys → All Q ys
zip_all P R Q f [] [] p h = All-nil Q
zip_all P R Q f [] (y ∷ ys) p h = absurd h
zip_all P R Q f (x ∷ xs) [] p h = absurd h
zip_all P R Q f (x ∷ xs) (y ∷ ys) p h = All-cons Q y ys (f x y (All-head P x xs p) h.0) (zip_all P R Q f xs ys (All-tail P x xs p) h.1)

pub placements_of : (g : Geometry) (shape : List Cell) (layers : List (List Iso)) (tiles : List (List (List Cell))) → All (All (IsInRange g)) layers → AreTilesOf g shape layers tiles → All (All (IsPlacement g shape)) tiles
placements_of g shape layers tiles ranges are =
    zip_all (All (IsInRange g)) (IsLayerOf g shape) (All (IsPlacement g shape)) (λ layer placed p h. zip_all (IsInRange g) (λ by tile. IsCellListOf (image g by shape) tile) (IsPlacement g shape) (λ by tile q k. record { by = by; is_isometry = q.0; is_list = k }) layer placed p h) layers tiles ranges are
