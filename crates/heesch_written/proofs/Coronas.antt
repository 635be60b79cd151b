-- Places that spell at most six coronas lie near 0.
use Rattle.std.proofs.Common.{◌≡◌, ◌≢◌, refl, subst, ℕ, zero, suc, ◌+◌, ◌*◌, ◌<◌, ◌≤◌, List, [], ◌∷◌, length, All, Contains, inl, inr, arith}
use Rattle.std.specs.List.{AllZip, AllByRecursion}
use Rattle.std.proofs.lemmas.Bool.{cases_Bool}
use Rattle.std.proofs.lemmas.Int.{ints}
use Rattle.std.proofs.lemmas.List.Elements.{All-contains, All-nil}
use Rattle.std.proofs.lemmas.Slice.Zip.{AllZip-long}
use Rattle.heesch_grid.specs.declared.Cell.{Cell}
use Rattle.heesch_grid.specs.declared.isometries.Iso.{Iso}
use Rattle.heesch_grid.specs.Cells.{cell, has}
use Rattle.heesch_grid.specs.Corona.{cells_of, AreCoronas}
use Rattle.heesch_grid.specs.Geometry.{Geometry, IsGrid, IsCell, IsAround, Adjacent, apply}
use Rattle.heesch_grid.specs.Pairs.{has-true}
use Rattle.heesch_grid.specs.Placement.{IsLeastIsometry}
use Rattle.heesch_grid.specs.Vectors.{IsWithin}
use Rattle.heesch_grid.proofs.CellFacts.{has-false}
use Rattle.heesch_grid.proofs.GridFacts.{adjacent_touching}
use Rattle.heesch_grid.proofs.LayerFacts.{layer_of, patch_before, corona_at, in_patch, patch_first, placed_in, at_level}
use Rattle.heesch_grid.proofs.ListFacts.{member_cases, member_here, member_there, no_member, All-from_members}
use Rattle.heesch_grid.proofs.TileFacts.{member_cells, cells_member, placement_set}
use Rattle.heesch_grid.proofs.WindowFacts.{member_map}
use Rattle.heesch_cuts.proofs.HoleFacts.{hole_within}
use Rattle.heesch_written.specs.Near.{IsNearPlace, IsNearLayer, CoronasAreNear}
use Rattle.heesch_written.proofs.Distances.{translation_near}
use Rattle.heesch_grid.proofs.Images.{wider}
use Rattle.heesch_written.proofs.Shapes.{IsNearShape, first_cell, near_shape}
use Rattle.heesch_written.proofs.Levels.{level_within}

-- a layer has a tile, and the cells of its tiles lie near 0
record AreNearTiles (tiles : List (List Cell)) : Type 0 where
  some : tiles ≢ []
  near : (tile : List Cell) → Contains tiles tile → (c : Cell) → Contains tile c → IsWithin 1200 c

module _ (g : Geometry) (law : IsGrid g) where
  -- a set of cells that isn't empty has a cell around it
  always_around : (cells : List Cell) → 0 < length cells → All (IsCell g) cells → ((c : Cell) → IsAround g cells c → ⊥) → ⊥
  always_around cells some in_grid none =
      let base = first_cell cells some in
      let w = within base.0 base.1 in
      let next = law.greater_a base.0 (All-contains (IsCell g) cells base.0 in_grid base.1) in
      let v = within next.0 (closed base.0 next.0 base.1 next.1) in
      let low = w.a_low in
      let high = v.a_high in
      let greater = next.2 in
      omega (arith, ints, low, high, greater)
    where
      closed : (c d : Cell) → Contains cells c → Adjacent g c d → Contains cells d
      closed c d m a =
          elim (cases_Bool (has cells d)) [
            | inl t ↦ has-true cells d t
            | inr f ↦ absurd (none d (record { outside = has-false cells d f; member = c; inside = m; touching = adjacent_touching g law c d a }))
          ]

      within : (c : Cell) → Contains cells c → IsWithin 0 c
      within c m = All-contains (IsWithin 0) cells c (hole_within g law [] cells (record { some = some; in_grid = in_grid; outside = λ d h. no_member d; enclosed = λ d e h a. inl (closed d e h a) }) 0 (All-nil (IsWithin 0))) m

  module _ (shape : List Cell) (s : IsNearShape g shape) where
    module _ (tiles : List (List (List Cell))) (few : length tiles ≤ 6) (coronas : AreCoronas g shape tiles) where
      patch_in_grid : (i : ℕ) → All (IsCell g) (cells_of (patch_before (shape ∷ []) tiles i))
      patch_in_grid i = All-from_members (IsCell g) (cells_of (patch_before (shape ∷ []) tiles i)) (λ c m. at c (cells_member (patch_before (shape ∷ []) tiles i) c m))
        where
          at : (c : Cell) → (tile : List Cell) × Contains (patch_before (shape ∷ []) tiles i) tile × Contains tile c → IsCell g c
          at c t = elim (in_patch (shape ∷ []) tiles i t.0 t.1) [
            | inl h ↦ elim (member_cases shape [] t.0 h) [
              | inl e ↦ All-contains (IsCell g) t.0 c (subst (λ z. All (IsCell g) z) e s.polyform.is_set.in_grid) t.2
              | inr n ↦ absurd (no_member t.0 n)
            ]
            | inr k ↦ All-contains (IsCell g) t.0 c (placement_set g law shape t.0 s.polyform (placed_in g law shape s.polyform tiles coronas k.0 t.0 k.2)).in_grid t.2
          ]

      layer_some : (i : ℕ) → i < length tiles → layer_of tiles i ≢ []
      layer_some i less empty =
          let patch = patch_before (shape ∷ []) tiles i in
          let corona = corona_at g shape tiles (shape ∷ []) coronas i less in
          let base : Contains (cells_of patch) s.base = member_cells patch shape s.base (patch_first (shape ∷ []) tiles i shape (member_here shape [])) s.inside in
          always_around (cells_of patch) (let l = base.1 in omega (arith, l)) (patch_in_grid i) (λ c a. no_member c (subst (λ ts. Contains (cells_of ts) c) empty (corona.covering c a)))

      layer_near : (i : ℕ) → i < length tiles → AreNearTiles (layer_of tiles i)
      layer_near i less = record {
        some = layer_some i less;
        near = λ tile m. level_within g law shape s (suc i) tile (omega arith) (at_level g law shape s.polyform tiles coronas i tile m);
      }

    -- the places of near tiles
    place_near : (tile : List Cell) (by : Iso) → ((c : Cell) → Contains tile c → IsWithin 1200 c) → IsLeastIsometry g shape tile by → IsNearPlace g by
    place_near tile by near is =
        let to = near (apply g by s.base) (is.gives.every (apply g by s.base) (member_map (apply g by) shape s.base s.inside)) in
        (is.is_isometry, wider (2 * 200 + 1200) 100000 (cell by.da by.db) (omega arith) (translation_near g law 200 1200 by s.base is.is_isometry (s.near s.base s.inside) to))

    places_near : (layer : List Iso) (placed : List (List Cell)) → ((tile : List Cell) → Contains placed tile → (c : Cell) → Contains tile c → IsWithin 1200 c) → AllZip (λ by tile. IsLeastIsometry g shape tile by) layer placed → AllByRecursion (IsNearPlace g) layer
    places_near [] [] near z = tt
    places_near [] (tile ∷ placed) near z = absurd z
    places_near (by ∷ layer) [] near z = absurd z
    places_near (by ∷ layer) (tile ∷ placed) near z =
        (place_near tile by (near tile (member_here tile placed)) z.0, places_near layer placed (λ t m. near t (member_there tile placed t m)) z.1)

    spelled_near : (layer : List Iso) (placed : List (List Cell)) → AreNearTiles placed → AllZip (λ by tile. IsLeastIsometry g shape tile by) layer placed → IsNearLayer g layer
    spelled_near [] [] n z = absurd (n.some refl)
    spelled_near [] (tile ∷ placed) n z = absurd z
    spelled_near (by ∷ layer) placed n z = record { some = λ e. never e; near = places_near (by ∷ layer) placed n.near z }
      where
        never : (by ∷ layer) ≡ [] → ⊥
        never e = cc

    layers_near : (layers : List (List Iso)) (tiles : List (List (List Cell))) → ((i : ℕ) → i < length tiles → AreNearTiles (layer_of tiles i)) → AllZip (λ layer placed. AllZip (λ by tile. IsLeastIsometry g shape tile by) layer placed) layers tiles → AllByRecursion (IsNearLayer g) layers
    layers_near [] [] near z = tt
    layers_near [] (placed ∷ tiles) near z = absurd z
    layers_near (layer ∷ layers) [] near z = absurd z
    layers_near (layer ∷ layers) (placed ∷ tiles) near z =
        (spelled_near layer placed (near zero (omega arith)) z.0, layers_near layers tiles (λ i l. near (suc i) (omega arith)) z.1)

pub coronas_are_near : CoronasAreNear
coronas_are_near g law n shape layers tiles low most free few spelled coronas =
    let s : IsNearShape g shape = near_shape g law n shape most free in
    let long : length tiles ≡ length layers = AllZip-long (λ layer placed. AllZip (λ by tile. IsLeastIsometry g shape tile by) layer placed) layers tiles spelled.isometries in
    layers_near g law shape s layers tiles (layer_near g law shape s tiles (omega (arith, long, few)) coronas) spelled.isometries
