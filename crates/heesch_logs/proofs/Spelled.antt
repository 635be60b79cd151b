-- Layers that are spelled, one isometry after the other.
use Rattle.std.proofs.Common.{◌≡◌, refl, sym, ap, subst, ◌∙◌, ℕ, zero, suc, ◌+◌, ◌<◌, ◌≤◌, List, [], ◌∷◌, length, drop, get_or, true, All, arith, not-suc-le-zero, le_of_suc-le-suc}
use Rattle.std.specs.Prelude.{◌↔◌, IsTrue, Option, Some, None, MatchOption}
use Rattle.std.specs.Cmp.Lexicographic.{slice_cmp}
use Rattle.std.specs.Ordering.{is_lt}
use Rattle.std.specs.declared.cmp.Ordering.{Ordering}
use Rattle.std.specs.declared.cmp.Ordering.TheVariants.{Less, Equal, Greater}
use Rattle.std.specs.List.{AllZip}
use Rattle.std.proofs.lemmas.List.Elements.{All-nil, All-cons, All-head, All-tail, All-weaker}
use Rattle.heesch_grid.specs.declared.Cell.{Cell}
use Rattle.heesch_grid.specs.declared.isometries.Iso.{Iso}
use Rattle.heesch_grid.specs.Cells.{cell_cmp, cells_before}
use Rattle.heesch_grid.specs.Geometry.{Geometry, image}
use Rattle.heesch_grid.specs.Listing.{IsRising}
use Rattle.heesch_grid.specs.Placement.{IsLeastIsometry}
use Rattle.heesch_grid.proofs.OrderFacts.{cells_less}
use Rattle.heesch_shape.specs.Order.{list_total}
use Rattle.heesch_place.specs.Universes.{Placed}
use Rattle.heesch_place.proofs.Moves.{one_cell_list}
use Rattle.heesch_cert.specs.TrueEntry.{Spells}
use Rattle.heesch_corona.specs.Tiles.{IsInRange, AreTilesOf}
use Rattle.heesch_logs.specs.Near.{IsNearIso, AreNearLayers}
use Rattle.heesch_logs.specs.Spelling.{IsSpelledAfter, tile_of}

before_trans : (x y z : List Cell) → cells_before x y ≡ true → cells_before y z ≡ true → cells_before x z ≡ true
before_trans x y z p q =
    sym (cells_less x z) ∙ ap is_lt (list_total.trans x y z (less_is (slice_cmp cell_cmp x y) (cells_less x y ∙ p)) (less_is (slice_cmp cell_cmp y z) (cells_less y z ∙ q)))
  where
    less_is : (o : Ordering) → is_lt o ≡ true → o ≡ Less
    less_is Less e = refl
    less_is Equal e = absurd (let n : ⊥ = cc in n)
    less_is Greater e = absurd (let n : ⊥ = cc in n)

module _ (g : Geometry) (shape : List Cell) where
  pub spelled_none : (last : Option (List Cell)) → IsSpelledAfter g shape last []
  spelled_none None = record { tiles = []; least = tt; rising = tt }
  spelled_none (Some tile) = record { tiles = []; least = tt; rising = (All-nil (λ t. IsTrue (cells_before tile t)), tt) }

  abbrev Comes : Option (List Cell) → List Cell → Type 0
  Comes last tile = MatchOption last (Unit {0}) (λ before. IsTrue (cells_before before tile))

  spelled_more : (last : Option (List Cell)) (by : Iso) (rest : List Iso) (tile : List Cell) → IsLeastIsometry g shape tile by → MatchOption last (Unit {0}) (λ before. IsTrue (cells_before before tile)) → IsSpelledAfter g shape (Some tile) rest → IsSpelledAfter g shape last (by ∷ rest)
  spelled_more None by rest tile least comes s = record { tiles = tile ∷ s.tiles; least = (least, s.least); rising = s.rising }
  spelled_more (Some before) by rest tile least comes s = record {
    tiles = tile ∷ s.tiles;
    least = (least, s.least);
    rising = (All-cons (λ t. IsTrue (cells_before before t)) tile s.tiles comes (All-weaker (λ t. IsTrue (cells_before tile t)) (λ t. IsTrue (cells_before before t)) (λ t h. before_trans before tile t comes h) s.tiles s.rising.0), s.rising);
  }

  pub spelled_least : (last : Option (List Cell)) (by : Iso) (rest : List Iso) → IsSpelledAfter g shape last (by ∷ rest) → (tile : List Cell) × IsLeastIsometry g shape tile by
  spelled_least last by rest s = first s.tiles s.least
    where
      first : (tiles : List (List Cell)) → AllZip (λ by tile. IsLeastIsometry g shape tile by) (by ∷ rest) tiles → (tile : List Cell) × IsLeastIsometry g shape tile by
      first [] h = absurd h
      first (tile ∷ tiles) h = (tile, h.0)

  spelled_rest : (last : Option (List Cell)) (by : Iso) (rest : List Iso) (tile : List Cell) → IsLeastIsometry g shape tile by → IsSpelledAfter g shape last (by ∷ rest) → MatchOption last (Unit {0}) (λ before. IsTrue (cells_before before tile)) × IsSpelledAfter g shape (Some tile) rest
  spelled_rest None by rest tile least s = go s.tiles s.least s.rising
    where
      go : (tiles : List (List Cell)) → AllZip (λ by tile. IsLeastIsometry g shape tile by) (by ∷ rest) tiles → IsRising cells_before tiles → Unit {0} × IsSpelledAfter g shape (Some tile) rest
      go [] h r = absurd h
      go (first ∷ tiles) h r =
          let same : first ≡ tile = one_cell_list (image g by shape) first tile h.0.gives least.gives in
          (tt, record { tiles = tiles; least = h.1; rising = subst (λ t. IsRising cells_before (t ∷ tiles)) same r })
  spelled_rest (Some before) by rest tile least s = go s.tiles s.least s.rising
    where
      go : (tiles : List (List Cell)) → AllZip (λ by tile. IsLeastIsometry g shape tile by) (by ∷ rest) tiles → IsRising cells_before (before ∷ tiles) → IsTrue (cells_before before tile) × IsSpelledAfter g shape (Some tile) rest
      go [] h r = absurd h
      go (first ∷ tiles) h r =
          let same : first ≡ tile = one_cell_list (image g by shape) first tile h.0.gives least.gives in (
            subst (λ t. IsTrue (cells_before before t)) same (All-head (λ t. IsTrue (cells_before before t)) first tiles r.0),
            record { tiles = tiles; least = h.1; rising = subst (λ t. IsRising cells_before (t ∷ tiles)) same r.1 },
          )

  -- a layer is spelled by its first isometry and those behind it
  pub spelled_next : (last : Option (List Cell)) (by : Iso) (rest : List Iso) (tile : List Cell) → IsLeastIsometry g shape tile by → IsSpelledAfter g shape last (by ∷ rest) ↔ (MatchOption last (Unit {0}) (λ before. IsTrue (cells_before before tile)) × IsSpelledAfter g shape (Some tile) rest)
  spelled_next last by rest tile least = (spelled_rest last by rest tile least, λ h. spelled_more last by rest tile least h.0 h.1)

  -- ---- all layers

  pub all_spelled : (layers : List (List Iso)) → All (IsSpelledAfter g shape None) layers → (tiles : List (List (List Cell))) × Spells g shape layers tiles
  all_spelled [] h = ([], record { isometries = tt; rising = All-nil (IsRising cells_before) })
  all_spelled (layer ∷ layers) h =
      let here = All-head (IsSpelledAfter g shape None) layer layers h in
      let rest = all_spelled layers (All-tail (IsSpelledAfter g shape None) layer layers h) in
      (here.tiles ∷ rest.0, record { isometries = (here.least, rest.1.isometries); rising = All-cons (IsRising cells_before) here.tiles rest.0 here.rising rest.1.rising })

  pub spelled_all : (layers : List (List Iso)) (tiles : List (List (List Cell))) → Spells g shape layers tiles → All (IsSpelledAfter g shape None) layers
  spelled_all [] tiles s = All-nil (IsSpelledAfter g shape None)
  spelled_all (layer ∷ layers) [] s = absurd s.isometries
  spelled_all (layer ∷ layers) (placed ∷ tiles) s =
      All-cons (IsSpelledAfter g shape None) layer layers
      (record { tiles = placed; least = s.isometries.0; rising = All-head (IsRising cells_before) placed tiles s.rising })
      (spelled_all layers tiles (record { isometries = s.isometries.1; rising = All-tail (IsRising cells_before) placed tiles s.rising }))

  -- the tiles are those of the isometries
  pub tiles_of : (layers : List (List Iso)) (tiles : List (List (List Cell))) → Spells g shape layers tiles → AreTilesOf g shape layers tiles
  tiles_of layers tiles s = weaken (λ layer placed. weaken (λ by tile h. h.gives) layer placed) layers tiles s.isometries
    where
      weaken : {A B : Type 0} {R S : A → B → Type 0} → ((x : A) (y : B) → R x y → S x y) → (xs : List A) (ys : List B) → AllZip R xs ys → AllZip S xs ys
      weaken f [] [] h = tt
      weaken f [] (y ∷ ys) h = absurd h
      weaken f (x ∷ xs) [] h = absurd h
      weaken f (x ∷ xs) (y ∷ ys) h = (f x y h.0, weaken f xs ys h.1)

  layer_in_range : (last : Option (List Cell)) (layer : List Iso) → IsSpelledAfter g shape last layer → All IsNearIso layer → All (IsInRange g) layer
  layer_in_range last [] s near = All-nil (IsInRange g)
  layer_in_range last (by ∷ rest) s near =
      let found = spelled_least last by rest s in
      All-cons (IsInRange g) by rest (found.1.is_isometry, All-head IsNearIso by rest near) (layer_in_range (Some found.0) rest (spelled_rest last by rest found.0 found.1 s).1 (All-tail IsNearIso by rest near))

  pub layers_in_range : (layers : List (List Iso)) → All (IsSpelledAfter g shape None) layers → AreNearLayers layers → All (All (IsInRange g)) layers
  layers_in_range [] s near = All-nil (All (IsInRange g))
  layers_in_range (layer ∷ layers) s near =
      All-cons (All (IsInRange g)) layer layers
      (layer_in_range None layer (All-head (IsSpelledAfter g shape None) layer layers s) (All-head (All IsNearIso) layer layers near))
      (layers_in_range layers (All-tail (IsSpelledAfter g shape None) layer layers s) (All-tail (All IsNearIso) layer layers near))

-- ---- the isometries that are left

pub drop_next : (xs : List Iso) (i : ℕ) (d : Iso) → i < length xs → drop i xs ≡ get_or xs i d ∷ drop (i + 1) xs
drop_next [] i d l = absurd (not-suc-le-zero l)
drop_next (x ∷ xs) zero d l = refl
drop_next (x ∷ xs) (suc i) d l = drop_next xs i d (le_of_suc-le-suc l) ∙ ap (λ n. get_or xs i d ∷ drop n (x ∷ xs)) (let e : suc (i + 1) ≡ suc i + 1 = omega arith in e)

pub drop_past : (xs : List Iso) (i : ℕ) → length xs ≤ i → drop i xs ≡ []
drop_past [] zero l = refl
drop_past [] (suc i) l = refl
drop_past (x ∷ xs) zero l = absurd (not-suc-le-zero l)
drop_past (x ∷ xs) (suc i) l = drop_past xs i (le_of_suc-le-suc l)

-- the last placement by its tile
pub by_tile : (P : List Cell → Type 0) (o : Option Placed) → MatchOption o (Unit {0}) (λ p. P p.tile) ↔ MatchOption (tile_of o) (Unit {0}) P
by_tile P None = ((λ h. tt), (λ h. tt))
by_tile P (Some p) = ((λ h. h), (λ h. h))
