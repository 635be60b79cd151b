-- What the search for a cover that keeps no log answers.
use Rattle.std.specs.Prelude.{◌≡◌, ◌+◌, ◌<◌, ◌≤◌, ◌⊎◌, ◌↔◌, ℕ, pos, true, false, Bool, Some, List, [], ◌∷◌, length, slice_index_or, cond, nat_lt, All, Contains}
use Rattle.std.specs.List.{slice_get, sum}
use Rattle.std.specs.List.Sorted.{IsStrictlyIncreasing}
use Rattle.std.specs.Int.{bit_at}
use Rattle.std.specs.Int.Bits.{bit_and}
use Rattle.heesch_exact.specs.Covers.{partial_covers, without}
use Rattle.heesch_grid.specs.declared.Cell.{Cell}
use Rattle.heesch_grid.specs.declared.isometries.Iso.{Iso}
use Rattle.heesch_grid.specs.Listing.{ListsExactly}
use Rattle.heesch_grid.specs.Cells.{cell_before}
use Rattle.heesch_grid.specs.Geometry.{Geometry, IsIsometry}
use Rattle.heesch_grid.specs.Lattice.{Triple, IsReduced}
use Rattle.heesch_grid.specs.Tiling.{IsPeriodicCover}
use Rattle.heesch_torus.specs.Answer.{IsChosenCover}
use Rattle.heesch_torus.specs.Beside.{FillBeside}
use Rattle.heesch_torus.specs.Formula.{reduced_cells}
use Rattle.heesch_torus.specs.Masks.{IsMaskOf, HasDouble}
use Rattle.heesch_torus.specs.Variables.{TorusVariable}
use Rattle.heesch_torus.specs.declared.filling.Filling.{Filling}
use Rattle.heesch_torus.specs.declared.filling.Filling.TheVariants as Fills
use Rattle.heesch_torus.specs.declared.cover.CoverAnswer.{CoverAnswer}
use Rattle.heesch_torus.specs.declared.cover.CoverAnswer.TheVariants.{Tiles, None, Open}

-- the torus has more than 64 cells
pub record HasManyCells (g : Geometry) (t : Triple) : Type 0 where
  pub cells : List Cell
  pub reduced : ListsExactly cell_before (IsReduced g t) cells
  pub many : 64 < length cells

-- the word has the bits of the reduced cells, and no others
abbrev pub HasAllPoints : Geometry → Triple → ℕ → Type 0
HasAllPoints g t full = (k : ℕ) → bit_at full k ≡ cond (nat_lt k (length (reduced_cells g t))) 1 0

-- the tile of a turn at (0, 0)
abbrev pub unmoved : ℕ → Iso
unmoved turn = record { turn = turn; da = pos 0; db = pos 0 }

-- the masks of the tiles of this turn and later ones that share no reduced cell with the first, each once
pub record AreMasksBeside (g : Geometry) (shape : List Cell) (t : Triple) (turn first : ℕ) (masks : List ℕ) : Type 0 where
  pub rising : IsStrictlyIncreasing masks
  pub only : (m : ℕ) → Contains masks m → (bit_and m first ≡ 0) × (by : Iso) × IsIsometry g by × (turn ≤ by.turn) × IsMaskOf g shape t by m
  pub every : (by : Iso) → IsIsometry g by → turn ≤ by.turn → (m : ℕ) → IsMaskOf g shape t by m → bit_and m first ≡ 0 → Contains masks m

-- so many choices of such masks beside the tile of this turn at (0, 0) have no reduced cell twice
pub record CountsPartialCovers (g : Geometry) (shape : List Cell) (t : Triple) (full turn count : ℕ) : Type 0 where
  pub first : ℕ
  pub is_first : IsMaskOf g shape t (unmoved turn) first
  pub beside : List ℕ
  pub are : AreMasksBeside g shape t turn first beside
  pub count_is : count ≡ partial_covers beside (without full first)

-- how many partial covers have the tile of this turn at (0, 0) and else tiles of this turn and later ones: none where it overlaps itself
abbrev pub HasPartialCovers : Geometry → List Cell → Triple → ℕ → ℕ → ℕ → Type 0
HasPartialCovers g shape t full turn count = (HasDouble g shape t (unmoved turn) × (count ≡ 0)) ⊎ CountsPartialCovers g shape t full turn count

-- the counts of the partial covers of this turn and of each later one, in order
abbrev pub HasPartialCoversFrom : Geometry → List Cell → Triple → ℕ → ℕ → List ℕ → Type 0
HasPartialCoversFrom g shape t full turn [] = turn ≡ g.turns
HasPartialCoversFrom g shape t full turn (count ∷ counts) = HasPartialCovers g shape t full turn count × HasPartialCoversFrom g shape t full (turn + 1) counts

-- so many nodes are too few: they are fewer than the partial covers of some turn and the later ones together
pub record AreFewNodes (g : Geometry) (shape : List Cell) (t : Triple) (nodes : ℕ) : Type 0 where
  pub full : ℕ
  pub points : HasAllPoints g t full
  pub turn : ℕ
  pub counts : List ℕ
  pub are : HasPartialCoversFrom g shape t full turn counts
  pub fewer : nodes < sum counts

-- Tiles: such a cover; None: there is none; Open: the torus has more than 64 cells, or the nodes were fewer than the partial covers
abbrev pub IsCoverAnswer : Geometry → List Cell → Triple → ℕ → CoverAnswer → Type 0
IsCoverAnswer g shape t nodes (Tiles tiling) = IsChosenCover g shape t tiling
IsCoverAnswer g shape t nodes None = (places : List Iso) → ¬ IsPeriodicCover g shape t places
IsCoverAnswer g shape t nodes Open = HasManyCells g t ⊎ AreFewNodes g shape t nodes

-- the mask is that of a tile
abbrev pub IsTileMask : Geometry → List Cell → Triple → ℕ → Type 0
IsTileMask g shape t mask = (by : Iso) × IsIsometry g by × IsMaskOf g shape t by mask

-- the masks are those of tiles, which together have each reduced cell once
pub record AreExactMasks (g : Geometry) (shape : List Cell) (t : Triple) (full : ℕ) (masks : List ℕ) : Type 0 where
  pub tiles : (m : ℕ) → Contains masks m → IsTileMask g shape t m
  pub fill : FillBeside 0 full masks

-- the masks are exact for the word of all reduced cells
abbrev pub HasExactMasks : Geometry → List Cell → Triple → List ℕ → Type 0
HasExactMasks g shape t masks = (full : ℕ) × HasAllPoints g t full × AreExactMasks g shape t full masks

-- with the tile of this turn at (0, 0): some of the masks that fill what it leaves; there are none; or the nodes were fewer than its partial covers
abbrev pub IsFillingAt : Geometry → List Cell → Triple → ℕ → List ℕ → ℕ → ℕ → Filling → Type 0
IsFillingAt g shape t turn masks full nodes (Fills.Filled found) = AreExactMasks g shape t full found
IsFillingAt g shape t turn masks full nodes Fills.None = (first : ℕ) → IsMaskOf g shape t (unmoved turn) first → (found : List ℕ) → All (Contains masks) found → ¬ FillBeside first full found
IsFillingAt g shape t turn masks full nodes Fills.Open = (count : ℕ) × HasPartialCovers g shape t full turn count × (nodes < count)

-- no tile of this turn at (0, 0) and tiles of this turn and later ones are a periodic cover
abbrev pub HasNoCoverAt : Geometry → List Cell → Triple → ℕ → Type 0
HasNoCoverAt g shape t turn = (rest : List Iso) → All (λ x. IsIsometry g x × (turn ≤ x.turn)) rest → ¬ IsPeriodicCover g shape t (unmoved turn ∷ rest)

-- masks of tiles that have each reduced cell once; there is no periodic cover; or the nodes were fewer than the partial covers
abbrev pub IsTorusFilling : Geometry → List Cell → Triple → ℕ → ℕ → Filling → Type 0
IsTorusFilling g shape t full nodes (Fills.Filled found) = AreExactMasks g shape t full found
IsTorusFilling g shape t full nodes Fills.None = (places : List Iso) → ¬ IsPeriodicCover g shape t places
IsTorusFilling g shape t full nodes Fills.Open = AreFewNodes g shape t nodes

-- one of the masks is that of the tile
abbrev pub HasMaskAmong : Geometry → List Cell → Triple → List ℕ → Iso → Type 0
HasMaskAmong g shape t masks by = (m : ℕ) × IsMaskOf g shape t by m × Contains masks m

-- the values say which of the variables have their mask among these
pub record AreValuesOf (g : Geometry) (shape : List Cell) (t : Triple) (masks : List ℕ) (vars : List TorusVariable) (values : List Bool) : Type 0 where
  pub count : length values ≡ length vars
  pub each : (k : ℕ) (x : TorusVariable) → slice_get vars k ≡ Some x → (slice_index_or values k false ≡ true) ↔ HasMaskAmong g shape t masks x.by
