-- What is proved of the rules.
use Rattle.std.specs.Prelude.{◌≡◌, ◌↔◌, List, All}
use Rattle.heesch_grid.specs.declared.Cell.{Cell}
use Rattle.heesch_grid.specs.declared.isometries.Iso.{Iso}
use Rattle.heesch_grid.specs.Geometry.{Geometry, IsGrid}
use Rattle.heesch_grid.specs.Placement.{IsPlacement}
use Rattle.heesch_grid.specs.Corona.{AreCoronas, AreHoleFreeCoronas}
use Rattle.heesch_corona.specs.Tiles.{AreTilesOf}
use Rattle.heesch_corona.specs.Rules.{AreRuled, NoneHoled}

-- layers of placements are coronas exactly where the first three rules hold
abbrev pub RulesMakeCoronas : Type 0
RulesMakeCoronas = (g : Geometry) (shape : List Cell) (tiles : List (List (List Cell))) → IsGrid g → All (All (IsPlacement g shape)) tiles → AreRuled g shape tiles ↔ AreCoronas g shape tiles

-- and hole-free ones exactly where no patch has a hole besides
abbrev pub RulesMakeHoleFreeCoronas : Type 0
RulesMakeHoleFreeCoronas = (g : Geometry) (shape : List Cell) (tiles : List (List (List Cell))) → IsGrid g → All (All (IsPlacement g shape)) tiles → (AreRuled g shape tiles × NoneHoled g shape tiles) ↔ AreHoleFreeCoronas g shape tiles

-- isometries give one list of layers of tiles
abbrev pub TilesAreUnique : Type 0
TilesAreUnique = (g : Geometry) (shape : List Cell) (layers : List (List Iso)) (tiles other : List (List (List Cell))) → AreTilesOf g shape layers tiles → AreTilesOf g shape layers other → tiles ≡ other
