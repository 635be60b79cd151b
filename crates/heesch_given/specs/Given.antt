-- What a list text gives: the canonical lists of its shapes, or its first fault; and how much of it is read.
use Rattle.std.specs.Prelude.{◌≡◌, ◌⊎◌, ℕ, ◌+◌, ◌<◌, ◌≤◌, List, [], ◌++◌, length, Option, All, ⊤}
use Rattle.std.specs.List.{AllByRecursion, AllZip}
use Rattle.heesch_grid.specs.declared.Cell.{Cell}
use Rattle.heesch_grid.specs.Cells.{IsCellListOf}
use Rattle.heesch_grid.specs.Geometry.{Geometry}
use Rattle.heesch_grid.specs.Polyform.{IsPolyform, IsCanonicalListOf}
use Rattle.heesch_text.specs.Fields.{cells_text}
use Rattle.heesch_text.specs.Shapes.{list_text}
use Rattle.heesch_line.specs.Forms.{HasNoNewline}
use Rattle.heesch_line.specs.Lists.{AreCells, IsListText, GoesOn}
use Rattle.heesch_line.specs.Scanning.{IsNoLine}
use Rattle.heesch_shape.specs.declared.faults.ShapeFault.{ShapeFault}
use Rattle.heesch_shape.specs.Faults.{IsFault, IsFaultless, number_of}
use Rattle.heesch_io.specs.Input.{IsAllOf}
use Rattle.heesch_line.specs.declared.stops.InputStop.{InputStop}
use Rattle.heesch_line.specs.declared.stops.InputStop.TheVariants.{Fault, Failed, NoMemory}

-- the canonical list of the polyform of at most 32 cells that has these cells, which may stand in any order
pub record IsCanonicalOf (g : Geometry) (cells canonical : List Cell) : Type 0 where
  pub shape : List Cell
  pub same_cells : IsCellListOf cells shape
  pub polyform : IsPolyform g shape
  pub few : length shape ≤ 32
  pub is_canonical : IsCanonicalListOf g shape canonical

-- the text is a list of shapes, no longer than is read, and these are their canonical lists, in their order
pub record AreGiven (most : ℕ) (g : Geometry) (text : List ℕ) (shapes : List (List Cell)) : Type 0 where
  pub given : List (List Cell)
  pub listed : IsListText text given
  pub in_time : length text ≤ most
  pub are_shapes : All (IsFaultless g) given
  pub canonical : AllZip (IsCanonicalOf g) given shapes

-- the line is cells, which may stand in any order, and this is the canonical list of their polyform of at most 32 cells
pub record IsShapeLine (g : Geometry) (line : List ℕ) (canonical : List Cell) : Type 0 where
  pub cells : List Cell
  pub are_cells : AreCells cells
  pub text : line ≡ cells_text cells
  pub faultless : IsFaultless g cells
  pub is_canonical : IsCanonicalOf g cells canonical

-- ---- the first fault

-- the line behind those of these cells ends within the bytes that are read, or the text does
abbrev pub EndsInTime : (most : ℕ) (text : List ℕ) (given : List (List Cell)) (line : List ℕ) → Type 0
EndsInTime most text given line = (length (list_text given) + length line < most) ⊎ (length text ≤ most)

-- the line is cells, and they are no shape, for the reason of this number
pub record IsNoShape (g : Geometry) (line : List ℕ) (number : ℕ) : Type 0 where
  pub cells : List Cell
  pub are_cells : AreCells cells
  pub text : line ≡ cells_text cells
  pub fault : ShapeFault
  pub is_fault : IsFault g cells fault
  pub number_is : number ≡ number_of fault

-- the line has this fault in itself: 1 to 5 where it is cells that are no shape, 6 where it isn't cells
abbrev pub IsLineFault : Geometry → List ℕ → ℕ → Type 0
IsLineFault g line number = IsNoShape g line number ⊎ (IsNoLine line × (number ≡ 6))

-- the fault of the line behind those of these cells: 7 where it is line 10,001; else its own where it ends in time, and 8 where it doesn't
abbrev pub IsFaultBehind : (most : ℕ) → Geometry → (text : List ℕ) (given : List (List Cell)) (line : List ℕ) → ℕ → Type 0
IsFaultBehind most g text given line number =
    ((length given ≡ 10000) × (number ≡ 7))
    ⊎ ((length given < 10000) × EndsInTime most text given line × IsLineFault g line number)
    ⊎ ((length given < 10000) × (EndsInTime most text given line → ⊥) × (number ≡ 8))

-- The first line at fault, from 1, and the number of its fault: the lines before it are shapes, and end within the bytes that are read.
pub record HasFault (most : ℕ) (g : Geometry) (text : List ℕ) (line number : ℕ) : Type 0 where
  pub given : List (List Cell)
  pub at : List ℕ
  pub goes_on : GoesOn text given at
  pub shapes : All (IsFaultless g) given
  pub in_time : length (list_text given) ≤ most
  pub fault : IsFaultBehind most g text given at number
  pub line_is : line ≡ length given + 1

-- ---- what is answered

-- the text that the source had left is a list of shapes, and these are their canonical lists
abbrev pub GivesShapes : (most : ℕ) → Geometry → Option (List ℕ) → List (List Cell) → Type 0
GivesShapes most g left shapes = (text : List ℕ) × IsAllOf left text × AreGiven most g text shapes

-- the text that the source had left has this fault, unless the source failed, or memory was refused
abbrev pub GivesFault : (most : ℕ) → Geometry → Option (List ℕ) → InputStop ℕ → Type 0
GivesFault most g left (Fault line number) = (text : List ℕ) × IsAllOf left text × HasFault most g text line number
GivesFault most g left Failed = ⊤
GivesFault most g left NoMemory = ⊤

-- ---- what is read of the source

-- the bytes begin a list of shapes: each line that ended in them is a shape, and line 10,001 doesn't begin
pub record BeginList (g : Geometry) (bytes : List ℕ) : Type 0 where
  pub given : List (List Cell)
  pub line : List ℕ
  pub text : bytes ≡ list_text given ++ line
  pub one_line : HasNoNewline line
  pub cells : AllByRecursion AreCells given
  pub shapes : All (IsFaultless g) given
  pub few : length given ≤ 10000
  pub full : length given ≡ 10000 → line ≡ []

-- the bytes decide nothing yet: they begin a list of shapes, and no more than the most are read
pub record DecideNothing (most : ℕ) (g : Geometry) (bytes : List ℕ) : Type 0 where
  pub begin : BeginList g bytes
  pub in_time : length bytes ≤ most

-- ---- statements

-- no text is both a list of shapes and at fault
abbrev pub ListsHaveNoFault : Type 0
ListsHaveNoFault = (most : ℕ) (g : Geometry) (text : List ℕ) (shapes : List (List Cell)) (line number : ℕ) → AreGiven most g text shapes → HasFault most g text line number → ⊥

-- a text has one first fault at most
abbrev pub OneFault : Type 0
OneFault = (most : ℕ) (g : Geometry) (text : List ℕ) (line number at other : ℕ) → HasFault most g text line number → HasFault most g text at other → (line ≡ at) × (number ≡ other)
