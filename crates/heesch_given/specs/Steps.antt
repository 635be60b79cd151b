-- The steps of reading a list text.
use Rattle.std.specs.Prelude.{◌≡◌, ℕ, ◌+◌, ◌≤◌, List, [], ◌∷◌, ◌++◌, length, Ok, Err, Result, ⊤}
use Rattle.std.specs.List.{AllZip}
use Rattle.heesch_grid.specs.declared.Cell.{Cell}
use Rattle.heesch_grid.specs.Geometry.{Geometry}
use Rattle.heesch_line.specs.Scanning.{Scanned, IsScanned}
use Rattle.heesch_line.specs.declared.stops.InputStop.{InputStop}
use Rattle.heesch_line.specs.declared.stops.InputStop.TheVariants.{Fault, Failed, NoMemory}
use Rattle.heesch_given.specs.Given.{IsCanonicalOf, IsShapeLine, IsLineFault, HasFault, BeginList}

-- the bytes were read and begin a list of shapes; these are the canonical lists of the shapes, and the line that didn't end was read
pub record IsRead (g : Geometry) (bytes : List ℕ) (shapes : List (List Cell)) (s : Scanned) : Type 0 where
  pub begin : BeginList g bytes
  pub canonical : AllZip (IsCanonicalOf g) begin.given shapes
  pub scanned : IsScanned begin.line s

-- bytes were read that begin a list of shapes
abbrev pub MayGoOn : Geometry → List (List Cell) → Scanned → Type 0
MayGoOn g shapes s = (bytes : List ℕ) × IsRead g bytes shapes s

-- bytes of a line were read, or none
abbrev pub IsSomeLine : Scanned → Type 0
IsSomeLine s = (line : List ℕ) × IsScanned line s

-- the line is a shape, whose canonical list was added
pub record AddsShape (g : Geometry) (line : List ℕ) (old new : List (List Cell)) : Type 0 where
  pub canonical : List Cell
  pub shape : IsShapeLine g line canonical
  pub added : new ≡ old ++ canonical ∷ []

-- the line is a shape, which was added, and another line begins; or it has this fault
abbrev pub EndsLine : Geometry → (line : List ℕ) (old new : List (List Cell)) → Scanned → Result (Unit {0}) (InputStop ℕ) → Type 0
EndsLine g line old new s (Ok _) = AddsShape g line old new × IsScanned [] s
EndsLine g line old new s (Err (Fault at number)) = (at ≡ length old + 1) × IsLineFault g line number
EndsLine g line old new s (Err Failed) = ⊥
EndsLine g line old new s (Err NoMemory) = ⊤

-- each text that begins with these bytes has the fault, if all of them are read
abbrev pub IsFrontStop : Geometry → (front : List ℕ) → InputStop ℕ → Type 0
IsFrontStop g front (Fault line number) = (most : ℕ) (rest : List ℕ) → length front ≤ most → HasFault most g (front ++ rest) line number
IsFrontStop g front Failed = ⊥
IsFrontStop g front NoMemory = ⊤

-- the text has the fault
abbrev pub IsWholeStop : (most : ℕ) → Geometry → (text : List ℕ) → InputStop ℕ → Type 0
IsWholeStop most g text (Fault line number) = HasFault most g text line number
IsWholeStop most g text Failed = ⊥
IsWholeStop most g text NoMemory = ⊤

-- each text that goes on behind these bytes has the fault, if no more than these are read
abbrev pub IsStopBeyond : Geometry → (front : List ℕ) → InputStop ℕ → Type 0
IsStopBeyond g front (Fault line number) = (byte : ℕ) (rest : List ℕ) → HasFault (length front) g (front ++ byte ∷ rest) line number
IsStopBeyond g front Failed = ⊥
IsStopBeyond g front NoMemory = ⊥
