-- The line of a shape, with which an input begins.
use Rattle.std.specs.Prelude.{◌≡◌, ◌⊎◌, ◌↔◌, ℕ, ◌<◌, ◌≤◌, Bool, List, [], ◌∷◌, ◌++◌, length, ⊤}
use Rattle.heesch_grid.specs.declared.Cell.{Cell}
use Rattle.heesch_grid.specs.Clauses.{formula_size}
use Rattle.heesch_grid.specs.Corona.{AreCoronas, HasCoronas}
use Rattle.heesch_grid.specs.CoronaFormula.{Variable}
use Rattle.heesch_grid.specs.Geometry.{Geometry}
use Rattle.heesch_grid.specs.Statements.{chosen_layers}
use Rattle.heesch_cert.specs.Formulas.{IsCountedFormula}
use Rattle.heesch_cert.specs.Proofs.{IsTooLarge}
use Rattle.heesch_cnf.specs.declared.literal.Lit.{Lit}
use Rattle.heesch_cnf.specs.declared.version.Version.{Version}
use Rattle.heesch_cnf.specs.Clauses.{Satisfies}
use Rattle.heesch_line.specs.Forms.{HasNoNewline}
use Rattle.heesch_given.specs.Given.{IsShapeLine, IsLineFault}
use Rattle.heesch_line.specs.Scanning.{IsNoLine}
use Rattle.heesch_place.specs.Universes.{Levels}
use Rattle.heesch_line.specs.declared.stops.LineStop.{LineStop}
use Rattle.heesch_line.specs.declared.stops.LineStop.TheVariants.{Fault, NoMemory}

-- these bytes are the first line, without its newline, and those are behind it; the newline may be missing at the end of the input
pub record HasFirstLine (input line behind : List ℕ) : Type 0 where
  pub whole : HasNoNewline line
  pub text : (input ≡ line ++ 10 ∷ behind) ⊎ ((input ≡ line) × (behind ≡ []))

-- the line ends within the most bytes that are read, or the input does
abbrev pub IsInTime : (most : ℕ) (input line : List ℕ) → Type 0
IsInTime most input line = (length line < most) ⊎ (length input ≤ most)

-- the line is that of a shape S, and these are the variables and the clauses of E(S, j) of the version, which has at most `size` literals
pub record HasFormula (version : Version) (g : Geometry) (j size : ℕ) (line : List ℕ) : Type 0 where
  pub shape : List Cell
  pub is_shape : IsShapeLine g line shape
  pub vars : List Variable
  pub count : ℕ
  pub clauses : List (List Lit)
  pub formula : IsCountedFormula version g shape j vars count clauses
  pub fits : formula_size clauses ≤ size

-- ---- the faults of the line

-- the first line doesn't end within the most bytes that are read, and the input goes on beyond them
pub record IsEndless (most : ℕ) (input : List ℕ) : Type 0 where
  pub line : List ℕ
  pub behind : List ℕ
  pub first : HasFirstLine input line behind
  pub late : IsInTime most input line → ⊥

-- the line is that of a shape whose E(S, j) of the version has more than `size` literals
pub record HasLargeFormula (version : Version) (g : Geometry) (j size : ℕ) (line : List ℕ) : Type 0 where
  pub shape : List Cell
  pub is_shape : IsShapeLine g line shape
  pub too_large : IsTooLarge version g shape j size

-- the fault of the first line: 6 or 1 to 5 by itself, and else 14 where the formula of its shape is too large
abbrev pub IsShapeFault : Version → Geometry → ℕ → ℕ → List ℕ → ℕ → Type 0
IsShapeFault version g j size line number = IsLineFault g line number ⊎ (HasLargeFormula version g j size line × (number ≡ 14))

-- ---- what the steps answer

-- the first line has this fault by itself, unless memory was refused
abbrev pub IsLineStop : Geometry → List ℕ → LineStop ℕ → Type 0
IsLineStop g line (Fault at number) = (at ≡ 1) × IsLineFault g line number
IsLineStop g line NoMemory = ⊤

-- the first line isn't cells, unless memory was refused
abbrev pub IsCellsStop : List ℕ → LineStop ℕ → Type 0
IsCellsStop line (Fault at number) = (at ≡ 1) × (number ≡ 6) × IsNoLine line
IsCellsStop line NoMemory = ⊤

-- the first line has this fault, by itself or by its formula, unless memory was refused
abbrev pub IsShapeStop : Version → Geometry → ℕ → ℕ → List ℕ → LineStop ℕ → Type 0
IsShapeStop version g j size line (Fault at number) = (at ≡ 1) × IsShapeFault version g j size line number
IsShapeStop version g j size line NoMemory = ⊤

-- the line is that of the universe's shape S, and these are the clauses of E(S, j) of the version, of at most `size` literals; they are satisfiable exactly where j coronas of S exist, and the true variables of a model are coronas
pub record EncodesLine (version : Version) (g : Geometry) (j size : ℕ) (line : List ℕ) (u : Levels) (count : ℕ) (clauses : List (List Lit)) : Type 0 where
  pub is_shape : IsShapeLine g line u.shape
  pub level_is : u.level ≡ j
  pub formula : IsCountedFormula version g u.shape j u.vars count clauses
  pub fits : formula_size clauses ≤ size
  pub satisfiable : ((values : ℕ → Bool) × Satisfies values clauses) ↔ HasCoronas g u.shape j
  pub models : (values : ℕ → Bool) → Satisfies values clauses → AreCoronas g u.shape (chosen_layers values u.vars j)
