-- What `formula` answers of an input.
use Rattle.std.specs.Prelude.{◌≡◌, ◌≢◌, ◌⊎◌, ℕ, Bool, List, [], ◌↔◌, ⊤}
use Rattle.heesch_grid.specs.Corona.{HasCoronas}
use Rattle.heesch_grid.specs.Geometry.{Geometry}
use Rattle.heesch_cnf.specs.declared.version.Version.{Version}
use Rattle.heesch_cnf.specs.Clauses.{Satisfies}
use Rattle.heesch_exchange.specs.ClauseTexts.{clause_text}
use Rattle.heesch_line.specs.declared.stops.LineStop.{LineStop}
use Rattle.heesch_line.specs.declared.stops.LineStop.TheVariants.{Fault, NoMemory}
use Rattle.heesch_exchange.specs.Shapes.{HasFirstLine, HasFormula, IsEndless, IsInTime, IsShapeFault}

-- The input is the line of one shape S, which ends within the most bytes that are read or with the input, and the text is the clause text of E(S, j) of the version, which has at most `size` literals and is satisfiable exactly where j coronas of S exist.
pub record IsFormula (most : ℕ) (version : Version) (g : Geometry) (j size : ℕ) (input text : List ℕ) : Type 0 where
  pub some : input ≢ []
  pub line : List ℕ
  pub only : HasFirstLine input line []
  pub in_time : IsInTime most input line
  pub encoded : HasFormula version g j size line
  pub text_is : text ≡ clause_text encoded.count encoded.clauses
  pub satisfiable : ((values : ℕ → Bool) × Satisfies values encoded.clauses) ↔ HasCoronas g encoded.shape j

-- the first line, which ends in time, has this fault
pub record HasShapeFault (most : ℕ) (version : Version) (g : Geometry) (j size : ℕ) (input : List ℕ) (number : ℕ) : Type 0 where
  pub some : input ≢ []
  pub line : List ℕ
  pub behind : List ℕ
  pub first : HasFirstLine input line behind
  pub in_time : IsInTime most input line
  pub fault : IsShapeFault version g j size line number

-- the first line, which ends in time, is that of a shape, whose formula fits, and a second line begins
pub record HasSecondLine (most : ℕ) (version : Version) (g : Geometry) (j size : ℕ) (input : List ℕ) : Type 0 where
  pub line : List ℕ
  pub behind : List ℕ
  pub first : HasFirstLine input line behind
  pub in_time : IsInTime most input line
  pub encoded : HasFormula version g j size line
  pub more : behind ≢ []

-- The first line at fault and the number of its fault: 13 for an empty input and 8 for a first line that doesn't end in time, both at line 1; that of the shape's line; 13 where a second line begins, at line 2.
abbrev pub HasFormulaFault : (most : ℕ) → Version → Geometry → ℕ → ℕ → List ℕ → ℕ → ℕ → Type 0
HasFormulaFault most version g j size input at number =
    ((input ≡ []) × (at ≡ 1) × (number ≡ 13))
    ⊎ (IsEndless most input × (at ≡ 1) × (number ≡ 8))
    ⊎ (HasShapeFault most version g j size input number × (at ≡ 1))
    ⊎ (HasSecondLine most version g j size input × (at ≡ 2) × (number ≡ 13))

-- the input has this fault, unless memory was refused
abbrev pub IsFormulaStop : (most : ℕ) → Version → Geometry → ℕ → ℕ → List ℕ → LineStop ℕ → Type 0
IsFormulaStop most version g j size input (Fault at number) = HasFormulaFault most version g j size input at number
IsFormulaStop most version g j size input NoMemory = ⊤
