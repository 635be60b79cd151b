-- What `answer` answers of an input.
use Rattle.std.specs.Prelude.{◌≡◌, ◌≢◌, ◌⊎◌, ℕ, ◌+◌, Bool, List, [], ◌∷◌, ◌++◌, length, codes, decimal, ⊤}
use Rattle.heesch_grid.specs.declared.Cell.{Cell}
use Rattle.heesch_grid.specs.declared.isometries.Iso.{Iso}
use Rattle.heesch_grid.specs.Corona.{AreCoronas}
use Rattle.heesch_grid.specs.CoronaFormula.{Variable}
use Rattle.heesch_grid.specs.Geometry.{Geometry}
use Rattle.heesch_grid.specs.Statements.{chosen_layers}
use Rattle.heesch_cert.specs.TrueEntry.{Spells}
use Rattle.heesch_cnf.specs.declared.literal.Lit.{Lit}
use Rattle.heesch_cnf.specs.declared.version.Version.{Version}
use Rattle.heesch_cnf.specs.Clauses.{Satisfies, assignment_of}
use Rattle.heesch_exchange.specs.declared.model_text.ModelStop.TheVariants as model_stops
use Rattle.heesch_exchange.specs.ClauseTexts.{IsFirstFalse}
use Rattle.heesch_exchange.specs.Models.{IsModel}
use Rattle.heesch_exchange.specs.Stops.{Stops}
use Rattle.heesch_line.specs.Forms.{HasNoNewline}
use Rattle.heesch_text.specs.Catalogue.{coronas_text}
use Rattle.heesch_line.specs.declared.stops.LineStop.{LineStop}
use Rattle.heesch_line.specs.declared.stops.LineStop.TheVariants.{Fault, NoMemory}
use Rattle.heesch_exchange.specs.Shapes.{HasFormula, IsEndless, IsInTime, IsShapeFault}

-- the input is this line, which ends, and behind it a text
pub record HasEndedLine (input line model : List ℕ) : Type 0 where
  pub whole : HasNoNewline line
  pub text : input ≡ line ++ 10 ∷ model

-- ---- the texts

-- `false I`
abbrev pub false_text : ℕ → List ℕ
false_text number = codes "false " ++ decimal number ++ codes "\n"

-- the text tells the least clause that the assignment makes false
pub record TellsFalse (v : ℕ → Bool) (clauses : List (List Lit)) (text : List ℕ) : Type 0 where
  pub number : ℕ
  pub first : IsFirstFalse v clauses number
  pub text_is : text ≡ false_text number

-- The assignment makes all clauses true, and the text is that of the layers of its true variables: they are j coronas of the shape, holes allowed, spelled as the layers of a true entry.
pub record TellsCoronas (g : Geometry) (shape : List Cell) (j : ℕ) (vars : List Variable) (v : ℕ → Bool) (clauses : List (List Lit)) (text : List ℕ) : Type 0 where
  pub satisfies : Satisfies v clauses
  pub layers : List (List Iso)
  pub count : length layers ≡ j
  pub spelled : Spells g shape layers (chosen_layers v vars j)
  pub coronas : AreCoronas g shape (chosen_layers v vars j)
  pub text_is : text ≡ coronas_text layers

-- The input is the line of a shape S, which ends within the most bytes that are read, and behind it a model text over the variables of E(S, j) of the version, which has at most `size` literals; and the text tells the coronas or the least false clause of the model text's assignment.
pub record IsAnswer (most : ℕ) (version : Version) (g : Geometry) (j size : ℕ) (input text : List ℕ) : Type 0 where
  pub line : List ℕ
  pub model : List ℕ
  pub ended : HasEndedLine input line model
  pub in_time : IsInTime most input line
  pub encoded : HasFormula version g j size line
  pub values : List Bool
  pub is_model : IsModel encoded.count model values
  pub told : TellsCoronas g encoded.shape j encoded.vars (assignment_of values) encoded.clauses text ⊎ TellsFalse (assignment_of values) encoded.clauses text

-- ---- the faults

-- the input is one line, and ends in time without its newline
pub record IsUnended (most : ℕ) (input : List ℕ) : Type 0 where
  pub some : input ≢ []
  pub whole : HasNoNewline input
  pub in_time : IsInTime most input input

-- the first line, which ends, and in time, has this fault
pub record HasEndedShapeFault (most : ℕ) (version : Version) (g : Geometry) (j size : ℕ) (input : List ℕ) (number : ℕ) : Type 0 where
  pub line : List ℕ
  pub model : List ℕ
  pub ended : HasEndedLine input line model
  pub in_time : IsInTime most input line
  pub fault : IsShapeFault version g j size line number

-- the fault of a model text over the variables that begins with line 2: 6 where it isn't one, 15 where it names a variable that is above the greatest, or one twice
abbrev pub IsModelFault : ℕ → List ℕ → ℕ → ℕ → Type 0
IsModelFault count model at number =
    ((line : ℕ) × Stops count model (model_stops.NotText line) × (at ≡ line + 1) × (number ≡ 6))
    ⊎ ((line : ℕ) × Stops count model (model_stops.Stranger line) × (at ≡ line + 1) × (number ≡ 15))

-- the first line, which ends in time, is that of a shape, whose formula fits, and the text behind it has this fault
pub record HasModelFault (most : ℕ) (version : Version) (g : Geometry) (j size : ℕ) (input : List ℕ) (at number : ℕ) : Type 0 where
  pub line : List ℕ
  pub model : List ℕ
  pub ended : HasEndedLine input line model
  pub in_time : IsInTime most input line
  pub encoded : HasFormula version g j size line
  pub fault : IsModelFault encoded.count model at number

-- The first line at fault and the number of its fault: 13 for an empty input, 8 for a first line that doesn't end in time and 6 for one without its newline, all at line 1; that of the shape's line; that of the model text.
abbrev pub HasAnswerFault : (most : ℕ) → Version → Geometry → ℕ → ℕ → List ℕ → ℕ → ℕ → Type 0
HasAnswerFault most version g j size input at number =
    ((input ≡ []) × (at ≡ 1) × (number ≡ 13))
    ⊎ (IsEndless most input × (at ≡ 1) × (number ≡ 8))
    ⊎ (IsUnended most input × (at ≡ 1) × (number ≡ 6))
    ⊎ (HasEndedShapeFault most version g j size input number × (at ≡ 1))
    ⊎ HasModelFault most version g j size input at number

-- the input has this fault, unless memory was refused
abbrev pub IsAnswerStop : (most : ℕ) → Version → Geometry → ℕ → ℕ → List ℕ → LineStop ℕ → Type 0
IsAnswerStop most version g j size input (Fault at number) = HasAnswerFault most version g j size input at number
IsAnswerStop most version g j size input NoMemory = ⊤

-- the model text has this fault, unless memory was refused
abbrev pub IsModelStop : ℕ → List ℕ → LineStop ℕ → Type 0
IsModelStop count model (Fault at number) = IsModelFault count model at number
IsModelStop count model NoMemory = ⊤
