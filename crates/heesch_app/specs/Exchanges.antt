-- The status and the text that come with an answer to `formula` or `answer`.
use Rattle.std.specs.Prelude.{◌≡◌, ◌≤◌, ◌⊎◌, ℕ, List, length, Option}
use Rattle.std.specs.Io.KnownBytes.{Appends}
use Rattle.heesch_cnf.specs.declared.version.Version.{Version}
use Rattle.heesch_exchange.specs.Answers.{IsAnswer, HasAnswerFault}
use Rattle.heesch_exchange.specs.Formulas.{IsFormula, HasFormulaFault}
use Rattle.heesch_line.specs.declared.stops.LineStop.{LineStop}
use Rattle.heesch_line.specs.declared.stops.LineStop.TheVariants.{Fault, NoMemory}
use Rattle.heesch_grid.specs.Geometry.{Geometry}
use Rattle.heesch_io.specs.Input.{IsAllOf}
use Rattle.heesch_reader.specs.Taking.{input_max}
use Rattle.heesch_app.specs.declared.exchanges.Exchange.{Exchange}
use Rattle.heesch_app.specs.declared.exchanges.Exchange.TheVariants.{Formula, Answer}
use Rattle.heesch_app.specs.declared.status.Status.{Status}
use Rattle.heesch_app.specs.declared.status.Status.TheVariants.{Done, BadInput}
use Rattle.heesch_app.specs.Inputs.{bad_input_text}

-- what is answered to `formula` of the bytes, which are no more than are read: the clause text of the formula of their shape; or their first fault
abbrev pub IsFormulaAnswer : Version → Geometry → ℕ → ℕ → Status → List ℕ → List ℕ → Type 0
IsFormulaAnswer version g j size status output input =
    ((status ≡ Done) × (length input ≤ input_max) × IsFormula input_max version g j size input output)
    ⊎ ((status ≡ BadInput) × ((line : ℕ) × (number : ℕ) × HasFormulaFault input_max version g j size input line number × (output ≡ bad_input_text line number)))

-- what is answered to `answer` of the bytes, which are no more than are read: what their model text says of the formula of their shape; or their first fault
abbrev pub IsModelAnswer : Version → Geometry → ℕ → ℕ → Status → List ℕ → List ℕ → Type 0
IsModelAnswer version g j size status output input =
    ((status ≡ Done) × (length input ≤ input_max) × IsAnswer input_max version g j size input output)
    ⊎ ((status ≡ BadInput) × ((line : ℕ) × (number : ℕ) × HasAnswerFault input_max version g j size input line number × (output ≡ bad_input_text line number)))

-- what is answered to either of them
abbrev pub IsExchangeAnswer : Exchange → Version → Geometry → ℕ → ℕ → Status → List ℕ → List ℕ → Type 0
IsExchangeAnswer Formula version g j size status output input = IsFormulaAnswer version g j size status output input
IsExchangeAnswer Answer version g j size status output input = IsModelAnswer version g j size status output input

-- the line of a fault
abbrev pub IsFaultTold : LineStop ℕ → Status → List ℕ → Type 0
IsFaultTold (Fault line number) status output = (status ≡ BadInput) × (output ≡ bad_input_text line number)
IsFaultTold NoMemory status output = ⊥

-- ---- what was written

-- Known bytes grow by the clause text of E(S, j) of the shape S that the source's bytes, read to their end, are the line of; it is satisfiable exactly where j coronas of S exist.
abbrev pub WritesFormula : Version → Geometry → ℕ → ℕ → Option (List ℕ) → Option (List ℕ) → Option (List ℕ) → Type 0
WritesFormula version g j size left old new = (input : List ℕ) × (text : List ℕ) × IsAllOf left input × (length input ≤ input_max) × IsFormula input_max version g j size input text × Appends old new text

-- Known bytes grow by what the model text in the source's bytes, read to their end, says of E(S, j) of the shape S before it: j coronas of S where it is true, and else its least false clause.
abbrev pub WritesAnswer : Version → Geometry → ℕ → ℕ → Option (List ℕ) → Option (List ℕ) → Option (List ℕ) → Type 0
WritesAnswer version g j size left old new = (input : List ℕ) × (text : List ℕ) × IsAllOf left input × (length input ≤ input_max) × IsAnswer input_max version g j size input text × Appends old new text
