-- What holds of inputs, as statements. A contract that cites one of them claims it.
use Rattle.std.specs.Prelude.{◌≡◌, ℕ, List}
use Rattle.heesch_cnf.specs.declared.version.Version.{Version}
use Rattle.heesch_grid.specs.Geometry.{Geometry, IsGrid}
use Rattle.heesch_exchange.specs.Answers.{IsAnswer, HasAnswerFault}
use Rattle.heesch_exchange.specs.Formulas.{IsFormula, HasFormulaFault}

-- no input to `formula` both has a formula and is at fault
abbrev pub FormulasHaveNoFault : Type 0
FormulasHaveNoFault = (most : ℕ) (version : Version) (g : Geometry) (j size : ℕ) (input text : List ℕ) (at number : ℕ) → IsGrid g → IsFormula most version g j size input text → HasFormulaFault most version g j size input at number → ⊥

-- no input to `answer` both has an answer and is at fault
abbrev pub AnswersHaveNoFault : Type 0
AnswersHaveNoFault = (most : ℕ) (version : Version) (g : Geometry) (j size : ℕ) (input text : List ℕ) (at number : ℕ) → IsGrid g → IsAnswer most version g j size input text → HasAnswerFault most version g j size input at number → ⊥

-- an input to `formula` has one first fault at most
abbrev pub FormulasHaveOneFault : Type 0
FormulasHaveOneFault = (most : ℕ) (version : Version) (g : Geometry) (j size : ℕ) (input : List ℕ) (line number at other : ℕ) → IsGrid g → HasFormulaFault most version g j size input line number → HasFormulaFault most version g j size input at other
    → (line ≡ at) × (number ≡ other)

-- an input to `answer` has one first fault at most
abbrev pub AnswersHaveOneFault : Type 0
AnswersHaveOneFault = (most : ℕ) (version : Version) (g : Geometry) (j size : ℕ) (input : List ℕ) (line number at other : ℕ) → IsGrid g → HasAnswerFault most version g j size input line number → HasAnswerFault most version g j size input at other
    → (line ≡ at) × (number ≡ other)
