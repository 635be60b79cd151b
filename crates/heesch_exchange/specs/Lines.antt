-- What one line of a model text may be, by the answer lines before it.
use Rattle.std.specs.Prelude.{◌≡◌, ◌≤◌, ◌⊎◌, ◌↔◌, IsTrue, length, ℕ, Bool, true, false, List, [], ◌∷◌, ◌++◌, codes, if◌then◌else◌, nat_lt, nat_le, ◌&&◌, Result, Ok, Err}
use Rattle.std.specs.List.{AllByRecursion}
use Rattle.heesch_cnf.specs.declared.literal.Lit.{Lit}
use Rattle.heesch_cnf.specs.Clauses.{assignment_of}
use Rattle.heesch_text.specs.Fields.{spaced, lit_text}
use Rattle.heesch_line.specs.Forms.{IsLiteral}
use Rattle.heesch_exchange.specs.declared.lines.Place.{Place}
use Rattle.heesch_exchange.specs.declared.lines.Place.TheVariants.{Start, Values, End}
use Rattle.heesch_exchange.specs.declared.lines.LineFault.{LineFault}
use Rattle.heesch_exchange.specs.declared.lines.LineFault.TheVariants.{NotText, NoMemory}
use Rattle.heesch_exchange.specs.Models.{is_comment, status_line, Names}

-- the literals of a line, and behind them `0` where the line is the last
abbrev pub words_text : List Lit → Bool → List ℕ
words_text literals last = spaced lit_text literals ++ (if last then codes " 0" else [])

-- the words are these literals, and a last `0` or none
pub record AreWords (words : List ℕ) (literals : List Lit) (last : Bool) : Type 0 where
  pub words_are : words ≡ words_text literals last
  pub form : AllByRecursion IsLiteral literals

-- where the answer goes on behind a line with literals
abbrev pub place_after : Bool → Place
place_after true = End
place_after false = Values

-- the line may stand at this place as an answer, with these literals, and the next answer stands at that place
abbrev pub Answers : Place → List ℕ → List Lit → Place → Type 0
Answers Start line literals next = (line ≡ status_line) × (literals ≡ []) × (next ≡ Values)
Answers Values line literals next = (words : List ℕ) × (last : Bool) × (line ≡ 118 ∷ words) × AreWords words literals last × (next ≡ place_after last)
Answers End line literals next = ⊥

-- the line is a comment, or an answer at this place
abbrev pub Leads : Place → List ℕ → List Lit → Place → Type 0
Leads place line literals next =
    ((is_comment line ≡ true) × (literals ≡ []) × (next ≡ place)) ⊎ ((is_comment line ≡ false) × Answers place line literals next)

-- the first byte is a digit from 1
abbrev pub begins_number : List ℕ → Bool
begins_number [] = false
begins_number (b ∷ bytes) = nat_lt 48 b && nat_le b 57

-- no literals are these words
abbrev pub NoWords : List ℕ → Type 0
NoWords words = (literals : List Lit) (last : Bool) → ¬ (AreWords words literals last)

-- the words are some literals, which were appended, and a last `0` or none
pub record ReadsWords (words : List ℕ) (before after : List Lit) (last : Bool) : Type 0 where
  pub literals : List Lit
  pub words_are : AreWords words literals last
  pub appended : after ≡ before ++ literals

-- what the reading of words answers
abbrev pub WordsAnswer : List ℕ → List Lit → List Lit → Result Bool LineFault → Type 0
WordsAnswer words before after (Ok last) = ReadsWords words before after last
WordsAnswer words before after (Err NotText) = NoWords words
WordsAnswer words before after (Err NoMemory) = Unit {0}

-- `v` and no words that are literals, or another line
abbrev pub NoValues : List ℕ → Type 0
NoValues line = (words : List ℕ) → line ≡ 118 ∷ words → NoWords words

-- the line is `v` and some literals, which were appended, and a last `0` or none
pub record ReadsValues (line : List ℕ) (before after : List Lit) (last : Bool) : Type 0 where
  pub words : List ℕ
  pub line_is : line ≡ 118 ∷ words
  pub reads : ReadsWords words before after last

-- what the reading of a line `v` answers
abbrev pub ValuesAnswer : List ℕ → List Lit → List Lit → Result Bool LineFault → Type 0
ValuesAnswer line before after (Ok last) = ReadsValues line before after last
ValuesAnswer line before after (Err NotText) = NoValues line
ValuesAnswer line before after (Err NoMemory) = Unit {0}

-- the line may stand there, its literals were appended, and this place is next
pub record ReadsLine (place : Place) (line : List ℕ) (before after : List Lit) (next : Place) : Type 0 where
  pub literals : List Lit
  pub leads : Leads place line literals next
  pub appended : after ≡ before ++ literals

-- what the reading of a line answers
abbrev pub LineAnswer : Place → List ℕ → List Lit → List Lit → Result Place LineFault → Type 0
LineAnswer place line before after (Ok next) = ReadsLine place line before after next
LineAnswer place line before after (Err NotText) = (literals : List Lit) (next : Place) → ¬ (Leads place line literals next)
LineAnswer place line before after (Err NoMemory) = Unit {0}

-- the variable is at most `vars`, and these literals don't name it
pub record IsFresh (vars : ℕ) (before : List Lit) (l : Lit) : Type 0 where
  pub most : l.var ≤ vars
  pub unnamed : ¬ (Names before l.var)

-- of each variable, whether one of the literals is of it
pub record AreNamed (literals : List Lit) (named : List Bool) : Type 0 where
  pub marks : (var : ℕ) → 1 ≤ var → var ≤ length named → IsTrue (assignment_of named var) ↔ Names literals var
