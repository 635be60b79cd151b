-- The first faulty line of a text that is no model text over the variables.
use Rattle.std.specs.Prelude.{◌≡◌, ◌⊎◌, ℕ, ◌+◌, List, ◌++◌, length}
use Rattle.std.specs.List.{AllByRecursion}
use Rattle.heesch_cnf.specs.declared.literal.Lit.{Lit}
use Rattle.heesch_line.specs.Forms.{HasNoNewline}
use Rattle.heesch_exchange.specs.declared.model_text.ModelStop.{ModelStop}
use Rattle.heesch_exchange.specs.declared.model_text.ModelStop.TheVariants.{NotText, Stranger, NoMemory}
use Rattle.heesch_exchange.specs.Models.{text_of, ended, IsModelText, AreOver}

-- some model text over the variables 1 to `vars` begins so
pub record GoesOn (vars : ℕ) (front : List ℕ) : Type 0 where
  pub more : List ℕ
  pub literals : List Lit
  pub text_is : IsModelText (front ++ more) literals
  pub over : AreOver vars literals

-- some model text begins so, whatever its variables
pub record MayGoOn (front : List ℕ) : Type 0 where
  pub more : List ℕ
  pub literals : List Lit
  pub text_is : IsModelText (front ++ more) literals

-- before the line of this number, from 1, stand whole lines with which a model text over the variables may begin
pub record IsReached (vars : ℕ) (text : List ℕ) (number : ℕ) (front rest : List ℕ) : Type 0 where
  pub lines : List (List ℕ)
  pub whole : AllByRecursion HasNoNewline lines
  pub front_is : front ≡ text_of lines
  pub number_is : number ≡ length lines + 1
  pub text_is : text ≡ front ++ rest
  pub goes_on : GoesOn vars front

-- the text ends before this line does, and it is no model text
pub record EndsEarly (vars : ℕ) (text : List ℕ) (number : ℕ) : Type 0 where
  pub front : List ℕ
  pub rest : List ℕ
  pub reached : IsReached vars text number front rest
  pub unended : HasNoNewline rest
  pub other : (literals : List Lit) → IsModelText text literals → ⊥

-- this line is reached, and it ends
pub record HasLine (vars : ℕ) (text : List ℕ) (number : ℕ) (front line : List ℕ) : Type 0 where
  pub rest : List ℕ
  pub reached : IsReached vars text number front (ended line ++ rest)
  pub whole : HasNoNewline line

-- no model text goes on with this line
pub record IsOtherLine (vars : ℕ) (text : List ℕ) (number : ℕ) : Type 0 where
  pub front : List ℕ
  pub line : List ℕ
  pub has_line : HasLine vars text number front line
  pub other : ¬ (MayGoOn (front ++ ended line))

-- a model text may go on with this line, but none over the variables: it names one above `vars`, or one that was named before
pub record IsStrangerLine (vars : ℕ) (text : List ℕ) (number : ℕ) : Type 0 where
  pub front : List ℕ
  pub line : List ℕ
  pub has_line : HasLine vars text number front line
  pub in_form : MayGoOn (front ++ ended line)
  pub stranger : ¬ (GoesOn vars (front ++ ended line))

-- the text is no model text over the variables, and this line is the first at fault; or memory ran out
abbrev pub Stops : ℕ → List ℕ → ModelStop → Type 0
Stops vars text (NotText number) = EndsEarly vars text number ⊎ IsOtherLine vars text number
Stops vars text (Stranger number) = IsStrangerLine vars text number
Stops vars text NoMemory = Unit {0}
