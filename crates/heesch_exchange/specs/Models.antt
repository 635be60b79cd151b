-- Model texts: the answer of a solver, with the literals that its lines name.
use Rattle.std.specs.Prelude.{◌≡◌, ℕ, ◌≤◌, ◌==◌, Bool, true, false, not, ◌&&◌, List, [], ◌∷◌, ◌++◌, length, map, filter, codes, IsTrue, ◌↔◌, Contains}
use Rattle.std.specs.List.{flat_map, AllByRecursion}
use Rattle.heesch_cnf.specs.declared.literal.Lit.{Lit}
use Rattle.heesch_cnf.specs.Clauses.{assignment_of}
use Rattle.heesch_text.specs.Fields.{spaced, lit_text}
use Rattle.heesch_line.specs.Forms.{IsLiteral, HasNoNewline}

-- nothing, or a space first
abbrev pub is_spaced : List ℕ → Bool
is_spaced [] = true
is_spaced (b ∷ bytes) = b == 32

-- a comment: `c` alone, or `c` and a space first
abbrev pub is_comment : List ℕ → Bool
is_comment [] = false
is_comment (b ∷ bytes) = b == 99 && is_spaced bytes

-- the lines that aren't comments
abbrev pub answers : List (List ℕ) → List (List ℕ)
answers lines = filter (λ line. not (is_comment line)) lines

-- the line that says that there is a model
abbrev pub status_line : List ℕ
status_line = codes "s SATISFIABLE"

-- `v`, and a space and a word for each literal
abbrev pub values_line : List Lit → List ℕ
values_line literals = codes "v" ++ spaced lit_text literals

-- the same with `0` as its last word
abbrev pub last_line : List Lit → List ℕ
last_line literals = values_line literals ++ codes " 0"

-- each list is behind the ones before it
abbrev pub joined : List (List Lit) → List Lit
joined groups = flat_map (λ group. group) groups

-- a line, and the newline that ends it
abbrev pub ended : List ℕ → List ℕ
ended line = line ++ codes "\n"

-- lines, each with the newline that ends it
abbrev pub text_of : List (List ℕ) → List ℕ
text_of lines = flat_map ended lines

-- the lines but for comments: the status, and the literals of one line or more, the last of which ends in `0`
pub record AreAnswers (lines : List (List ℕ)) (literals : List Lit) : Type 0 where
  pub groups : List (List Lit)
  pub last : List Lit
  pub answers_are : answers lines ≡ status_line ∷ (map values_line groups ++ last_line last ∷ [])
  pub literals_are : literals ≡ joined groups ++ last

-- a model text over any variables, and the literals of its words in order
pub record IsModelText (text : List ℕ) (literals : List Lit) : Type 0 where
  pub lines : List (List ℕ)
  pub whole : AllByRecursion HasNoNewline lines
  pub text_is : text ≡ text_of lines
  pub answer : AreAnswers lines literals
  pub form : AllByRecursion IsLiteral literals

-- one of the literals is of this variable
abbrev pub Names : List Lit → ℕ → Type 0
Names literals var = (l : Lit) × (Contains literals l × (l.var ≡ var))

-- each variable is at most `vars`, and none is named twice
abbrev pub AreOver : ℕ → List Lit → Type 0
AreOver vars [] = Unit {0}
AreOver vars (l ∷ literals) = (l.var ≤ vars) × (¬ (Names literals l.var)) × AreOver vars literals

-- the literal that is this variable
abbrev pub positive_of : ℕ → Lit
positive_of var = record { var = var; positive = true }

-- a value for each variable: true for those that are named as positive literals, and false for all others
pub record IsAssignment (vars : ℕ) (literals : List Lit) (values : List Bool) : Type 0 where
  pub count : length values ≡ vars
  pub value : (var : ℕ) → 1 ≤ var → var ≤ vars → IsTrue (assignment_of values var) ↔ Contains literals (positive_of var)

-- a model text over the variables 1 to `vars`, and its assignment
pub record IsModel (vars : ℕ) (text : List ℕ) (values : List Bool) : Type 0 where
  pub literals : List Lit
  pub text_is : IsModelText text literals
  pub over : AreOver vars literals
  pub values_are : IsAssignment vars literals values
