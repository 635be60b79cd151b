-- When a line of a log holds.
use Rattle.std.specs.Prelude.{◌≡◌, ◌≢◌, ℕ, ◌-◌, ◌<◌, ◌≤◌, Bool, true, false, ◌&&◌, Option, None, Some, List, [], ◌∷◌, ◌++◌, length, map, take, All, slice_index_or, is_none, IsTrue}
use Rattle.heesch_cnf.specs.declared.literal.Lit.{Lit}
use Rattle.heesch_cnf.specs.declared.log.Line.{Line}
use Rattle.heesch_cnf.specs.declared.log.Line.TheVariants.{Learn, Given}
use Rattle.heesch_cnf.specs.declared.log.Log.{Log}
use Rattle.heesch_cnf.specs.Literals.{Values, lit_value, with_true, making, opposite}
use Rattle.heesch_cnf.specs.Clauses.{IsClause, left_of, IsNew}

-- A log over a formula with c clauses has lines 1, 2 and so on, and line i is clause c + i. Hints are clause numbers. Below,
-- line i counts from 0, so that the clauses before it are those of the formula and of the first i lines.

-- the clause of a number, which counts from 1
abbrev pub numbered : List (List Lit) → ℕ → List Lit
numbered clauses n = slice_index_or clauses (n - 1) []

-- what a hint leads to, by its literals that aren't false: none are left in the last hint alone; a hint before it leaves exactly
-- one, which is open, and what follows has it made true
abbrev pub after_hint : Values → List Lit → Bool → (Lit → Bool) → Bool
after_hint values [] is_last next = is_last
after_hint values (l ∷ []) is_last next = is_none (lit_value values l) && next l
after_hint values (l ∷ m ∷ ls) is_last next = false

-- there are no more hints
abbrev pub is_empty : List ℕ → Bool
is_empty [] = true
is_empty (h ∷ hints) = false

-- the hints aren't empty and, taken in order from these values, end in a conflict: each hint but the last has exactly one literal
-- that isn't false, that literal is open, and it is made true; the last hint has all its literals false
abbrev pub reaches_conflict : List (List Lit) → Values → List ℕ → Bool
reaches_conflict clauses values [] = false
reaches_conflict clauses values (h ∷ hints) =
    after_hint values (left_of values (numbered clauses h)) (is_empty hints) (λ l. reaches_conflict clauses (with_true l values) hints)

-- the values that make every literal of the clause false and leave the rest open
abbrev pub refuting : List Lit → Values
refuting clause = making (map opposite clause)

-- the number of one of these clauses, from 1
abbrev pub IsNumber : List (List Lit) → ℕ → Type 0
IsNumber clauses n = (1 ≤ n) × (n ≤ length clauses)

-- each hint is a number of these clauses: at least 1, and below the number of the line that comes after them
abbrev pub AreNumbers : List (List Lit) → List ℕ → Type 0
AreNumbers clauses hints = All (IsNumber clauses) hints

-- the hints are numbers of these clauses, and show that the clause follows from them
pub record IsShown (clauses : List (List Lit)) (clause : List Lit) (hints : List ℕ) : Type 0 where
  pub numbers : AreNumbers clauses hints
  pub conflict : IsTrue (reaches_conflict clauses (refuting clause) hints)

-- the clause of a line
abbrev pub clause_of : Line → List Lit
clause_of (Learn clause hints) = clause
clause_of (Given clause) = clause

-- a line holds after these clauses: a Learn line where its clause isn't empty, has variables of the formula that strictly rise, and
-- follows as its hints show; a Given line where its clause has such variables
abbrev pub LineHolds : ℕ → List (List Lit) → Line → Type 0
LineHolds vars clauses (Learn clause hints) = (clause ≢ []) × (IsClause vars clause × IsShown clauses clause hints)
LineHolds vars clauses (Given clause) = IsClause vars clause

-- the final line holds after these clauses: its hints show that the empty clause follows
abbrev pub FinalHolds : List (List Lit) → List ℕ → Type 0
FinalHolds clauses hints = IsShown clauses [] hints

-- the clauses of these lines
abbrev pub clauses_of : List Line → List (List Lit)
clauses_of lines = map clause_of lines

-- the clauses of the formula, and of these lines
abbrev pub clauses_with : List (List Lit) → List Line → List (List Lit)
clauses_with clauses lines = clauses ++ clauses_of lines

-- line i, which counts from 0, holds after the clauses that stand before it
abbrev pub HoldsAtLine : ℕ → List (List Lit) → List Line → ℕ → Type 0
HoldsAtLine vars clauses lines i =
    (d : Line) → LineHolds vars (clauses_with clauses (take i lines)) (slice_index_or lines i d)

-- every line holds
abbrev pub LinesHold : ℕ → List (List Lit) → List Line → Type 0
LinesHold vars clauses lines = (i : ℕ) → i < length lines → HoldsAtLine vars clauses lines i

-- every line is new: its clause contains, as a set of literals, no clause that stands before it
abbrev pub LinesAreNew : List (List Lit) → List Line → Type 0
LinesAreNew clauses lines =
    (i : ℕ) (d : Line) → i < length lines → IsNew (clauses_with clauses (take i lines)) (clause_of (slice_index_or lines i d))

-- the final line is there, and holds
abbrev pub HasFinal : List (List Lit) → Option (List ℕ) → Type 0
HasFinal clauses None = ⊥
HasFinal clauses (Some hints) = FinalHolds clauses hints

-- the log refutes the formula: its lines hold, and so does its final line, which is there
pub record Refutes (vars : ℕ) (clauses : List (List Lit)) (log : Log) : Type 0 where
  pub lines : LinesHold vars clauses log.lines
  pub final : HasFinal (clauses_with clauses log.lines) log.last

-- the log is spent for this many turns: it has exactly as many lines, all hold and are new, and it has no final line
pub record IsSpent (vars : ℕ) (clauses : List (List Lit)) (turns : ℕ) (log : Log) : Type 0 where
  pub used : length log.lines ≡ turns
  pub lines : LinesHold vars clauses log.lines
  pub new_lines : LinesAreNew clauses log.lines
  pub unfinished : log.last ≡ None
