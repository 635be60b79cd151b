-- What a log that refutes means.
use Rattle.std.specs.Prelude.{ℕ, Bool, List, [], ◌∷◌, ⊤, All}
use Rattle.heesch_cnf.specs.declared.literal.Lit.{Lit}
use Rattle.heesch_cnf.specs.declared.log.Line.{Line}
use Rattle.heesch_cnf.specs.declared.log.Line.TheVariants.{Learn, Given}
use Rattle.heesch_cnf.specs.declared.log.Log.{Log}
use Rattle.heesch_cnf.specs.Clauses.{IsSatisfied, Satisfies}
use Rattle.heesch_cnf.specs.Lines.{IsShown, LineHolds, Refutes}

-- a clause that the hints show is true wherever the clauses are
abbrev pub Shown-follows : Type 0
Shown-follows =
    (clauses : List (List Lit)) (clause : List Lit) (hints : List ℕ) → IsShown clauses clause hints →
    (v : ℕ → Bool) → Satisfies v clauses → IsSatisfied v clause

-- the clause of a Learn line that holds after some clauses is true wherever they are
abbrev pub Learn-follows : Type 0
Learn-follows =
    (vars : ℕ) (clauses : List (List Lit)) (clause : List Lit) (hints : List ℕ) → LineHolds vars clauses (Learn clause hints) →
    (v : ℕ → Bool) → Satisfies v clauses → IsSatisfied v clause

-- the clauses of the Given lines
abbrev pub given_clauses : List Line → List (List Lit)
given_clauses [] = []
given_clauses (Learn clause hints ∷ lines) = given_clauses lines
given_clauses (Given clause ∷ lines) = clause ∷ given_clauses lines

-- where a log refutes, no assignment satisfies the clauses and those that were given
abbrev pub Refuted-unsatisfiable : Type 0
Refuted-unsatisfiable =
    (vars : ℕ) (clauses : List (List Lit)) (log : Log) → Refutes vars clauses log →
    (v : ℕ → Bool) → Satisfies v clauses → Satisfies v (given_clauses log.lines) → ⊥

-- a line is a Learn line
abbrev pub IsLearn : Line → Type 0
IsLearn (Learn clause hints) = ⊤
IsLearn (Given clause) = ⊥

-- there are Learn lines alone
abbrev pub LearnsAlone : List Line → Type 0
LearnsAlone lines = All IsLearn lines

-- where a log of Learn lines alone refutes, no assignment satisfies the clauses
abbrev pub Learned-unsatisfiable : Type 0
Learned-unsatisfiable =
    (vars : ℕ) (clauses : List (List Lit)) (log : Log) → LearnsAlone log.lines → Refutes vars clauses log →
    (v : ℕ → Bool) → Satisfies v clauses → ⊥
