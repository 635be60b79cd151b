-- What is learnt from a conflict.
use Rattle.std.specs.Prelude.{◌≡◌, ℕ, ◌-◌, ◌<◌, ◌≤◌, List, [], ◌∷◌, ◌++◌, length}
use Rattle.heesch_cnf.specs.declared.literal.Lit.{Lit}
use Rattle.heesch_cnf.specs.declared.log.Line.{Line}
use Rattle.heesch_cnf.specs.Clauses.{IsClause, IsNew}
use Rattle.heesch_cnf.specs.Lines.{IsShown, FinalHolds, LineHolds, clause_of}
use Rattle.heesch_cnf.specs.Meaning.{IsLearn, LearnsAlone}
use Rattle.heesch_trail.specs.Fixpoint.{IsFixpoint, IsSettled}
use Rattle.heesch_trail.specs.State.{State, values_of, level_of, up_to}
use Rattle.heesch_cdcl.specs.declared.analysis.Learnt.{Learnt}
use Rattle.heesch_cdcl.specs.declared.learning.Ending.{Ending}
use Rattle.heesch_cdcl.specs.declared.learning.Ending.TheVariants.{Model, Refuted, Spent}
use Rattle.heesch_cdcl.specs.Newness.{IsAsserting}
use Rattle.heesch_cdcl.specs.Search.{IsComplete}
use Rattle.heesch_cdcl.specs.Searching.{NoFinal}

-- a clause that the hints show, with one literal of the present level; the others are false below it, and below the
-- level to go back to at least two literals are open
pub record IsLearnt (trail : State) (learnt : Learnt) : Type 0 where
  pub top : Lit
  pub form : IsClause trail.vars learnt.clause
  pub shown : IsShown trail.clauses learnt.clause learnt.hints
  pub asserting : IsAsserting (values_of (up_to (level_of trail.steps - 1) trail.steps)) learnt.clause top
  pub back_below : learnt.back < level_of trail.steps
  pub settled : (j : ℕ) → j < learnt.back → IsSettled (values_of (up_to j trail.steps)) learnt.clause

-- a line that holds and is new after the clauses of the trail, and the level to go back to, below which its clause has a
-- true literal or two open ones
pub record IsNext (trail : State) (line : Line) (level : ℕ) : Type 0 where
  pub holds : LineHolds trail.vars trail.clauses line
  pub fresh : IsNew trail.clauses (clause_of line)
  pub back : level ≤ level_of trail.steps
  pub settled : (j : ℕ) → j < level → IsSettled (values_of (up_to j trail.steps)) (clause_of line)

-- the new lines are the old ones and one Learn line
abbrev pub LearnsOne : List Line → List Line → Type 0
LearnsOne old new = (line : Line) × ((new ≡ old ++ line ∷ []) × IsLearn line)

-- the new lines are the old ones and Learn lines alone
abbrev pub LearnsMore : List Line → List Line → Type 0
LearnsMore old new = (more : List Line) × ((new ≡ old ++ more) × LearnsAlone more)

-- how the search ended at a level: a complete assignment, under which every clause has a true literal; a final line
-- that holds; or none that does
abbrev pub IsOver : State → Ending → Type 0
IsOver trail Model = IsFixpoint (values_of trail.steps) trail.clauses × IsComplete trail
IsOver trail (Refuted hints) = FinalHolds trail.clauses hints
IsOver trail Spent = NoFinal trail.clauses

-- how the search ended; no turn is left where it is spent
abbrev pub IsEnding : ℕ → List Line → State → Ending → Type 0
IsEnding turns lines trail ending = IsOver trail ending × (ending ≡ Spent → length lines ≡ turns)
