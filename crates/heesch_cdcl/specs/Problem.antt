-- What contracts see of a solver.
use Rattle.std.specs.Prelude.{◌≡◌, ℕ, ◌+◌, ◌<◌, ◌≤◌, ◌^◌, Bool, false, Option, Some, None, List, length, map, unwrap_or, MatchOption, IfSome, IsSome, if◌then◌else◌}
use Rattle.std.specs.List.{range_with_len}
use Rattle.heesch_cnf.specs.declared.literal.Lit.{Lit}
use Rattle.heesch_cnf.specs.declared.log.Log.{Log}
use Rattle.heesch_cnf.specs.Clauses.{AreClauses, Satisfies, assignment_of}
use Rattle.heesch_cnf.specs.Lines.{clauses_with, LinesHold, LinesAreNew, FinalHolds}
use Rattle.heesch_trail.specs.declared.step.Step.{Step}
use Rattle.heesch_trail.specs.State.{State, values_of}
use Rattle.heesch_cdcl.specs.Empty.{IsFirstEmpty, NoneEmpty}
use Rattle.heesch_cdcl.specs.Searching.{Searches, formula_in}

-- what contracts see of a solver: its formula and turns, its log, and the model that it keeps
pub record Problem : Type 0 where
  pub vars : ℕ
  pub clauses : List (List Lit)
  pub turns : ℕ
  pub log : Log
  pub model : Option (List Bool)

-- a value for each variable, under which all clauses are true
pub record IsModel (vars : ℕ) (clauses : List (List Lit)) (values : List Bool) : Type 0 where
  pub count : length values ≡ vars
  pub satisfies : Satisfies (assignment_of values) clauses

abbrev pub LastHolds : List (List Lit) → Option (List ℕ) → Type 0
LastHolds clauses None = Unit {0}
LastHolds clauses (Some hints) = FinalHolds clauses hints

-- what holds of every solver: its lines hold and are new, and are at most as many as its turns
pub record IsSolver (p : Problem) : Type 0 where
  pub form : AreClauses p.vars p.clauses
  pub room : length p.clauses + p.turns < 2 ^ 31
  pub few : length p.log.lines ≤ p.turns
  pub hold : LinesHold p.vars p.clauses p.log.lines
  pub fresh : LinesAreNew p.clauses p.log.lines
  pub last : LastHolds (clauses_with p.clauses p.log.lines) p.log.last
  pub model : IfSome p.model (IsModel p.vars (clauses_with p.clauses p.log.lines))
  pub unfinished : IsSome p.model → p.log.last ≡ None

-- the formula and the turns are the same
pub record SameProblem (old new : Problem) : Type 0 where
  pub vars : new.vars ≡ old.vars
  pub clauses : new.clauses ≡ old.clauses
  pub turns : new.turns ≡ old.turns

-- no model is kept, and the final line is as it was
pub record IsLeftOpen (old new : Problem) : Type 0 where
  pub model : new.model ≡ None
  pub last : new.log.last ≡ old.log.last

-- the values of the variables 1 to `vars`, in order
abbrev pub values_list : ℕ → List Step → List Bool
values_list vars steps = map (λ v. unwrap_or (values_of steps (v + 1)) false) (range_with_len 0 vars)

abbrev pub kept_model : Bool → ℕ → List Step → Option (List Bool)
kept_model kept vars steps = if kept then Some (values_list vars steps) else None

abbrev pub problem_of : ℕ → State → Log → Bool → Problem
problem_of turns trail log kept =
    record { vars = trail.vars; clauses = formula_in trail.clauses log.lines; turns = turns; log = log; model = kept_model kept trail.vars trail.steps }

-- how the fields of a solver belong together
pub record IsInner (turns : ℕ) (empty : Option ℕ) (trail : State) (log : Log) (kept : Bool) : Type 0 where
  pub searching : Searches log.lines trail
  pub first : MatchOption empty (NoneEmpty (formula_in trail.clauses log.lines)) (IsFirstEmpty (formula_in trail.clauses log.lines))
  pub solver : IsSolver (problem_of turns trail log kept)
