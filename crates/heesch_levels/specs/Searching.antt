-- What is asked of a model, the state of a search, and how it ends.
use Rattle.std.specs.Prelude.{◌≡◌, ◌≤◌, ◌⊎◌, ℕ, Bool, Option, Some, None, List, [], ◌∷◌, map, length, All, MatchOption}
use Rattle.heesch_grid.specs.declared.Cell.{Cell}
use Rattle.heesch_grid.specs.Clauses.{formula_size}
use Rattle.heesch_grid.specs.Geometry.{Geometry}
use Rattle.heesch_grid.specs.Corona.{StaysHoleFree}
use Rattle.heesch_grid.specs.Polyform.{IsPolyform}
use Rattle.heesch_grid.specs.Statements.{chosen_layers}
use Rattle.heesch_cnf.specs.declared.version.Version.{Version}
use Rattle.heesch_cnf.specs.Clauses.{assignment_of}
use Rattle.heesch_cnf.specs.Lines.{clauses_with, Refutes, IsSpent}
use Rattle.heesch_cnf.specs.Meaning.{given_clauses}
use Rattle.heesch_cdcl.specs.Problem.{Problem, IsSolver, IsModel, SameProblem}
use Rattle.heesch_cdcl.specs.Searching.{NoFinal}
use Rattle.heesch_cdcl.specs.Empty.{IsFirstEmpty}
use Rattle.heesch_place.specs.Universes.{Levels, IsUniverseOf}
use Rattle.heesch_cert.specs.declared.proof.Cut.{Cut}
use Rattle.heesch_cert.specs.Formulas.{IsCountedFormula}
use Rattle.heesch_cert.specs.Cuts.{IsLawful, cut_clause}
use Rattle.heesch_levels.specs.declared.searching.Search.{Search}
use Rattle.heesch_levels.specs.declared.searching.Ending.{Ending}
use Rattle.heesch_levels.specs.declared.searching.Ending.TheVariants.{Model, Refuted, Spent}

-- the patch of each level from 1 to k is hole-free: S with the placements of the true variables of at most this level
abbrev pub IsFreeUpTo : Geometry → Levels → ℕ → List Bool → Type 0
IsFreeUpTo g u k values = StaysHoleFree g (u.shape ∷ []) (chosen_layers (assignment_of values) u.vars k)

-- the cut is lawful over the universe, and of a level up to k
pub record IsCutUpTo (g : Geometry) (u : Levels) (k : ℕ) (cut : Cut) : Type 0 where
  pub lawful : IsLawful g u.shape u.level u.vars cut
  pub up_to : cut.level ≤ k

-- the universe of the levels up to k, where they are some and not all
abbrev pub IsInside : Geometry → Levels → ℕ → Option Levels → Type 0
IsInside g u k inner = MatchOption inner ((k ≡ 0) ⊎ (k ≡ u.level)) (λ i. IsUniverseOf g i × (i.shape ≡ u.shape) × (i.level ≡ k))

-- the universe is one of the shape, holes are forbidden up to one of its levels or at none, and the inner universe is that of these levels
pub record IsAsked (g : Geometry) (shape : List Cell) (u : Levels) (k : ℕ) (inner : Option Levels) : Type 0 where
  pub shape_is : u.shape ≡ shape
  pub universe : IsUniverseOf g u
  pub levels : k ≤ u.level
  pub inside : IsInside g u k inner

-- the solver has a formula over the variables of the universe and maybe more, and was given the clauses of these lawful cuts up to k, in order; behind a cut some model of the formula is known
pub record IsSearch (g : Geometry) (u : Levels) (k : ℕ) (s : Search) : Type 0 where
  pub within : length u.vars ≤ s.solver.vars
  pub valid : IsSolver s.solver
  pub turns_are : s.solver.turns ≡ s.turns
  pub lawful : All (IsCutUpTo g u k) s.cuts
  pub given : given_clauses s.solver.log.lines ≡ map (cut_clause u.vars) s.cuts
  pub some_model : MatchOption s.holed (s.cuts ≡ []) (IsModel s.solver.vars s.solver.clauses)

-- it is a search still, over the same formula and with the same turns
pub record GoesOn (g : Geometry) (u : Levels) (k : ℕ) (old new : Search) : Type 0 where
  pub search : IsSearch g u k new
  pub same : SameProblem old.solver new.solver
  pub turns : new.turns ≡ old.turns

-- a model, which leaves no hole up to level k; a log that refutes; or a log that is spent, over which no final line holds
abbrev pub IsEnding : Geometry → Levels → ℕ → Problem → Ending → Type 0
IsEnding g u k p (Model values) = IsModel p.vars (clauses_with p.clauses p.log.lines) values × IsFreeUpTo g u k values
IsEnding g u k p Refuted = Refutes p.vars p.clauses p.log
IsEnding g u k p Spent = IsSpent p.vars p.clauses p.turns p.log × NoFinal (clauses_with p.clauses p.log.lines)

-- where a clause of the formula is empty, the end is the number of the first such clause, without a line
abbrev pub IsAtOnce : Problem → Ending → Type 0
IsAtOnce p ending = (n : ℕ) → IsFirstEmpty p.clauses n → (ending ≡ Refuted) × ((p.log.last ≡ Some (n ∷ [])) × (p.log.lines ≡ []))

-- where a clause of the formula is empty, the search ends at once with the number of the first such clause, and no line is added
abbrev pub EndsAtOnce : Problem → Problem → Ending → Type 0
EndsAtOnce old new ending = (n : ℕ) → IsFirstEmpty old.clauses n → (ending ≡ Refuted) × ((new.log.last ≡ Some (n ∷ [])) × (new.log.lines ≡ old.log.lines))

-- the search goes on only where no clause of the formula is empty
abbrev pub TurnsAtOnce : Problem → Problem → Option Ending → Type 0
TurnsAtOnce old new (Some ending) = EndsAtOnce old new ending
TurnsAtOnce old new None = (n : ℕ) → ¬ IsFirstEmpty old.clauses n

-- the search of a polyform and a level from 1 has ended so, at once where a clause of the formula is empty
pub record IsEnded (g : Geometry) (u : Levels) (k : ℕ) (s : Search) (ending : Ending) : Type 0 where
  pub polyform : IsPolyform g u.shape
  pub some : 1 ≤ u.level
  pub levels : k ≤ u.level
  pub search : IsSearch g u k s
  pub ends : IsEnding g u k s.solver ending
  pub at_once : IsAtOnce s.solver ending

-- the universe, the levels without holes and the search are those of a search at level j, over E(S, j) of the version, of at most `size` literals
pub record IsUnder (version : Version) (g : Geometry) (shape : List Cell) (j k turns size : ℕ) (u : Levels) (free_levels : ℕ) (s : Search) : Type 0 where
  pub shape_is : u.shape ≡ shape
  pub level_is : u.level ≡ j
  pub free_is : free_levels ≡ k
  pub turns_are : s.turns ≡ turns
  pub formula : IsCountedFormula version g u.shape u.level u.vars s.solver.vars s.solver.clauses
  pub fits : formula_size s.solver.clauses ≤ size
