-- What the watches keep between two visits.
use Rattle.std.specs.Prelude.{◌≡◌, ◌≢◌, ℕ, ◌<◌, ◌≤◌, ◌⊎◌, Option, None, Some, List, [], length, slice_index_or}
use Rattle.heesch_cnf.specs.declared.literal.Lit.{Lit}
use Rattle.heesch_cnf.specs.Literals.{Values, opposite}
use Rattle.heesch_cnf.specs.Lines.{IsNumber, numbered}
use Rattle.heesch_trail.specs.declared.pair.Pair.{Pair}
use Rattle.heesch_trail.specs.declared.step.Step.{Step}
use Rattle.heesch_trail.specs.declared.propagation.Visit.{Visit}
use Rattle.heesch_trail.specs.declared.propagation.Visit.TheVariants.{HasTrue as TrueVisit, Watched, AllFalse}
use Rattle.heesch_trail.specs.Fixpoint.{HasTrue, IsFalse}
use Rattle.heesch_trail.specs.State.{State, IsTrail, Continues, values_of, level_of, up_to}
use Rattle.heesch_trail.specs.Watches.{Watching, pair_of, AreWhole, IsNotFalse, AreNotFalse, AreMoved}

-- the clause has a true literal, or watched ones that aren't false
abbrev pub IsGuarded : Values → List Lit → Option Pair → Type 0
IsGuarded values clause pair = HasTrue values clause ⊎ AreNotFalse values pair

-- each of the first n clauses is guarded
abbrev pub AreGuarded : Values → List (List Lit) → List (Option Pair) → ℕ → Type 0
AreGuarded values clauses pairs n = (k : ℕ) → k < n → IsGuarded values (slice_index_or clauses k []) (pair_of pairs k)

-- the opposite of the literal was made true after the first `head` assignments
pub record Waits (head : ℕ) (steps : List Step) (l : Lit) : Type 0 where
  pub at : ℕ
  pub later : head ≤ at
  pub within : at < length steps
  pub is : (d : Step) → l ≡ opposite (slice_index_or steps at d).lit

-- the literal isn't false, or waits for a visit to its list
abbrev pub IsAlert : ℕ → List Step → Lit → Type 0
IsAlert head steps l = IsNotFalse (values_of steps) l ⊎ Waits head steps l

abbrev pub AreAlert : ℕ → List Step → Option Pair → Type 0
AreAlert head steps None = ⊥
AreAlert head steps (Some pair) = IsAlert head steps pair.one × IsAlert head steps pair.other

-- the clause has a true literal, or each of its watched ones isn't false or waits for a visit
abbrev pub IsSeen : ℕ → List Step → List Lit → Option Pair → Type 0
IsSeen head steps clause pair = HasTrue (values_of steps) clause ⊎ AreAlert head steps pair

-- each of the first n clauses was seen
abbrev pub AreSeen : ℕ → State → Watching → ℕ → Type 0
AreSeen head trail watching n = (k : ℕ) → k < n → IsSeen head trail.steps (slice_index_or trail.clauses k []) (pair_of watching.pairs k)

-- more assignments at the same level, and pairs whose literals weren't false before them or stayed
pub record GoesOn (old : State) (watched : Watching) (new : State) (watching : Watching) : Type 0 where
  pub valid : IsTrail new
  pub steps : Continues old new
  pub moved : AreMoved (values_of old.steps) watched.pairs watching.pairs
  pub whole : AreWhole new.vars new.clauses watching

-- all literals of the clause of this number are false
abbrev pub IsConflict : State → ℕ → Type 0
IsConflict trail n = IsNumber trail.clauses n × IsFalse (values_of trail.steps) (numbered trail.clauses n)

-- what a visit left of the clause of an index: a true literal, watched ones that aren't false, or nothing but false ones
abbrev pub IsVisit : State → Watching → ℕ → Visit → Type 0
IsVisit trail watching k TrueVisit = HasTrue (values_of trail.steps) (slice_index_or trail.clauses k [])
IsVisit trail watching k Watched = AreNotFalse (values_of trail.steps) (pair_of watching.pairs k)
IsVisit trail watching k (AllFalse n) = IsConflict trail n

-- what is left of the clause of an index where only one literal of it may not be false: a true literal, or a conflict
abbrev pub IsEnd : State → ℕ → Visit → Type 0
IsEnd trail k TrueVisit = HasTrue (values_of trail.steps) (slice_index_or trail.clauses k [])
IsEnd trail k Watched = ⊥
IsEnd trail k (AllFalse n) = IsConflict trail n

-- the literal isn't one that watches the clause of the index
abbrev pub IsUnwatched : Watching → Lit → ℕ → Type 0
IsUnwatched watching l k = (p : Pair) → pair_of watching.pairs k ≡ Some p → (p.one ≢ l) × (p.other ≢ l)

-- what a visit by the list of a false literal left of the clause of an index: another literal watches it where none is true
abbrev pub IsVisitBy : State → Watching → Lit → ℕ → Visit → Type 0
IsVisitBy trail watching l k TrueVisit = HasTrue (values_of trail.steps) (slice_index_or trail.clauses k [])
IsVisitBy trail watching l k Watched = IsUnwatched watching l k
IsVisitBy trail watching l k (AllFalse n) = IsConflict trail n

-- the clause of an index has a true literal, or this one doesn't watch it
abbrev pub IsPassed : State → Watching → Lit → ℕ → Type 0
IsPassed trail watching l k = HasTrue (values_of trail.steps) (slice_index_or trail.clauses k []) ⊎ IsUnwatched watching l k

-- what visits by the list of a false literal found: each clause that it watches has a true literal, or there is a conflict
abbrev pub AreVisitedBy : State → Watching → Lit → Option ℕ → Type 0
AreVisitedBy trail watching l None =
    (k : ℕ) (p : Pair) → pair_of watching.pairs k ≡ Some p → (p.one ≡ l) ⊎ (p.other ≡ l) → HasTrue (values_of trail.steps) (slice_index_or trail.clauses k [])
AreVisitedBy trail watching l (Some n) = IsConflict trail n

-- what the first reading of clauses found: none is left, or there is a conflict
abbrev pub AreRead : State → ℕ → Option ℕ → Type 0
AreRead trail fresh None = fresh ≡ length trail.clauses
AreRead trail fresh (Some n) = IsConflict trail n

-- where the first clauses were seen, as many as are read now still are
abbrev pub StaySeen : State → Watching → ℕ → State → Watching → ℕ → Type 0
StaySeen old watched fresh new watching read = (head : ℕ) → head ≤ length old.steps → AreSeen head old watched fresh → AreSeen head new watching read

-- how the parts of a trail belong together: the first `fresh` clauses were read, the first `head` assignments visited, and
-- as many clauses as a level's mark were guarded when the next level began
pub record IsWatched (trail : State) (watching : Watching) (head fresh : ℕ) (marks : List ℕ) : Type 0 where
  pub valid : IsTrail trail
  pub whole : AreWhole trail.vars trail.clauses watching
  pub visited : head ≤ length trail.steps
  pub few_read : fresh ≤ length trail.clauses
  pub seen : AreSeen head trail watching fresh
  pub levels : length marks ≡ level_of trail.steps
  pub few_marked : (m : ℕ) → m < length marks → slice_index_or marks m 0 ≤ length trail.clauses
  pub marked : (m : ℕ) → m < length marks → AreGuarded (values_of (up_to m trail.steps)) trail.clauses watching.pairs (slice_index_or marks m 0)
