-- What contracts see of the marks.
use Rattle.std.specs.Prelude.{◌≡◌, ◌⊎◌, ℕ, ◌+◌, ◌<◌, ◌≤◌, Bool, true, false, Option, Some, List, All, length, count_by, option_map, slice_index_or, Contains}
use Rattle.heesch_cnf.specs.declared.literal.Lit.{Lit}
use Rattle.heesch_trail.specs.declared.step.Step.{Step}
use Rattle.heesch_trail.specs.State.{State, fact_of}

-- of 0 and of each variable, whether it is marked, and whether it is marked as one of the present level
pub record Marking : Type 0 where
  pub seen : List Bool
  pub here : List Bool

-- whether a variable is marked
abbrev pub marked : List Bool → ℕ → Bool
marked places v = slice_index_or places v false

-- how many variables are marked as ones of the present level
abbrev pub pending_in : Marking → ℕ
pending_in m = count_by (λ b. b) m.here

-- the level at which a variable was assigned
abbrev pub level_in : List Step → ℕ → Option ℕ
level_in steps v = option_map (λ (s : Step). s.level) (fact_of steps v)

-- a place for each variable in both lists
pub record HavePlaces (vars : ℕ) (m : Marking) : Type 0 where
  pub seen_room : length m.seen ≡ vars + 1
  pub here_room : length m.here ≡ vars + 1

-- nothing is marked
pub record IsClear (m : Marking) : Type 0 where
  pub none_seen : (v : ℕ) → marked m.seen v ≡ false
  pub none_here : (v : ℕ) → marked m.here v ≡ false

-- a place for each variable of the trail; of the marked ones those of the level are marked as such, and no others
pub record AreMarks (trail : State) (level : ℕ) (m : Marking) : Type 0 where
  pub seen_room : length m.seen ≡ trail.vars + 1
  pub here_room : length m.here ≡ trail.vars + 1
  pub here_seen : (v : ℕ) → marked m.here v ≡ true → (marked m.seen v ≡ true) × (level_in trail.steps v ≡ Some level)
  pub seen_here : (v : ℕ) → marked m.seen v ≡ true → level_in trail.steps v ≡ Some level → marked m.here v ≡ true

-- the marks after those of the clause: what was marked, and its variables, and no others
pub record MarksClause (old new : List Bool) (clause : List Lit) : Type 0 where
  pub kept : (v : ℕ) → marked old v ≡ true → marked new v ≡ true
  pub added : (l : Lit) → Contains clause l → marked new l.var ≡ true
  pub others : (v : ℕ) → marked new v ≡ true → (marked old v ≡ true) ⊎ ((l : Lit) × (Contains clause l × (l.var ≡ v)))

-- the list has the marked variables, each at least once, and no others
pub record AreMarked (seen : List Bool) (vars : List ℕ) : Type 0 where
  pub in_range : All (λ v. (1 ≤ v) × (v < length seen)) vars
  pub each : All (λ v. marked seen v ≡ true) vars
  pub has : (v : ℕ) → marked seen v ≡ true → Contains vars v

-- both lists have as many places; each marked variable stands in the list of those touched
pub record AreListed (seen here : List Bool) (touched : List ℕ) : Type 0 where
  pub same_room : length here ≡ length seen
  pub in_range : All (λ v. (1 ≤ v) × (v < length seen)) touched
  pub has_seen : (v : ℕ) → marked seen v ≡ true → Contains touched v
  pub has_here : (v : ℕ) → marked here v ≡ true → Contains touched v

-- moreover those of the present level are counted
pub record AreCounted (seen here : List Bool) (touched : List ℕ) (pending : ℕ) : Type 0 where
  pub listed : AreListed seen here touched
  pub counted : pending ≡ count_by (λ b. b) here
