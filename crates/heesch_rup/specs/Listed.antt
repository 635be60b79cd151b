-- At which number a clause is listed.
use Rattle.std.specs.Prelude.{◌≡◌, ◌≢◌, ℕ, ◌+◌, ◌*◌, ◌<◌, ◌≤◌, nat_lt, false, Option, None, Some, List, [], ◌∷◌, length, vec_len, All, slice_index_or, if◌then◌else◌}
use Rattle.heesch_cnf.specs.declared.literal.Lit.{Lit}
use Rattle.heesch_cnf.specs.Literals.{Values, lit_value}
use Rattle.heesch_cnf.specs.Clauses.{AreClauses}
use Rattle.heesch_cnf.specs.Flat.{Clauses, code_of}
use Rattle.heesch_rup.specs.declared.occurrences.Occurrences.{Occurrences}

-- how often the literal of this number is counted
abbrev pub count_at : List ℕ → ℕ → ℕ
count_at counts code = slice_index_or counts code 0

-- of a literal's number and those of further literals, the one that is counted least often, the first of several
abbrev pub rarest : List ℕ → ℕ → List Lit → ℕ
rarest counts code [] = code
rarest counts code (l ∷ ls) = rarest counts (if nat_lt (count_at counts (code_of l)) (count_at counts code) then code_of l else code) ls

-- a clause is listed at the number of its rarest literal, and the empty one at 0, which is no literal's over the variables
abbrev pub slot_of : List ℕ → List Lit → ℕ
slot_of counts [] = 0
slot_of counts (l ∷ ls) = rarest counts (code_of l) ls

-- the slot of the clause at this place, which counts from 0
abbrev pub slot_at : List ℕ → List (List Lit) → ℕ → ℕ
slot_at counts clauses place = slot_of counts (slice_index_or clauses place [])

-- the last place below n of a clause that is listed at the slot, or none where there is no such place
abbrev pub IsLastBelow : List ℕ → List (List Lit) → ℕ → ℕ → Option ℕ → Type 0
IsLastBelow counts clauses n slot None = (k : ℕ) → k < n → slot_at counts clauses k ≢ slot
IsLastBelow counts clauses n slot (Some i) = (i < n) × (slot_at counts clauses i ≡ slot) × ((k : ℕ) → i < k → k < n → slot_at counts clauses k ≢ slot)

-- the first clauses are listed: each slot has the last place of its clauses, and each place the one before it of the same slot
pub record ListsFirst (clauses : List (List Lit)) (listed : Occurrences) : Type 0 where
  pub within : length listed.earlier.items ≤ length clauses
  pub last : (slot : ℕ) → slot < length listed.last.items → IsLastBelow listed.counts.items clauses (length listed.earlier.items) slot (slice_index_or listed.last.items slot None)
  pub earlier : (k : ℕ) → k < length listed.earlier.items → IsLastBelow listed.counts.items clauses k (slot_at listed.counts.items clauses k) (slice_index_or listed.earlier.items k None)

-- all clauses are listed, each by a literal over the variables
pub record AreAllListed (clauses : Clauses) (listed : Occurrences) : Type 0 where
  pub form : AreClauses clauses.vars clauses.clauses
  pub slots : vec_len listed.last ≡ 2 * clauses.vars + 2
  pub lists : ListsFirst clauses.clauses listed
  pub all : vec_len listed.earlier ≡ length clauses.clauses

-- each literal of the clause is false
abbrev pub IsFalsified : Values → List Lit → Type 0
IsFalsified values clause = All (λ l. lit_value values l ≡ Some false) clause

-- one of the first n clauses has all its literals false
abbrev pub SomeFalsified : Values → List (List Lit) → ℕ → Type 0
SomeFalsified values clauses n = (k : ℕ) × ((k < n) × IsFalsified values (slice_index_or clauses k []))

-- none of the first n clauses that is listed at the slot has all its literals false
abbrev pub NoneFalsifiedAt : List ℕ → Values → List (List Lit) → ℕ → ℕ → Type 0
NoneFalsifiedAt counts values clauses n slot = (k : ℕ) → k < n → slot_at counts clauses k ≡ slot → IsFalsified values (slice_index_or clauses k []) → ⊥
