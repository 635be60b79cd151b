-- Watch lists, their entries and their pairs.
use Rattle.std.specs.Prelude.{◌≡◌, ◌≢◌, ℕ, ◌+◌, ◌-◌, ◌*◌, ◌<◌, ◌≤◌, ◌^◌, ◌⊎◌, if◌then◌else◌, nat_le, Bool, true, Option, None, Some, false, List, [], length, take, Contains, slice_index_or, ◌++◌, ◌∷◌, set}
use Rattle.heesch_cnf.specs.declared.literal.Lit.{Lit}
use Rattle.heesch_cnf.specs.Literals.{Values, lit_value}
use Rattle.heesch_cnf.specs.Flat.{code_of}
use Rattle.heesch_trail.specs.declared.pair.Pair.{Pair}
use Rattle.heesch_trail.specs.declared.entry.Entry.{Entry}

-- the clause of an entry has just two literals
abbrev pub is_binary : Entry → Bool
is_binary e = nat_le (2 ^ 31) e.mark

-- the index of an entry's clause
abbrev pub index_of : Entry → ℕ
index_of e = if nat_le (2 ^ 31) e.mark then e.mark - 2 ^ 31 else e.mark

-- the index of the clause of the entry at a place
abbrev pub index_at : List Entry → ℕ → ℕ
index_at list i = index_of (slice_index_or list i (record { mark = 0; blocker = record { var = 0; positive = false } }))

-- what contracts see of the watches: by a clause's index, from 0, the two of its literals that are watched, where there are such,
-- and by literal the entries of the clauses that may be watched by it
pub record Watching : Type 0 where
  pub pairs : List (Option Pair)
  pub lists : List (List Entry)

-- the entries of the clauses that a literal may watch
abbrev pub list_of : List (List Entry) → Lit → List Entry
list_of lists l = slice_index_or lists (code_of l) []

-- the watched literals of the clause of an index
abbrev pub pair_of : List (Option Pair) → ℕ → Option Pair
pair_of pairs k = slice_index_or pairs k None

-- an entry of the list names the clause of this index
abbrev pub Names : List Entry → ℕ → Type 0
Names list k = (e : Entry) × (Contains list e × (index_of e ≡ k))

-- each entry of the one family of lists stands in the other's list of the same place
abbrev pub AreKept : List (List Entry) → List (List Entry) → Type 0
AreKept old new = (place : ℕ) (e : Entry) → Contains (slice_index_or old place []) e → Contains (slice_index_or new place []) e

-- the lists of other literals are as they were
abbrev pub OthersStay : Lit → List (List Entry) → List (List Entry) → Type 0
OthersStay l old new = (place : ℕ) → place ≢ code_of l → slice_index_or new place [] ≡ slice_index_or old place []

-- an entry of this clause, with this other literal
pub record IsEntry (index : ℕ) (blocker : Lit) (binary : Bool) (e : Entry) : Type 0 where
  pub index_is : index_of e ≡ index
  pub blocker_is : e.blocker ≡ blocker
  pub binary_is : is_binary e ≡ binary

-- an entry of the new lists is one of the old ones, or one of this clause, for one literal of the pair and with the other
abbrev pub AreMore : Pair → ℕ → Bool → List (List Entry) → List (List Entry) → Type 0
AreMore pair index binary old new =
    (l : Lit) (e : Entry) → Contains (list_of new l) e → Contains (list_of old l) e ⊎ (((l ≡ pair.one) × IsEntry index pair.other binary e) ⊎ ((l ≡ pair.other) × IsEntry index pair.one binary e))

-- the list of the pair's first literal has one entry more, of this clause with the second, and the others are as they were
abbrev pub HasPushed : Pair → ℕ → List (List Entry) → List (List Entry) → Type 0
HasPushed pair index old new =
    (e : Entry) × (IsEntry index pair.other false e × (new ≡ set old (code_of pair.one) (list_of old pair.one ++ e ∷ [])))

-- the list has the same entries in front of a place, and all but the one there
pub record IsWithout (place : ℕ) (old new : List Entry) : Type 0 where
  pub front : take place new ≡ take place old
  pub kept : (e : Entry) → Contains old e → e ≢ slice_index_or old place e → Contains new e
  pub within : (e : Entry) → Contains new e → Contains old e
  pub shorter : length new + 1 ≡ length old

-- what stands beside a literal in a pair: the other literal, or none where it isn't of the pair
abbrev pub IsBeside : Pair → Lit → Option Lit → Type 0
IsBeside pair l None = (pair.one ≢ l) × (pair.other ≢ l)
IsBeside pair l (Some m) = ((pair.one ≡ l) × (m ≡ pair.other)) ⊎ ((pair.other ≡ l) × (m ≡ pair.one))

-- the pair's literals are two of the clause, and an entry in the lists of both names it
pub record IsWatch (lists : List (List Entry)) (index : ℕ) (clause : List Lit) (pair : Pair) : Type 0 where
  pub has_one : Contains clause pair.one
  pub has_other : Contains clause pair.other
  pub differ : pair.one ≢ pair.other
  pub one_lists : Names (list_of lists pair.one) index
  pub other_lists : Names (list_of lists pair.other) index

-- the lists of both literals of its pair name the clause of the index, where it has one
abbrev pub IsListed : Watching → ℕ → Type 0
IsListed watching index =
    (p : Pair) → pair_of watching.pairs index ≡ Some p → Names (list_of watching.lists p.one) index × Names (list_of watching.lists p.other) index

-- an entry of a literal's list: its blocker is of its clause, which has no literals but these two where it is binary
pub record IsSound (clauses : List (List Lit)) (l : Lit) (e : Entry) : Type 0 where
  pub within : index_of e < length clauses
  pub has : Contains (slice_index_or clauses (index_of e) []) e.blocker
  pub both : is_binary e ≡ true → (x : Lit) → Contains (slice_index_or clauses (index_of e) []) x → x ≢ e.blocker → x ≡ l

-- each literal has a list, the entries are sound, and each clause that is watched is named in the lists of the two literals of it
-- that watch
pub record AreWhole (vars : ℕ) (clauses : List (List Lit)) (watching : Watching) : Type 0 where
  pub room : length watching.lists ≡ 2 * vars + 2
  pub places : length clauses ≤ length watching.pairs
  pub within : (k : ℕ) (p : Pair) → pair_of watching.pairs k ≡ Some p → k < length clauses
  pub watched : (k : ℕ) (p : Pair) → pair_of watching.pairs k ≡ Some p → IsWatch watching.lists k (slice_index_or clauses k []) p
  pub sound : (l : Lit) (e : Entry) → Contains (list_of watching.lists l) e → IsSound clauses l e

-- the literal isn't false
abbrev pub IsNotFalse : Values → Lit → Type 0
IsNotFalse values l = lit_value values l ≢ Some false

-- there is a pair, and neither of its literals is false
abbrev pub AreNotFalse : Values → Option Pair → Type 0
AreNotFalse values None = ⊥
AreNotFalse values (Some pair) = IsNotFalse values pair.one × IsNotFalse values pair.other

-- the literal is one of the pair
abbrev pub IsOf : Option Pair → Lit → Type 0
IsOf None l = ⊥
IsOf (Some pair) l = (pair.one ≡ l) ⊎ (pair.other ≡ l)

-- the literal isn't false under these values, or is one of the pair
abbrev pub MayWatch : Values → Option Pair → Lit → Type 0
MayWatch values pair l = IsNotFalse values l ⊎ IsOf pair l

-- there is a pair, of literals that aren't false under these values or are of the old pair
abbrev pub IsNext : Values → Option Pair → Option Pair → Type 0
IsNext values old None = ⊥
IsNext values old (Some pair) = MayWatch values old pair.one × MayWatch values old pair.other

-- each pair is as it was, or is of literals that aren't false under these values or were of it
abbrev pub AreMoved : Values → List (Option Pair) → List (Option Pair) → Type 0
AreMoved values old new = (k : ℕ) → (pair_of new k ≡ pair_of old k) ⊎ IsNext values (pair_of old k) (pair_of new k)
