-- Lists that lie one after another in one list, with the place where each of them ends.
use Rattle.std.specs.Prelude.{◌≡◌, ℕ, ◌≤◌, List, [], ◌∷◌, slice_index_or}
use Rattle.std.specs.List.{slice_range}

-- the lists that one after another, from this start, end at these places of one list
abbrev pub pieces : {X : Type 0} → List X → ℕ → List ℕ → List (List X)
pieces items start [] = []
pieces items start (end ∷ ends) = slice_range items start end ∷ pieces items end ends

-- the places rise from the start to the end of the list, which is the last of them
abbrev pub AreEnds : ℕ → List ℕ → ℕ → Type 0
AreEnds start [] size = start ≡ size
AreEnds start (end ∷ ends) size = (start ≤ end) × AreEnds end ends size

-- where the piece of an index begins
abbrev pub start_at : ℕ → List ℕ → ℕ → ℕ
start_at start ends index = slice_index_or (start ∷ ends) index 0
