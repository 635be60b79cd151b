-- Things that come in parts, one part after another.
use Rattle.std.specs.Prelude.{◌≡◌, ℕ, ◌+◌, ◌-◌, ◌<◌, List, [], ◌∷◌, length, sum, take, slice_index_or}

-- how far each place lies behind the one before it
abbrev pub gaps : ℕ → List ℕ → List ℕ
gaps start [] = []
gaps start (end ∷ ends) = (end - start) ∷ gaps end ends

-- where parts have so many things, the thing at this place of all, from 0, is that at the place `rest` of the part, both from 0
pub record FallsIn (counts : List ℕ) (place part rest : ℕ) : Type 0 where
  pub part_is : part < length counts
  pub within : rest < slice_index_or counts part 0
  pub before : sum (take part counts) + rest ≡ place
