-- The whole input of a source, and how far it is read.
use Rattle.std.specs.Prelude.{◌≡◌, ◌≤◌, ◌++◌, ℕ, List, length, Option, Some, None, ⊤}
use Rattle.std.specs.Io.KnownBytes.{Consumes}

-- where the source told what it had left, these are the bytes
abbrev pub IsAllOf : Option (List ℕ) → List ℕ → Type 0
IsAllOf None bytes = ⊤
IsAllOf (Some input) bytes = bytes ≡ input

-- the most bytes of one read
abbrev pub piece_max : ℕ
piece_max = 4096

-- no piece is read beyond the one that decides: what was read before it decides nothing
pub record ReadsNoFurther (decides_nothing : List ℕ → Type 0) (first now : Option (List ℕ)) : Type 0 where
  pub bytes : List ℕ
  pub last : List ℕ
  pub consumed : Consumes first now (bytes ++ last)
  pub one_piece : length last ≤ piece_max
  pub undecided : decides_nothing bytes
