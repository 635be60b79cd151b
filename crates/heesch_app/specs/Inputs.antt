-- What is read of the input, and the line that tells its fault.
use Rattle.std.specs.Prelude.{◌≡◌, ℕ, ◌+◌, List, ◌++◌, take, Option, codes, decimal}
use Rattle.std.specs.Io.KnownBytes.{Consumes}
use Rattle.heesch_io.specs.Input.{IsAllOf}
use Rattle.heesch_reader.specs.Taking.{input_max}

-- some bytes were read, from the first on, or none
abbrev pub ConsumesSome : (before now : Option (List ℕ)) → Type 0
ConsumesSome before now = (bytes : List ℕ) × Consumes before now bytes

-- the bytes are the front of the whole input: all of it, or where it has more bytes than are read, as many as are read and one more
abbrev pub IsFrontOf : Option (List ℕ) → List ℕ → Type 0
IsFrontOf left bytes = (input : List ℕ) × IsAllOf left input × (bytes ≡ take (input_max + 1) input)

-- `bad input LINE FAULT`
abbrev pub bad_input_text : ℕ → ℕ → List ℕ
bad_input_text line number = codes "bad input " ++ decimal line ++ codes " " ++ decimal number ++ codes "\n"
