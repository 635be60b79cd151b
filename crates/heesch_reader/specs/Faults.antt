-- The first line that can't stand in a catalogue, and the part at fault.
use Rattle.std.specs.Prelude.{◌≡◌, ℕ, ◌==◌, ◌||◌, not, Bool, if◌then◌else◌, List, [], ◌∷◌, ◌++◌, length, None, codes, nat_eq}
use Rattle.std.specs.List.{starts_with}
use Rattle.heesch_text.specs.declared.line.Line.{Line}
use Rattle.heesch_text.specs.Lines.{words_of, text_of}
use Rattle.heesch_line.specs.Forms.{IsLine, HasNoNewline}
use Rattle.heesch_grammar.specs.declared.place.Place.{Place}
use Rattle.heesch_grammar.specs.declared.place.Place.TheVariants as places
use Rattle.heesch_grammar.specs.Grammar.{is_whole}
use Rattle.heesch_reader.specs.declared.item.Part.{Part}
use Rattle.heesch_reader.specs.declared.item.Part.TheVariants as parts
use Rattle.heesch_reader.specs.declared.progress.Progress.{Progress}
use Rattle.heesch_reader.specs.declared.progress.Progress.TheVariants as stages
use Rattle.heesch_reader.specs.Progress.{next, Lead}

-- whether the word stands at the front
abbrev pub begins : List ℕ → List ℕ → Bool
begins bytes word = starts_with nat_eq bytes word

-- whether the bytes show that the next line is that of a shape, or the last line
abbrev pub begins_next : List ℕ → Bool
begins_next bytes = begins bytes (codes "shape ") || begins bytes (codes "end ")

-- after so many whole entries: an entry's line where one stands before and the line has a byte that doesn't begin an end
abbrev pub part_after : ℕ → List ℕ → Part
part_after shapes bytes = if (shapes == 0 || length bytes == 0) || begins bytes (codes "end ") then parts.End else parts.Entry

-- behind a header: an entry's line where it begins a shape or an entry has begun that can't end here, and never behind an end
abbrev pub part_behind : Place → ℕ → List ℕ → Part
part_behind places.Ended shapes bytes = parts.End
part_behind place shapes bytes = if begins bytes (codes "shape ") || not (is_whole place) then parts.Entry else part_after shapes bytes

-- the part at fault where a line of these bytes, with its newline where it has one, may not stand
abbrev pub part_of : Progress → List ℕ → Part
part_of stages.Start bytes = parts.Header
part_of (stages.Behind brief spot) bytes = part_behind spot.place spot.shapes bytes

-- no line of a catalogue that may stand here has these words
abbrev pub MayNotStand : Progress → List ℕ → Type 0
MayNotStand p words = (line : Line) → IsLine line → words_of line ≡ words → next p line ≡ None

-- the bytes begin with a line, its newline included, that may not stand here
pub record FaultsAt (p : Progress) (bytes : List ℕ) (part : Part) : Type 0 where
  pub words : List ℕ
  pub back : List ℕ
  pub split : bytes ≡ words ++ 10 ∷ back
  pub one_line : HasNoNewline words
  pub may_not : MayNotStand p words
  pub part_is : part ≡ part_of p (words ++ 10 ∷ [])

-- a text whose lines may all stand has no line at fault: of the lines that end in it, none may not stand behind those before it
abbrev pub StandingTextsHaveNoFault : Type 0
StandingTextsHaveNoFault = (p q r : Progress) (ls front : List Line) (left bytes : List ℕ) (part : Part) → Lead p ls q → HasNoNewline left → Lead p front r → FaultsAt r bytes part → text_of ls ++ left ≡ text_of front ++ bytes → ⊥
