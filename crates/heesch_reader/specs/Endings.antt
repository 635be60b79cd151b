-- Whether the line at hand begins as the last line of a catalogue does.
use Rattle.std.specs.Prelude.{◌≡◌, ℕ, if◌then◌else◌, List, [], ◌∷◌, ◌++◌, None, codes}
use Rattle.std.specs.List.{AllByRecursion}
use Rattle.heesch_text.specs.declared.line.Line.{Line}
use Rattle.heesch_text.specs.Lines.{text_of}
use Rattle.heesch_line.specs.Forms.{IsLine, HasNoNewline}
use Rattle.heesch_reader.specs.declared.progress.AtHand.{AtHand}
use Rattle.heesch_reader.specs.declared.progress.AtHand.TheVariants as endings
use Rattle.heesch_reader.specs.Items.{Kept}
use Rattle.heesch_reader.specs.Faults.{begins}

-- behind these lines of an entry, the line that these bytes are of
abbrev pub ending_of : List Line → List ℕ → AtHand
ending_of [] left = if begins left (codes "end ") then endings.Next else endings.Other
ending_of (line ∷ held) left = if begins left (codes "end ") then endings.Inside else endings.Other

-- it is told of what a reader that hasn't refused keeps, in lines and bytes of one more
abbrev pub TellsEnding : Kept → AtHand → Type 0
TellsEnding kept ending = (held : List Line) (left : List ℕ) → kept.refusal ≡ None → AllByRecursion IsLine held → HasNoNewline left → kept.rest ≡ text_of held ++ left → ending ≡ ending_of held left
