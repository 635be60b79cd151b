-- The lines of a catalogue that bytes are, or that stand at their front.
use Rattle.std.specs.Prelude.{◌≡◌, ℕ, List, ◌++◌}
use Rattle.std.specs.List.{AllByRecursion}
use Rattle.heesch_text.specs.declared.line.Line.{Line}
use Rattle.heesch_text.specs.Lines.{line_text, text_of}
use Rattle.heesch_line.specs.Forms.{IsLine}

-- the bytes are the text of these lines, which have the forms of a catalogue's
abbrev pub AreLinesOf : List ℕ → List Line → Type 0
AreLinesOf bytes ls = (bytes ≡ text_of ls) × AllByRecursion IsLine ls

-- no line of a catalogue stands at the front of the bytes
abbrev pub BeginsNoLine : List ℕ → Type 0
BeginsNoLine bytes = (line : Line) (back : List ℕ) → IsLine line → bytes ≡ line_text line ++ back → ⊥

-- these lines of a catalogue, and no more, stand at the front of the bytes, with the rest behind them
pub record AreFrontLines (bytes : List ℕ) (ls : List Line) (rest : List ℕ) : Type 0 where
  pub text : bytes ≡ text_of ls ++ rest
  pub forms : AllByRecursion IsLine ls
  pub no_more : BeginsNoLine rest
