-- Which outer records can be read, and the parts that they are read in.
use Rattle.std.specs.Prelude.{◌≡◌, ℕ, false, List}
use Rattle.std.specs.List.{AllByRecursion}
use Rattle.heesch_cert.specs.declared.entry.Entry.{Entry}
use Rattle.heesch_text.specs.declared.line.Line.{Line}
use Rattle.heesch_text.specs.Catalogue.{entry_lines}
use Rattle.heesch_line.specs.Forms.{IsLine}
use Rattle.heesch_grammar.specs.Entries.{HoldsItsLines, LeadOver}
use Rattle.heesch_grammar.specs.Statements.{start}
use Rattle.heesch_outer.specs.Record.{answer_lines, answer_text}
use Rattle.heesch_outer.specs.declared.answer.OuterAnswer.{OuterAnswer}
use Rattle.heesch_outer.specs.declared.answers.OuterEntry.{OuterEntry}

-- the lines of the layers or of the proof that show the answer have the forms of a catalogue's
abbrev pub HasLineForms : OuterAnswer → Type 0
HasLineForms answer = AllByRecursion IsLine (answer_lines answer)

-- the lines of the entry may stand as an entry's in a full catalogue, and it holds nothing beyond them; they and the answer's have the forms of a catalogue's
pub record IsReadableRecord (e : OuterEntry) : Type 0 where
  pub entry_forms : AllByRecursion IsLine (entry_lines e.entry)
  pub may_stand : LeadOver false start (entry_lines e.entry)
  pub holds : HoldsItsLines e.entry
  pub answer_forms : HasLineForms e.answer

-- ---- parts

-- the lines are those of this entry, which holds nothing beyond them, and may stand in a full catalogue
pub record IsEntryOf (ls : List Line) (e : Entry) : Type 0 where
  pub lines : ls ≡ entry_lines e
  pub may_stand : LeadOver false start ls
  pub holds : HoldsItsLines e

-- the bytes are the text of this answer behind an entry with the number h, and its lines have the forms of a catalogue's
abbrev pub IsAnswerOf : ℕ → List ℕ → OuterAnswer → Type 0
IsAnswerOf h bytes answer = (bytes ≡ answer_text h answer) × HasLineForms answer
