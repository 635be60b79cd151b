-- What holds of catalogues and of answers, as statements. A contract that cites one of them claims it.
use Rattle.std.specs.Prelude.{◌≡◌, ℕ, false, List, length}
use Rattle.heesch_cert.specs.declared.entry.Entry.{Entry}
use Rattle.heesch_cert.specs.declared.header.Header.{Header}
use Rattle.heesch_text.specs.declared.line.Line.TheVariants as lines
use Rattle.heesch_text.specs.Catalogue.{catalogue_text}
use Rattle.heesch_line.specs.Forms.{IsLine}
use Rattle.heesch_check.specs.declared.answers.Checked.{Checked}
use Rattle.heesch_check.specs.Answers.{IsValid, IsChecked}
use Rattle.heesch_check.specs.Catalogues.{AreAll}
use Rattle.heesch_check.specs.Judging.{AreGood}

-- the text of a catalogue that isn't brief, of good entries that are all, is valid
abbrev pub CataloguesAreValid : Type 0
CataloguesAreValid = (header : Header) (es : List Entry) → IsLine (lines.Header header) → header.brief ≡ false → AreGood header 0 es → AreAll header header.subject (length es) → IsValid (catalogue_text header es) (length es)

-- an input has at most one answer
abbrev pub OneAnswer : Type 0
OneAnswer = (input : List ℕ) (c d : Checked) → IsChecked input c → IsChecked input d → c ≡ d
