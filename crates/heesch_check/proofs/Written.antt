-- A catalogue that was written of all entries, each good, is valid.
use Rattle.std.proofs.Common.{◌≡◌, ℕ, false, List, ◌++◌, length, refl, ap, ◌∙◌, append_assoc, inr}
use Rattle.std.specs.List.{flat_map}
use Rattle.heesch_cert.specs.declared.entry.Entry.{Entry}
use Rattle.heesch_cert.specs.declared.header.Header.{Header}
use Rattle.heesch_text.specs.declared.line.Line.TheVariants as lines
use Rattle.heesch_text.specs.Lines.{text_of}
use Rattle.heesch_text.specs.Catalogue.{header_text, entry_lines, entries_text, end_text, catalogue_text}
use Rattle.heesch_line.specs.Forms.{IsLine}
use Rattle.heesch_reader.proofs.EntryTexts.{entries_full}
use Rattle.heesch_check.specs.Answers.{IsValid}
use Rattle.heesch_check.specs.Catalogues.{AreAll}
use Rattle.heesch_check.specs.Judging.{AreGood}
use Rattle.heesch_check.proofs.Seen.{checked}

pub written_is_valid : (header : Header) (es : List Entry) → IsLine (lines.Header header) → header.brief ≡ false → AreGood header 0 es → AreAll header header.subject (length es) → IsValid (catalogue_text header es) (length es)
written_is_valid header es form full good all =
    let text : catalogue_text header es ≡ header_text header ++ (text_of (flat_map entry_lines es) ++ end_text (length es)) =
    append_assoc (header_text header) (entries_text header es) (end_text (length es)) ∙ ap (λ (x : List ℕ). header_text header ++ (x ++ end_text (length es))) (entries_full header es full) in
    record {
      header = header;
      es = es;
      rest = end_text (length es);
      checked = checked (catalogue_text header es) header es (end_text (length es)) text form full good (λ x. inr refl);
      ends = record { text = refl; all = all };
      count_is = refl;
    }
