-- The text of the entries of a full catalogue, by their lines.
use Rattle.std.proofs.Common.{◌≡◌, false, List, [], ◌∷◌, ◌++◌, ℕ, Bool, if◌then◌else◌, refl, sym, ap, ◌∙◌}
use Rattle.std.specs.List.{flat_map}
use Rattle.std.proofs.lemmas.List.Concat.{flat_map-append}
use Rattle.heesch_cert.specs.declared.entry.Entry.{Entry}
use Rattle.heesch_cert.specs.declared.header.Header.{Header}
use Rattle.heesch_text.specs.Lines.{line_text, text_of}
use Rattle.heesch_text.specs.Catalogue.{entry_lines, entry_text, brief_text, entries_text}

pub entries_full : (header : Header) (es : List Entry) → header.brief ≡ false → entries_text header es ≡ text_of (flat_map entry_lines es)
entries_full header [] full = refl
entries_full header (e ∷ es) full =
    ap (λ (b : Bool). (if b then brief_text e else entry_text e) ++ entries_text header es) full
    ∙ ap (λ (x : List ℕ). entry_text e ++ x) (entries_full header es full)
    ∙ sym (flat_map-append line_text (entry_lines e) (flat_map entry_lines es))
