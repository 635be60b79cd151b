-- The texts of entries behind a header's text, as the text of a catalogue.
use Rattle.std.proofs.Common.{◌≡◌, ℕ, List, [], ◌++◌, length, take, sym, ap, ◌∙◌}
use Rattle.std.specs.Prelude.{◌==◌, if◌then◌else◌, All}
use Rattle.std.specs.List.{AllByRecursion}
use Rattle.std.proofs.lemmas.List.{length-map}
use Rattle.std.proofs.lemmas.List.Elements.{All-take}
use Rattle.heesch_grid.specs.declared.Cell.{Cell}
use Rattle.heesch_grid.specs.Geometry.{Geometry, IsGrid}
use Rattle.heesch_grid.specs.Polyform.{IsCanonicalListOf}
use Rattle.heesch_cert.specs.declared.entry.Entry.{Entry}
use Rattle.heesch_cert.specs.declared.header.Header.{Header}
use Rattle.heesch_cert.specs.declared.limits.Limits.{Limits}
use Rattle.heesch_cert.specs.Limits.{AreLimits}
use Rattle.heesch_text.specs.Catalogue.{end_text, entries_text, header_text, text_under}
use Rattle.heesch_text.specs.Naturals.{HasNaturals}
use Rattle.heesch_catalogue.specs.Catalogues.{AreEntries, HaveNaturals, IsBegunCatalogue, IsBegunCatalogueOfSize, IsCatalogue, IsCatalogueOfSize, lines_under}
use Rattle.heesch_catalogue.specs.Entries.{IsEntryOf, IsEntryText}
use Rattle.heesch_catalogue.specs.Rounds.{AreTexts, IsBegunText, IsItemText, IsOfSize, IsWholeText}
use Rattle.heesch_catalogue.proofs.EntryLists.{entries_of_shapes, free_are_canonical}
use Rattle.heesch_catalogue.proofs.ItemTexts.{items_of_texts}
use Rattle.heesch_catalogue.proofs.Readable.{readable}

-- as many entries as shapes
pub as_many : (g : Geometry) (limits : Limits) (shapes : List (List Cell)) (entries : List Entry) → AreEntries g limits shapes entries → length entries ≡ length shapes
as_many g limits shapes entries are = sym (length-map entries (λ (e : Entry). e.cells)) ∙ ap length are.of_shapes

module _ (g : Geometry) (law : IsGrid g) (header : Header) (limits : AreLimits header.limits) (head : List ℕ) (is_head : head ≡ header_text header) where
  abbrev IsEntry : Geometry → List Cell → Entry → Type 0
  IsEntry = λ g shape e. IsEntryOf g header.limits shape e

  abbrev IsText : Entry → List ℕ → Type 0
  IsText = λ e text. IsEntryText header.brief e text

  -- texts of canonical shapes are those of entries of these
  entries_of_texts : (shapes : List (List Cell)) (texts : List ℕ) → All (λ s. IsCanonicalListOf g s s) shapes → AreTexts (IsItemText (IsEntry g) IsText) shapes texts
      → (entries : List Entry) × AreEntries g header.limits shapes entries × HaveNaturals header entries × (texts ≡ entries_text header entries)
  entries_of_texts shapes texts canonical are =
      let (entries, zip, naturals, same) = items_of_texts (IsEntryOf g header.limits) (text_under header) (λ e. AllByRecursion HasNaturals (lines_under header e)) shapes texts are in
      (entries, entries_of_shapes g header.limits shapes entries zip canonical, naturals, same)

  pub whole_is_catalogue : (shapes : List (List Cell)) (output : List ℕ) → All (λ s. IsCanonicalListOf g s s) shapes → IsWholeText head IsEntry IsText g shapes output → IsCatalogue g header shapes output
  whole_is_catalogue shapes output canonical (texts, are, is) =
      let (entries, are_entries, naturals, same) = entries_of_texts shapes texts canonical are in
      let end : List ℕ = end_text (length shapes) in (
        entries,
        are_entries,
        readable g law header shapes entries limits are_entries naturals,
        is
            ∙ ap (λ h. h ++ texts ++ end) is_head
            ∙ ap (λ t. header_text header ++ t ++ end) same
            ∙ ap (λ n. header_text header ++ entries_text header entries ++ end_text n) (sym (as_many g header.limits shapes entries are_entries)),
      )

  pub begun_is_catalogue : (shapes : List (List Cell)) (output : List ℕ) → All (λ s. IsCanonicalListOf g s s) shapes → IsBegunText head IsEntry IsText g shapes output → IsBegunCatalogue g header shapes output
  begun_is_catalogue shapes output canonical (count, texts, are, is) =
      let some : List (List Cell) = take count shapes in
      let (entries, are_entries, naturals, same) = entries_of_texts some texts (All-take (λ s. IsCanonicalListOf g s s) count shapes canonical) are in
      let end : List ℕ = if length some == length shapes then end_text (length shapes) else [] in (
        count,
        entries,
        are_entries,
        is
            ∙ ap (λ h. h ++ texts ++ end) is_head
            ∙ ap (λ t. header_text header ++ t ++ end) same
            ∙ ap (λ n. header_text header ++ entries_text header entries ++ (if n == length shapes then end_text (length shapes) else [])) (sym (as_many g header.limits some entries are_entries)),
      )

  -- the same of the free list of a size
  pub whole_of_size : (n : ℕ) (output : List ℕ) → IsOfSize (IsWholeText head IsEntry IsText) g n output → IsCatalogueOfSize g header n output
  whole_of_size n output (shapes, free, is) = (shapes, free, whole_is_catalogue shapes output (free_are_canonical g law n shapes free.only) is)

  pub begun_of_size : (n : ℕ) (output : List ℕ) → IsOfSize (IsBegunText head IsEntry IsText) g n output → IsBegunCatalogueOfSize g header n output
  begun_of_size n output (shapes, free, is) = (shapes, free, begun_is_catalogue shapes output (free_are_canonical g law n shapes free.only) is)
