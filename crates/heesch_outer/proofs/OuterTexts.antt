-- The texts of outer entries, as an outer text.
use Rattle.std.proofs.Common.{◌≡◌, ℕ, List, [], ◌++◌, length, take, sym, ap, ◌∙◌}
use Rattle.std.specs.Prelude.{◌==◌, if◌then◌else◌, All}
use Rattle.std.proofs.lemmas.List.{length-map}
use Rattle.std.proofs.lemmas.List.Elements.{All-take}
use Rattle.heesch_grid.specs.declared.Cell.{Cell}
use Rattle.heesch_grid.specs.Geometry.{Geometry, IsGrid}
use Rattle.heesch_grid.specs.Polyform.{IsCanonicalListOf}
use Rattle.heesch_cert.specs.declared.limits.Limits.{Limits}
use Rattle.heesch_cert.specs.Limits.{AreLimits}
use Rattle.heesch_text.specs.Catalogue.{end_text}
use Rattle.heesch_catalogue.specs.Rounds.{AreTexts, IsBegunText, IsItemText, IsOfSize, IsWholeText}
use Rattle.heesch_catalogue.proofs.CatalogueTexts.{as_many}
use Rattle.heesch_catalogue.proofs.EntryLists.{free_are_canonical}
use Rattle.heesch_catalogue.proofs.ItemTexts.{items_of_texts}
use Rattle.heesch_outer.specs.declared.answers.OuterEntry.{OuterEntry}
use Rattle.heesch_outer.specs.Answers.{IsOuterEntryOf, IsRecord, RecordHasNaturals}
use Rattle.heesch_outer.specs.Outers.{AreOuterEntries, IsBegunOuters, IsBegunOutersOfSize, IsOuters, IsOutersOfSize, entries_in, record_text, records_text}
use Rattle.heesch_outer.proofs.OuterLists.{outers_of_shapes}
use Rattle.heesch_outer.proofs.OuterReadable.{HaveOuterNaturals, outers_readable}

module _ (g : Geometry) (law : IsGrid g) (limits : Limits) (valid : AreLimits limits) where
  abbrev IsOuter : Geometry → List Cell → OuterEntry → Type 0
  IsOuter = λ g shape e. IsOuterEntryOf g limits shape e

  -- texts of canonical shapes are the records of outer entries of these
  outers_of_texts : (shapes : List (List Cell)) (texts : List ℕ) → All (λ s. IsCanonicalListOf g s s) shapes → AreTexts (IsItemText (IsOuter g) IsRecord) shapes texts
      → (es : List OuterEntry) × AreOuterEntries g limits shapes es × HaveOuterNaturals es × (texts ≡ records_text es) × (length es ≡ length shapes)
  outers_of_texts shapes texts canonical are =
      let (es, zip, naturals, same) = items_of_texts (IsOuterEntryOf g limits) record_text RecordHasNaturals shapes texts are in
      let are_outers : AreOuterEntries g limits shapes es = outers_of_shapes g limits shapes es zip canonical in
      (es, are_outers, naturals, same, sym (length-map es (λ (e : OuterEntry). e.entry)) ∙ as_many g limits shapes (entries_in es) are_outers.entries)

  pub whole_is_outers : (shapes : List (List Cell)) (output : List ℕ) → All (λ s. IsCanonicalListOf g s s) shapes → IsWholeText [] IsOuter IsRecord g shapes output → IsOuters g limits shapes output
  whole_is_outers shapes output canonical (texts, are, is) =
      let (es, are_outers, naturals, same, many) = outers_of_texts shapes texts canonical are in
      (es, are_outers, outers_readable g law limits shapes es valid are_outers naturals, is ∙ ap (λ t. t ++ end_text (length shapes)) same ∙ ap (λ n. records_text es ++ end_text n) (sym many))

  pub begun_is_outers : (shapes : List (List Cell)) (output : List ℕ) → All (λ s. IsCanonicalListOf g s s) shapes → IsBegunText [] IsOuter IsRecord g shapes output → IsBegunOuters g limits shapes output
  begun_is_outers shapes output canonical (count, texts, are, is) =
      let some : List (List Cell) = take count shapes in
      let (es, are_outers, naturals, same, many) = outers_of_texts some texts (All-take (λ s. IsCanonicalListOf g s s) count shapes canonical) are in
      let end : List ℕ = if length some == length shapes then end_text (length shapes) else [] in (
        count,
        es,
        are_outers,
        is ∙ ap (λ t. t ++ end) same ∙ ap (λ n. records_text es ++ (if n == length shapes then end_text (length shapes) else [])) (sym many),
      )

  -- the same of the free list of a size
  pub whole_of_size : (n : ℕ) (output : List ℕ) → IsOfSize (IsWholeText [] IsOuter IsRecord) g n output → IsOutersOfSize g limits n output
  whole_of_size n output (shapes, free, is) = (shapes, free, whole_is_outers shapes output (free_are_canonical g law n shapes free.only) is)

  pub begun_of_size : (n : ℕ) (output : List ℕ) → IsOfSize (IsBegunText [] IsOuter IsRecord) g n output → IsBegunOutersOfSize g limits n output
  begun_of_size n output (shapes, free, is) = (shapes, free, begun_is_outers shapes output (free_are_canonical g law n shapes free.only) is)
