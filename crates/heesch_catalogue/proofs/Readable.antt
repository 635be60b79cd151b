-- The lines that were written of true entries can be read.
use Rattle.std.proofs.Common.{◌≡◌, Bool, true, false, List, [], ◌∷◌, refl}
use Rattle.std.specs.Prelude.{All}
use Rattle.std.specs.List.{AllByRecursion}
use Rattle.std.proofs.ByRecursion.{All-from_get_or}
use Rattle.heesch_grid.specs.declared.Cell.{Cell}
use Rattle.heesch_grid.specs.Geometry.{Geometry, IsGrid}
use Rattle.heesch_cert.specs.declared.entry.Entry.{Entry}
use Rattle.heesch_cert.specs.declared.header.Header.{Header}
use Rattle.heesch_cert.specs.Limits.{AreLimits}
use Rattle.heesch_cert.specs.Reduced.{HasReducedCover}
use Rattle.heesch_cert.specs.TrueEntry.{IsTrueEntry}
use Rattle.heesch_line.specs.Forms.{IsLine}
use Rattle.heesch_text.specs.Naturals.{HasNaturals}
use Rattle.heesch_written.proofs.EntryLines.{entries_have_lines, entries_have_brief_lines}
use Rattle.heesch_catalogue.specs.Catalogues.{AreEntries, AreReadable, HaveNaturals, lines_under}

-- a header that is brief, or isn't
of_entry : (g : Geometry) (law : IsGrid g) (header : Header) (e : Entry) → AreLimits header.limits → IsTrueEntry g header.limits e → HasReducedCover g e.evidence
    → AllByRecursion HasNaturals (lines_under header e) → AllByRecursion IsLine (lines_under header e)
of_entry g law header e are t reduced n = by_kind header.brief refl
  where
    by_kind : (brief : Bool) → header.brief ≡ brief → AllByRecursion IsLine (lines_under header e)
    by_kind true is = rw is (entries_have_brief_lines g header.limits e law are t)
    by_kind false is = rw is (entries_have_lines g header.limits e law are t reduced (rw is at n))

of_entries : (g : Geometry) (law : IsGrid g) (header : Header) (entries : List Entry) → AreLimits header.limits → AllByRecursion (IsTrueEntry g header.limits) entries
    → AllByRecursion (λ (e : Entry). HasReducedCover g e.evidence) entries → HaveNaturals header entries → AreReadable header entries
of_entries g law header [] are t reduced n = tt
of_entries g law header (e ∷ es) are t reduced n = (of_entry g law header e are t.0 reduced.0 n.0, of_entries g law header es are t.1 reduced.1 n.1)

-- entries of shapes, whose numbers fit 32 bits
pub readable : (g : Geometry) (law : IsGrid g) (header : Header) (shapes : List (List Cell)) (entries : List Entry) → AreLimits header.limits → AreEntries g header.limits shapes entries
    → HaveNaturals header entries → AreReadable header entries
readable g law header shapes entries are of_shapes n =
    of_entries g law header entries are (by_recursion (IsTrueEntry g header.limits) entries of_shapes.are_true)
    (by_recursion (λ (e : Entry). HasReducedCover g e.evidence) entries of_shapes.are_reduced) n
  where
    by_recursion : {X : Type 0} (P : X → Type 0) (xs : List X) → All P xs → AllByRecursion P xs
    by_recursion P [] all = tt
    by_recursion P (x ∷ xs) all = All-from_get_or P (x ∷ xs) x (λ i less. all i x less)
