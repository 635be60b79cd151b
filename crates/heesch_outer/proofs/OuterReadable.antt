-- The lines of the entries of an outer text can be read.
use Rattle.std.proofs.Common.{List, [], ◌∷◌, false}
use Rattle.std.specs.List.{AllByRecursion}
use Rattle.std.proofs.lemmas.List.Elements.{recursion_from_All}
use Rattle.heesch_grid.specs.declared.Cell.{Cell}
use Rattle.heesch_grid.specs.declared.GridName.TheVariants.{Square}
use Rattle.heesch_grid.specs.Geometry.{Geometry, IsGrid}
use Rattle.heesch_cert.specs.declared.entry.Entry.{Entry}
use Rattle.heesch_cert.specs.declared.header.Header.{Header}
use Rattle.heesch_cert.specs.declared.header.Subject.TheVariants.{Given}
use Rattle.heesch_cert.specs.declared.limits.Limits.{Limits}
use Rattle.heesch_cert.specs.Limits.{AreLimits}
use Rattle.heesch_cert.specs.TrueEntry.{IsTrueEntry}
use Rattle.heesch_line.specs.Forms.{IsLine}
use Rattle.heesch_text.specs.Catalogue.{entry_lines}
use Rattle.heesch_text.specs.Naturals.{HasNaturals}
use Rattle.heesch_catalogue.proofs.Readable.{readable}
use Rattle.heesch_outer.specs.declared.answers.OuterEntry.{OuterEntry}
use Rattle.heesch_outer.specs.Answers.{RecordHasNaturals}
use Rattle.heesch_outer.specs.Outers.{AreOuterEntries, AreReadable, HasOuterAnswer, entries_in}
use Rattle.heesch_outer.proofs.AnswerLines.{answer_has_lines}

-- the natural numbers of the lines of the entries and of their answers fit 32 bits
abbrev pub HaveOuterNaturals : List OuterEntry → Type 0
HaveOuterNaturals es = AllByRecursion RecordHasNaturals es

entry_naturals : (es : List OuterEntry) → HaveOuterNaturals es → AllByRecursion (λ (e : OuterEntry). AllByRecursion HasNaturals (entry_lines e.entry)) es
entry_naturals [] naturals = tt
entry_naturals (e ∷ es) naturals = (naturals.0.0, entry_naturals es naturals.1)

to_entries : (P : Entry → Type 0) (es : List OuterEntry) → AllByRecursion (λ (e : OuterEntry). P e.entry) es → AllByRecursion P (entries_in es)
to_entries P [] all = tt
to_entries P (e ∷ es) all = (all.0, to_entries P es all.1)

from_entries : (P : Entry → Type 0) (es : List OuterEntry) → AllByRecursion P (entries_in es) → AllByRecursion (λ (e : OuterEntry). P e.entry) es
from_entries P [] all = tt
from_entries P (e ∷ es) all = (all.0, from_entries P es all.1)

-- the answers of true entries
answers_readable : (g : Geometry) (law : IsGrid g) (limits : Limits) → AreLimits limits → (es : List OuterEntry) → AllByRecursion (λ (e : OuterEntry). IsTrueEntry g limits e.entry) es → AllByRecursion (HasOuterAnswer g limits) es
    → HaveOuterNaturals es → AllByRecursion (λ (e : OuterEntry). AllByRecursion IsLine (entry_lines e.entry)) es → AreReadable es
answers_readable g law limits are [] true answers naturals forms = tt
answers_readable g law limits are (e ∷ es) true answers naturals forms = (
  (forms.0, answer_has_lines g law limits are e true.0 answers.0.is_answer naturals.0.1),
  answers_readable g law limits are es true.1 answers.1 naturals.1 forms.1,
)

-- as those of a full catalogue under a header with these limits can
pub outers_readable : (g : Geometry) (law : IsGrid g) (limits : Limits) (shapes : List (List Cell)) (es : List OuterEntry) → AreLimits limits → AreOuterEntries g limits shapes es
    → HaveOuterNaturals es → AreReadable es
outers_readable g law limits shapes es are of_shapes naturals =
    let header : Header = record { brief = false; grid = Square; subject = Given; limits = limits } in
    let forms =
    from_entries (λ e. AllByRecursion IsLine (entry_lines e)) es
    (readable g law header shapes (entries_in es) are of_shapes.entries (to_entries (λ e. AllByRecursion HasNaturals (entry_lines e)) es (entry_naturals es naturals)))
    in
    answers_readable g law limits are es (from_entries (IsTrueEntry g limits) es (recursion_from_All (IsTrueEntry g limits) (entries_in es) of_shapes.entries.are_true))
    (recursion_from_All (HasOuterAnswer g limits) es of_shapes.answers) naturals forms
