-- A record that was read, and that it is the only one.
use Rattle.std.proofs.Common.{◌≡◌, ℕ, ◌<◌, ◌^◌, false, List, ◌++◌, refl, sym, ap, subst, ◌∙◌, arith}
use Rattle.std.specs.List.{AllByRecursion}
use Rattle.heesch_cert.specs.declared.entry.Entry.{Entry}
use Rattle.heesch_cert.specs.declared.verdict.Verdict.{Verdict}
use Rattle.heesch_cert.specs.declared.verdict.Verdict.TheVariants.{Tiles, Heesch, Levels, Holes, Turns, Size}
use Rattle.heesch_cert.specs.TrueEntry.{first_number}
use Rattle.heesch_text.specs.declared.line.Line.{Line}
use Rattle.heesch_text.specs.Catalogue.{entry_lines}
use Rattle.heesch_text.specs.Lines.{text_of}
use Rattle.heesch_line.specs.Forms.{IsLine, IsVerdict}
use Rattle.heesch_grammar.specs.Entries.{LeadOver}
use Rattle.heesch_grammar.specs.Statements.{start}
use Rattle.heesch_grammar.proofs.Again.{same_entry}
use Rattle.heesch_grammar.proofs.Truth.{may_stand}
use Rattle.heesch_outer.specs.Outers.{record_text}
use Rattle.heesch_outer.specs.Record.{answer_text}
use Rattle.heesch_outer.specs.declared.answer.OuterAnswer.{OuterAnswer}
use Rattle.heesch_outer.specs.declared.answers.OuterEntry.{OuterEntry}
use Rattle.heesch_outer_check.specs.Lines.{AreFrontLines}
use Rattle.heesch_outer_check.specs.ReadableRecords.{IsAnswerOf, IsEntryOf, IsReadableRecord}
use Rattle.heesch_outer_check.specs.RecordStatements.{TextsDetermineRecords, TrueRecordsAreReadable}
use Rattle.heesch_outer_check.proofs.Answers.{one_answer}
use Rattle.heesch_outer_check.proofs.Fronts.{one_front}
use Rattle.heesch_outer_check.proofs.Words.{answer_begins_none}

abbrev number_of : Entry → ℕ
number_of e = first_number e.verdict

abbrev pub made : Entry → OuterAnswer → OuterEntry
made entry answer = record { entry = entry; answer = answer }

-- ---- what was read

module _ (bytes rest : List ℕ) (ls : List Line) (front : AreFrontLines bytes ls rest) where
  -- the lines at the front are the entry's, and the rest is the answer's text
  front_is : (e : OuterEntry) → IsReadableRecord e → bytes ≡ record_text e → (ls ≡ entry_lines e.entry) × (rest ≡ answer_text (number_of e.entry) e.answer)
  front_is e r same =
      one_front ls (entry_lines e.entry) rest (answer_text (number_of e.entry) e.answer) front.forms r.entry_forms front.no_more (answer_begins_none (number_of e.entry) e.answer) (sym front.text ∙ same)

  pub no_entry : (LeadOver false start ls → ⊥) → (e : OuterEntry) → IsReadableRecord e → bytes ≡ record_text e → ⊥
  no_entry none e r same = none (subst (λ (x : List Line). LeadOver false start x) (sym (front_is e r same).0) r.may_stand)

  pub no_answer : (entry : Entry) → IsEntryOf ls entry → ((answer : OuterAnswer) → IsAnswerOf (number_of entry) rest answer → ⊥) → (e : OuterEntry) → IsReadableRecord e → bytes ≡ record_text e → ⊥
  no_answer entry is none e r same =
      let f = front_is e r same in
      let one : e.entry ≡ entry = same_entry e.entry entry r.holds is.holds (sym f.0 ∙ is.lines) in
      none e.answer (f.1 ∙ ap (λ (x : Entry). answer_text (number_of x) e.answer) one, r.answer_forms)

  pub is_read : (entry : Entry) (answer : OuterAnswer) → IsEntryOf ls entry → IsAnswerOf (number_of entry) rest answer → (bytes ≡ record_text (made entry answer)) × IsReadableRecord (made entry answer)
  is_read entry answer is told = (
    front.text ∙ ap (λ (x : List Line). text_of x ++ rest) is.lines ∙ ap (λ (x : List ℕ). text_of (entry_lines entry) ++ x) told.0,
    record {
      entry_forms = subst (λ (x : List Line). AllByRecursion IsLine x) is.lines front.forms;
      may_stand = subst (λ (x : List Line). LeadOver false start x) is.lines is.may_stand;
      holds = is.holds;
      answer_forms = told.1;
    },
  )

-- ---- the only one

small_number : (v : Verdict) → IsVerdict v → first_number v < 2 ^ 32
small_number (Tiles kind domain classes) fits = omega arith
small_number (Heesch h m) fits = fits.0
small_number (Levels h) fits = fits
small_number (Holes h) fits = fits
small_number (Turns h phase at) fits = fits.0
small_number (Size h phase at) fits = fits.0

pub texts_determine : TextsDetermineRecords
texts_determine d e r s same =
    let parts = one_front (entry_lines d.entry) (entry_lines e.entry) (answer_text (number_of d.entry) d.answer) (answer_text (number_of e.entry) e.answer) r.entry_forms s.entry_forms
    (answer_begins_none (number_of d.entry) d.answer) (answer_begins_none (number_of e.entry) e.answer) same in
    let one : d.entry ≡ e.entry = same_entry d.entry e.entry r.holds s.holds parts.0 in
    let text : answer_text (number_of e.entry) d.answer ≡ answer_text (number_of e.entry) e.answer = ap (λ (x : Entry). answer_text (number_of x) d.answer) (sym one) ∙ parts.1 in
    let answers : d.answer ≡ e.answer = one_answer (number_of e.entry) d.answer e.answer (small_number e.entry.verdict s.entry_forms.1.0) r.answer_forms s.answer_forms text in
    ap (λ (x : Entry). made x d.answer) one ∙ ap (λ (x : OuterAnswer). made e.entry x) answers

pub readable : TrueRecordsAreReadable
readable g limits e is forms answer =
    let stands = may_stand g limits e.entry is in
    record { entry_forms = forms; may_stand = stands.full start refl (omega arith); holds = stands.holds; answer_forms = answer }
