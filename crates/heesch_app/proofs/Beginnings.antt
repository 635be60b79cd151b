-- A whole output is a beginning of it.
use Rattle.std.proofs.Common.{◌≡◌, ℕ, List, length, refl, sym, ap, ◌∙◌, subst, arith, inl, inr}
use Rattle.std.specs.Prelude.{Option, false}
use Rattle.std.proofs.lemmas.Bool.{eq-eqb}
use Rattle.std.proofs.lemmas.List.{take_all, length-map}
use Rattle.heesch_cert.specs.declared.entry.Entry.{Entry}
use Rattle.heesch_cert.specs.declared.header.Header.{Header}
use Rattle.heesch_cert.specs.declared.header.Subject.TheVariants.{Size, Given}
use Rattle.heesch_cert.specs.declared.limits.Limits.{Limits}
use Rattle.heesch_grid.specs.declared.Cell.{Cell}
use Rattle.heesch_grid.specs.Geometry.{Geometry}
use Rattle.heesch_grid.specs.Names.{geometry_of}
use Rattle.heesch_text.specs.Catalogue.{catalogue_text, begun_text}
use Rattle.heesch_words.specs.declared.requests.Request.{Request}
use Rattle.heesch_words.specs.declared.requests.Request.TheVariants.{List as ListRequest, Plain as PlainRequest, Classify as ClassifyRequest, Check as CheckRequest, CheckOuter as CheckOuterRequest, Table as TableRequest, Sample as SampleRequest, Formula as FormulaRequest, Answer as AnswerRequest, Share as ShareRequest, Join as JoinRequest, Outer as OuterRequest}
use Rattle.heesch_catalogue.specs.Catalogues.{AreEntries, IsCatalogue, IsBegunCatalogue}
use Rattle.heesch_outer.specs.declared.answers.OuterEntry.{OuterEntry}
use Rattle.heesch_outer.specs.Outers.{AreOuterEntries, IsOuters, IsBegunOuters, begun_outers_text, entries_in, outers_text}
use Rattle.heesch_parts.specs.Written.{shapes_of_share}
use Rattle.heesch_app.specs.declared.status.Status.{Status}
use Rattle.heesch_app.specs.Outputs.{IsOutput, IsBegunOutput, IsGivenAnswer, IsBegunGivenAnswer, header_of}

-- the text of all entries is that of the first ones where these are all
whole_text : (header : Header) (shapes : List (List Cell)) (entries : List Entry) → length entries ≡ length shapes → catalogue_text header entries ≡ begun_text header (length shapes) entries
whole_text header shapes entries many = rw (many, eq-eqb (length shapes) (length shapes) refl) refl

begun_whole : (g : Geometry) (header : Header) (shapes : List (List Cell)) (output : List ℕ) → IsCatalogue g header shapes output → IsBegunCatalogue g header shapes output
begun_whole g header shapes output (entries, are, readable, is) =
    let many : length entries ≡ length shapes = sym (length-map entries (λ (e : Entry). e.cells)) ∙ ap length are.of_shapes in
    (length shapes, entries, subst (λ ss. AreEntries g header.limits ss entries) (sym (take_all (length shapes) shapes (omega arith))) are, is ∙ whole_text header shapes entries many)

begun_outers : (g : Geometry) (limits : Limits) (shapes : List (List Cell)) (output : List ℕ) → IsOuters g limits shapes output → IsBegunOuters g limits shapes output
begun_outers g limits shapes output (es, are, readable, is) =
    let many : length es ≡ length shapes =
    sym (length-map es (λ (e : OuterEntry). e.entry)) ∙ sym (length-map (entries_in es) (λ (e : Entry). e.cells)) ∙ ap length are.entries.of_shapes
    in
    let same : outers_text es ≡ begun_outers_text (length shapes) es = rw (many, eq-eqb (length shapes) (length shapes) refl) refl in
    (length shapes, es, subst (λ ss. AreOuterEntries g limits ss es) (sym (take_all (length shapes) shapes (omega arith))) are, is ∙ same)

begun_given : (g : Geometry) (One Part : List (List Cell) → List ℕ → Type 0) (status : Status) (output input : List ℕ) → ((shapes : List (List Cell)) → One shapes output → Part shapes output)
    → IsGivenAnswer g One status output input → IsBegunGivenAnswer g Part output input
begun_given g One Part status output input begins (inl (_, (shapes, given, is))) = inl (shapes, given, begins shapes is)
begun_given g One Part status output input begins (inr (_, told)) = inr told

-- what is asked for is a beginning of itself
pub begins_itself : (request : Request) (left : Option (List ℕ)) (status : Status) (output : List ℕ) → IsOutput request left status output → IsBegunOutput request left output
begins_itself (ClassifyRequest grid (Size n) limits workers brief) left status output (_, (shapes, free, is)) =
    (shapes, free, begun_whole (geometry_of grid) (header_of grid (Size n) limits brief) shapes output is)
begins_itself (ClassifyRequest grid Given limits workers brief) left status output (input, all, is) =
    let g = geometry_of grid in
    let header = header_of grid Given limits brief in
    (input, all, begun_given g (IsCatalogue g header) (IsBegunCatalogue g header) status output input (λ shapes whole. begun_whole g header shapes output whole) is)
begins_itself (ListRequest grid n workers) left status output is = (status, is)
begins_itself (PlainRequest grid n workers) left status output is = (status, is)
begins_itself (CheckRequest workers) left status output is = (status, is)
begins_itself (CheckOuterRequest grid subject limits workers) left status output is = (status, is)
begins_itself TableRequest left status output is = (status, is)
begins_itself (SampleRequest grid n count seed limits workers) left status output is = (status, is)
begins_itself (FormulaRequest grid level size version) left status output is = (status, is)
begins_itself (AnswerRequest grid level size version) left status output is = (status, is)
begins_itself (ShareRequest grid n i k limits workers) left status output (_, (shapes, free, few, (catalogue, is, same))) =
    (shapes, free, (catalogue, begun_whole (geometry_of grid) (header_of grid (Size n) limits false) (shapes_of_share i k shapes) catalogue is, same))
begins_itself JoinRequest left status output is = (status, is)
begins_itself (OuterRequest grid (Size n) limits workers) left status output (_, (shapes, free, is)) = (shapes, free, begun_outers (geometry_of grid) limits shapes output is)
begins_itself (OuterRequest grid Given limits workers) left status output (input, all, is) =
    let g = geometry_of grid in
    (input, all, begun_given g (IsOuters g limits) (IsBegunOuters g limits) status output input (λ shapes whole. begun_outers g limits shapes output whole) is)
