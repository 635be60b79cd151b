-- What `outer` writes is a valid outer text, and a valid one passes, in the words of `check outer`.
use Rattle.std.proofs.Common.{◌≡◌, ◌≤◌, ◌∙◌, ℕ, false, List, length, sym, ap, subst, inl, inr, arith}
use Rattle.std.specs.Prelude.{Option, Some}
use Rattle.heesch_grid.specs.declared.Cell.{Cell}
use Rattle.heesch_grid.specs.declared.GridName.{GridName}
use Rattle.heesch_grid.specs.Names.{geometry_of}
use Rattle.heesch_cert.specs.declared.header.Subject.{Subject}
use Rattle.heesch_cert.specs.declared.header.Subject.TheVariants.{Size, Given}
use Rattle.heesch_cert.specs.declared.limits.Limits.{Limits}
use Rattle.heesch_cert.specs.Limits.{AreLimits}
use Rattle.heesch_check.specs.declared.answers.Checked.TheVariants as answers
use Rattle.heesch_outer.specs.Outers.{IsOuters}
use Rattle.heesch_outer_check.specs.Answers.{IsOutersChecked, IsValidOuters}
use Rattle.heesch_outer_check.proofs.OneAnswer.{one_answer}
use Rattle.heesch_outer_check.proofs.Written.{written_is_valid}
use Rattle.heesch_outer_check.proofs.Records.{readable, texts_determine}
use Rattle.heesch_words.specs.declared.requests.Request.TheVariants.{CheckOuter as CheckOuterRequest, Outer as OuterRequest}
use Rattle.heesch_words.specs.Requests.{Asks}
use Rattle.heesch_app.specs.declared.status.Status.{Status}
use Rattle.heesch_app.specs.declared.status.Status.TheVariants.{Done, BadInput}
use Rattle.heesch_app.specs.Checks.{check_status}
use Rattle.heesch_app.specs.Outputs.{IsAnswer, IsOutput, Writes, WritesValidOuters, header_of}
use Rattle.heesch_app.proofs.Endings.{asked_output}
use Rattle.heesch_app.proofs.OuterRecords.{AreAsked, records_good}
use Rattle.heesch_app.proofs.Ranges.{asked_in_range}
use Rattle.heesch_app.proofs.ValidOutputs.{few_given}

-- ---- what was written is valid

of_shapes : (grid : GridName) (subject : Subject) (limits : Limits) (shapes : List (List Cell)) (text : List ℕ) → AreLimits limits → AreAsked grid subject shapes → IsOuters (geometry_of grid) limits shapes text
    → (count : ℕ) × IsValidOuters (header_of grid subject limits false) text count
of_shapes grid subject limits shapes text range asked (es, are, read, is) =
    let header = header_of grid subject limits false in
    let (good, all) = records_good header shapes asked es are read in
    (length es, subst (λ t. IsValidOuters header t (length es)) (sym is) (written_is_valid header range es good all))

limits_asked : (words : List (List ℕ)) (grid : GridName) (subject : Subject) (limits : Limits) (workers : ℕ) → Asks words (OuterRequest grid subject limits workers) → AreLimits limits
limits_asked words grid (Size n) limits workers asks = (asked_in_range words (OuterRequest grid (Size n) limits workers) asks).1
limits_asked words grid Given limits workers asks = (asked_in_range words (OuterRequest grid Given limits workers) asks).1

output_valid : (grid : GridName) (subject : Subject) (limits : Limits) (workers : ℕ) (left : Option (List ℕ)) (text : List ℕ) → AreLimits limits → IsOutput (OuterRequest grid subject limits workers) left Done text
    → (count : ℕ) × IsValidOuters (header_of grid subject limits false) text count
output_valid grid (Size n) limits workers left text range (_, (shapes, free, is)) = of_shapes grid (Size n) limits shapes text range free is
output_valid grid Given limits workers left text range (input, all, inl (_, (shapes, given, is))) =
    let few = few_given (geometry_of grid) given.given shapes given.canonical in
    of_shapes grid Given limits shapes text range (omega (arith, few, given.listed.most)) is
output_valid grid Given limits workers left text range (input, all, inr (bad, told)) = absurd (let no : Done ≡ BadInput = bad in cc)

-- where the words ask for an outer text, what was written is valid
pub writes_valid_outers : (words : List (List ℕ)) (left old new : Option (List ℕ)) (grid : GridName) (subject : Subject) (limits : Limits) (workers : ℕ) → Asks words (OuterRequest grid subject limits workers)
    → Writes words left Done old new → WritesValidOuters (header_of grid subject limits false) old new
writes_valid_outers words left old new grid subject limits workers asks (text, is, appends) =
    let request = OuterRequest grid subject limits workers in
    let valid = output_valid grid subject limits workers left text (limits_asked words grid subject limits workers asks) (asked_output words request left Done text asks is) in
    (text, valid.0, valid.1, appends)

-- ---- what is valid passes

-- of a valid outer text that is no longer than is read, `check outer` says nothing but that it is valid
pub valid_outers_are_done : (words : List (List ℕ)) (input : List ℕ) (status : Status) (text : List ℕ) (grid : GridName) (subject : Subject) (limits : Limits) (workers count : ℕ)
    → Asks words (CheckOuterRequest grid subject limits workers) → length input ≤ 1099511627776 → IsValidOuters (header_of grid subject limits false) input count → IsAnswer words (Some input) status text → status ≡ Done
valid_outers_are_done words input status text grid subject limits workers count asks short valid is = by_answer (asked_output words (CheckOuterRequest grid subject limits workers) (Some input) status text asks is)
  where
    by_answer : IsOutput (CheckOuterRequest grid subject limits workers) (Some input) status text → status ≡ Done
    by_answer (read, all, (checked, is, status_is, text_is)) =
        let header = header_of grid subject limits false in
        let one : checked ≡ answers.Valid count = one_answer texts_determine readable header input checked (answers.Valid count) (subst (λ bytes. IsOutersChecked header bytes checked) all is) (short, valid) in
        status_is ∙ ap check_status one
