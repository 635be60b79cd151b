-- What `classify` writes is a valid catalogue, in the words of `check`.
use Rattle.std.proofs.Common.{◌≡◌, ℕ, suc, ◌+◌, ◌≤◌, ◌<◌, false, List, [], ◌∷◌, ◌++◌, length, map, length-append, refl, sym, ap, ◌∙◌, subst, arith, inl, inr, append_assoc}
use Rattle.std.specs.Prelude.{Option, Some, slice_get, All}
use Rattle.std.specs.List.{AllByRecursion, AllZip}
use Rattle.std.proofs.lemmas.List.{length-map}
use Rattle.std.proofs.ByRecursion.{All-from_get_or}
use Rattle.heesch_grid.specs.declared.Cell.{Cell}
use Rattle.heesch_grid.specs.declared.GridName.{GridName}
use Rattle.heesch_grid.specs.Geometry.{Geometry}
use Rattle.heesch_grid.specs.Names.{geometry_of}
use Rattle.heesch_grid.specs.Polyform.{IsFreeList}
use Rattle.heesch_cert.specs.declared.entry.Entry.{Entry}
use Rattle.heesch_cert.specs.declared.header.Subject.{Subject}
use Rattle.heesch_cert.specs.declared.header.Subject.TheVariants.{Size, Given}
use Rattle.heesch_cert.specs.declared.limits.Limits.{Limits}
use Rattle.heesch_cert.specs.TrueEntry.{IsTrueEntry}
use Rattle.heesch_line.specs.Forms.{IsLine}
use Rattle.heesch_text.specs.declared.line.Line.TheVariants as lines
use Rattle.heesch_words.specs.declared.requests.Request.TheVariants.{Classify as ClassifyRequest, Check as CheckRequest, Table as TableRequest, Join as JoinRequest}
use Rattle.heesch_words.specs.Requests.{Asks}
use Rattle.heesch_words.proofs.Ranges.{asked_in_range}
use Rattle.heesch_catalogue.specs.Catalogues.{AreReadable, IsCatalogue}
use Rattle.heesch_parts.specs.AllShares.{AreAllShares, together}
use Rattle.heesch_parts.specs.Joined.{IsJoined}
use Rattle.heesch_parts.proofs.AllShares.{joined_are_catalogues}
use Rattle.heesch_check.specs.declared.answers.Checked.{Checked}
use Rattle.heesch_check.specs.declared.answers.Checked.TheVariants as answers
use Rattle.heesch_table.specs.declared.answers.Tabulated.{Tabulated}
use Rattle.heesch_table.specs.declared.answers.Tabulated.TheVariants as told
use Rattle.heesch_table.specs.Tabulating.{IsTallied, IsTabulated}
use Rattle.heesch_table.proofs.OneTabulation.{apart}
use Rattle.heesch_check.specs.Answers.{IsValid, IsChecked}
use Rattle.heesch_check.specs.Judging.{AreGood}
use Rattle.heesch_check.proofs.Written.{written_is_valid}
use Rattle.heesch_check.proofs.OneAnswer.{one_answer, short_decided}
use Rattle.heesch_app.specs.declared.status.Status.{Status}
use Rattle.heesch_app.specs.declared.status.Status.TheVariants.{Done, Invalid, BadInput}
use Rattle.heesch_app.specs.Checks.{check_status}
use Rattle.heesch_app.specs.Tables.{table_status}
use Rattle.heesch_given.specs.Given.{AreGiven, IsCanonicalOf}
use Rattle.heesch_reader.specs.Taking.{input_max}
use Rattle.heesch_app.specs.Outputs.{IsOutput, IsAnswer, header_of, Writes, WritesValid}
use Rattle.heesch_app.proofs.Endings.{asked_output}

-- ---- the entries are good, each in its place

get_behind : {X : Type 0} (xs ys : List X) (y : X) → slice_get (xs ++ y ∷ ys) (length xs) ≡ Some y
get_behind [] ys y = refl
get_behind (x ∷ xs) ys y = get_behind xs ys y

as_listed : {X : Type 0} (P : X → Type 0) (xs : List X) → All P xs → AllByRecursion P xs
as_listed P [] all = tt
as_listed P (x ∷ xs) all = All-from_get_or P (x ∷ xs) x (λ i less. all i x less)

cells_of : List Entry → List (List Cell)
cells_of es = map (λ (e : Entry). e.cells) es

sized : (grid : GridName) (n : ℕ) (limits : Limits) (shapes before : List (List Cell)) (es : List Entry) → IsFreeList (geometry_of grid) n shapes → before ++ cells_of es ≡ shapes
    → AllByRecursion (IsTrueEntry (geometry_of grid) limits) es → AreReadable (header_of grid (Size n) limits false) es → AreGood (header_of grid (Size n) limits false) (length before) es
unfolding cells_of
sized grid n limits shapes before [] free all true_ones read = tt
sized grid n limits shapes before (e ∷ es) free all true_ones read =
    let here : slice_get shapes (length before) ≡ Some e.cells = subst (λ ss. slice_get ss (length before) ≡ Some e.cells) all (get_behind before (cells_of es) e.cells) in
    let longer : length (before ++ e.cells ∷ []) ≡ length before + 1 = length_push before e.cells in
    let further : (before ++ e.cells ∷ []) ++ cells_of es ≡ shapes = append_assoc before (e.cells ∷ []) (cells_of es) ∙ all in (
      record { is_true = true_ones.0; in_place = (shapes, free, here); forms = read.0 },
      subst (λ k. AreGood (header_of grid (Size n) limits false) k es) longer (sized grid n limits shapes (before ++ e.cells ∷ []) es free further true_ones.1 read.1),
    )
  where
    length_push : {X : Type 0} (xs : List X) (x : X) → length (xs ++ x ∷ []) ≡ length xs + 1
    length_push [] x = refl
    length_push (y ∷ xs) x = omega (arith, length_push xs x)

any_given : (grid : GridName) (limits : Limits) (before : ℕ) (es : List Entry) → before + length es ≤ 10000
    → AllByRecursion (IsTrueEntry (geometry_of grid) limits) es → AreReadable (header_of grid Given limits false) es → AreGood (header_of grid Given limits false) before es
any_given grid limits before [] few true_ones read = tt
any_given grid limits before (e ∷ es) few true_ones read = (
  record { is_true = true_ones.0; in_place = omega (arith, few); forms = read.0 },
  any_given grid limits (before + 1) es (omega (arith, few)) true_ones.1 read.1,
)

-- ---- what was written is valid

size_valid : (grid : GridName) (n : ℕ) (limits : Limits) (shapes : List (List Cell)) (text : List ℕ) → IsLine (lines.Header (header_of grid (Size n) limits false)) → IsFreeList (geometry_of grid) n shapes
    → IsCatalogue (geometry_of grid) (header_of grid (Size n) limits false) shapes text → (count : ℕ) × IsValid text count
unfolding cells_of
size_valid grid n limits shapes text form free (es, are, read, is) =
    let header = header_of grid (Size n) limits false in
    let many : length es ≡ length shapes = sym (length-map es (λ (e : Entry). e.cells)) ∙ ap length are.of_shapes in
    let good = sized grid n limits shapes [] es free are.of_shapes (as_listed (IsTrueEntry (geometry_of grid) limits) es are.are_true) read in
    (length es, subst (λ t. IsValid t (length es)) (sym is) (written_is_valid header es form refl good (shapes, free, many)))

pub few_given : (g : Geometry) (given shapes : List (List Cell)) → AllZip (IsCanonicalOf g) given shapes → length shapes ≡ length given
few_given g [] [] all = refl
few_given g (c ∷ given) (s ∷ shapes) all = ap suc (few_given g given shapes all.1)
few_given g [] (s ∷ shapes) all = absurd all
few_given g (c ∷ given) [] all = absurd all

given_valid : (grid : GridName) (limits : Limits) (input : List ℕ) (shapes : List (List Cell)) (text : List ℕ) → IsLine (lines.Header (header_of grid Given limits false)) → AreGiven input_max (geometry_of grid) input shapes
    → IsCatalogue (geometry_of grid) (header_of grid Given limits false) shapes text → (count : ℕ) × IsValid text count
given_valid grid limits input shapes text form given (es, are, read, is) =
    let header = header_of grid Given limits false in
    let many : length es ≡ length shapes = sym (length-map es (λ (e : Entry). e.cells)) ∙ ap length are.of_shapes in
    let few = few_given (geometry_of grid) given.given shapes given.canonical in
    let good = any_given grid limits 0 es (omega (arith, many, few, given.listed.most)) (as_listed (IsTrueEntry (geometry_of grid) limits) es are.are_true) read in
    (length es, subst (λ t. IsValid t (length es)) (sym is) (written_is_valid header es form refl good tt))

header_in_range : (words : List (List ℕ)) (grid : GridName) (subject : Subject) (limits : Limits) (workers : ℕ) → Asks words (ClassifyRequest grid subject limits workers false) → IsLine (lines.Header (header_of grid subject limits false))
header_in_range words grid (Size n) limits workers asks = let r = asked_in_range words (ClassifyRequest grid (Size n) limits workers false) asks in (r.0, r.1)
header_in_range words grid Given limits workers asks = let r = asked_in_range words (ClassifyRequest grid Given limits workers false) asks in (r.0, r.1)

answer_valid : (words : List (List ℕ)) (left : Option (List ℕ)) (text : List ℕ) (grid : GridName) (subject : Subject) (limits : Limits) (workers : ℕ) → Asks words (ClassifyRequest grid subject limits workers false)
    → IsOutput (ClassifyRequest grid subject limits workers false) left Done text → (count : ℕ) × IsValid text count
answer_valid words left text grid (Size n) limits workers asks (_, (shapes, free, is)) = size_valid grid n limits shapes text (header_in_range words grid (Size n) limits workers asks) free is
answer_valid words left text grid Given limits workers asks (input, all, inl (_, (shapes, given, is))) = given_valid grid limits input shapes text (header_in_range words grid Given limits workers asks) given is
answer_valid words left text grid Given limits workers asks (input, all, inr (is, _)) = absurd cc

-- where the words ask for a full catalogue, what was written is valid
pub writes_valid : (words : List (List ℕ)) (left old new : Option (List ℕ)) (grid : GridName) (subject : Subject) (workers : ℕ) (limits : Limits)
    → Asks words (ClassifyRequest grid subject limits workers false) → Writes words left Done old new → WritesValid old new
writes_valid words left old new grid subject workers limits asks (text, is, appends) =
    let valid = answer_valid words left text grid subject limits workers asks (asked_output words (ClassifyRequest grid subject limits workers false) left Done text asks is) in
    (text, valid.0, valid.1, appends)

-- ---- what the outputs of all shares are joined to is valid

joined_valid : (grid : GridName) (n : ℕ) (limits : Limits) (outputs : List (List ℕ)) (text : List ℕ) → AreAllShares (geometry_of grid) (header_of grid (Size n) limits false) n outputs → IsJoined (together outputs) text
    → (count : ℕ) × IsValid text count
joined_valid grid n limits outputs text all joined =
    let (shapes, free, is) = joined_are_catalogues (geometry_of grid) (header_of grid (Size n) limits false) n outputs text all joined in
    size_valid grid n limits shapes text all.is_header.form free is

-- where the source had left the outputs of all shares, what was written is valid
pub joins_valid : (words : List (List ℕ)) (left old new : Option (List ℕ)) (grid : GridName) (n : ℕ) (limits : Limits) (outputs : List (List ℕ)) → Asks words JoinRequest
    → AreAllShares (geometry_of grid) (header_of grid (Size n) limits false) n outputs → left ≡ Some (together outputs) → Writes words left Done old new → WritesValid old new
joins_valid words left old new grid n limits outputs asks all told (text, is, appends) = by_output (asked_output words JoinRequest (Some (together outputs)) Done text asks (subst (λ l. IsAnswer words l Done text) told is))
  where
    by_output : IsOutput JoinRequest (Some (together outputs)) Done text → WritesValid old new
    by_output (input, same, inl (_, short, joined)) =
        let valid = joined_valid grid n limits outputs text all (subst (λ bytes. IsJoined bytes text) same joined) in
        (text, valid.0, valid.1, appends)
    by_output (input, same, inr (other, _)) = absurd cc

-- ---- what is valid passes

-- of a valid catalogue that is no longer than is read, `check` says nothing but that it is valid
pub valid_is_done : (words : List (List ℕ)) (input : List ℕ) (status : Status) (text : List ℕ) (workers count : ℕ) → Asks words (CheckRequest workers) → length input ≤ 1099511627776 → IsValid input count
    → IsAnswer words (Some input) status text → status ≡ Done
valid_is_done words input status text workers count asks short valid is = by_answer (asked_output words (CheckRequest workers) (Some input) status text asks is)
  where
    by_answer : IsOutput (CheckRequest workers) (Some input) status text → status ≡ Done
    by_answer (read, all, (checked, is, status_is, text_is)) =
        let one : checked ≡ answers.Valid count = one_answer input checked (answers.Valid count) (subst (λ bytes. IsChecked bytes checked) all is) (valid, short_decided input short) in
        status_is ∙ ap check_status one

-- over an input that has a tally, `table` ends Done
pub tallied_is_done : (words : List (List ℕ)) (input text : List ℕ) (status : Status) (output : List ℕ) → Asks words TableRequest → IsTallied (Some input) text
    → IsAnswer words (Some input) status output → status ≡ Done
tallied_is_done words input text status output asks tallied out = by_answer (asked_output words TableRequest (Some input) status output asks out)
  where
    by_told : (told : Tabulated) → IsTabulated (Some input) told → status ≡ table_status told → status ≡ Done
    by_told (told.Tally counts) is e = e
    by_told (told.Fault line number) is e = absurd (apart input text line number tallied is)

    by_answer : IsOutput TableRequest (Some input) status output → status ≡ Done
    by_answer (answer, is, status_is, text_is) = by_told answer is status_is

-- where `check` finds bad input, the input is longer than is read
pub bad_is_long : (words : List (List ℕ)) (input : List ℕ) (status : Status) (output : List ℕ) (workers : ℕ) → Asks words (CheckRequest workers) → IsAnswer words (Some input) status output
    → status ≡ BadInput → 1099511627776 < length input
bad_is_long words input status output workers asks out bad = by_answer (asked_output words (CheckRequest workers) (Some input) status output asks out)
  where
    by_checked : (checked : Checked) → IsChecked input checked → check_status checked ≡ BadInput → 1099511627776 < length input
    by_checked (answers.Valid count) is e = absurd (let no : Done ≡ BadInput = e in cc)
    by_checked answers.InvalidHeader is e = absurd (let no : Invalid ≡ BadInput = e in cc)
    by_checked (answers.InvalidEntry number) is e = absurd (let no : Invalid ≡ BadInput = e in cc)
    by_checked answers.InvalidEnd is e = absurd (let no : Invalid ≡ BadInput = e in cc)
    by_checked (answers.TooLong line) is e =
        let t = is.0 in
        let all : length input ≡ length t.front + suc (length t.behind) = ap length t.text ∙ length-append t.front (t.byte ∷ t.behind) in
        omega (arith, all, t.length_is)

    by_answer : IsOutput (CheckRequest workers) (Some input) status output → 1099511627776 < length input
    by_answer (read, all, (checked, is, status_is, text_is)) = by_checked checked (subst (λ bytes. IsChecked bytes checked) all is) (sym status_is ∙ bad)
