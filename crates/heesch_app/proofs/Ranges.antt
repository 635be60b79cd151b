-- What is asked for is in range.
use Rattle.std.proofs.Common.{◌≤◌, ℕ, List, arith}
use Rattle.heesch_cert.specs.declared.header.Subject.TheVariants.{Size, Given}
use Rattle.heesch_grid.specs.declared.GridName.{GridName}
use Rattle.heesch_words.specs.declared.requests.Request.{Request}
use Rattle.heesch_words.specs.declared.requests.Request.TheVariants.{List as ListRequest, Plain as PlainRequest, Classify as ClassifyRequest, Check as CheckRequest, CheckOuter as CheckOuterRequest, Table as TableRequest, Sample as SampleRequest, Formula as FormulaRequest, Answer as AnswerRequest, Share as ShareRequest, Join as JoinRequest, Outer as OuterRequest}
use Rattle.heesch_cnf.specs.declared.version.Version.{Version}
use Rattle.heesch_cnf.specs.declared.version.Version.TheVariants.{Two}
use Rattle.heesch_cert.specs.Sizes.{most_cells}
use Rattle.heesch_cert.proofs.FewCells.{few_cells}
use Rattle.heesch_words.specs.Requests.{Asks}
use Rattle.heesch_words.proofs.Ranges.{asked_in_range as words_in_range}
use Rattle.heesch_app.specs.Ranges.{IsInRange}

at_most_31 : (version : Version) (grid : GridName) (n : ℕ) → n ≤ most_cells version grid → n ≤ 31
at_most_31 version grid n h = let few = few_cells version grid in omega (arith, h, few)

pub asked_in_range : (words : List (List ℕ)) (request : Request) → Asks words request → IsInRange request
asked_in_range words (ListRequest grid n workers) asks =
    let (size, some, few) = words_in_range words (ListRequest grid n workers) asks in
    (size.0, at_most_31 Two grid n size.1, some, few)
asked_in_range words (PlainRequest grid n workers) asks =
    let (size, some, few) = words_in_range words (PlainRequest grid n workers) asks in
    (size.0, at_most_31 Two grid n size.1, some, few)
asked_in_range words (ClassifyRequest grid (Size n) limits workers brief) asks =
    let (size, limits_are, some, few) = words_in_range words (ClassifyRequest grid (Size n) limits workers brief) asks in
    ((size.0, at_most_31 limits.version grid n size.1), limits_are, some, few)
asked_in_range words (ClassifyRequest grid Given limits workers brief) asks =
    let (_, limits_are, some, few) = words_in_range words (ClassifyRequest grid Given limits workers brief) asks in
    (tt, limits_are, some, few)
asked_in_range words (CheckRequest workers) asks = words_in_range words (CheckRequest workers) asks
asked_in_range words (CheckOuterRequest grid (Size n) limits workers) asks =
    let (size, limits_are, some, few) = words_in_range words (CheckOuterRequest grid (Size n) limits workers) asks in
    ((size.0, at_most_31 limits.version grid n size.1), limits_are, some, few)
asked_in_range words (CheckOuterRequest grid Given limits workers) asks =
    let (_, limits_are, some, few) = words_in_range words (CheckOuterRequest grid Given limits workers) asks in
    (tt, limits_are, some, few)
asked_in_range words TableRequest asks = tt
asked_in_range words (SampleRequest grid n count seed limits workers) asks =
    let (sample, _, limits_are, some, few) = words_in_range words (SampleRequest grid n count seed limits workers) asks in
    (sample.cells.0, sample.cells.1, sample.shapes.1, limits_are, some, few)
asked_in_range words (FormulaRequest grid level size version) asks =
    let (formula, _) = words_in_range words (FormulaRequest grid level size version) asks in
    (formula.level_range.0, formula.level_range.1, formula.size_range.0, formula.size_range.1)
asked_in_range words (AnswerRequest grid level size version) asks =
    let (formula, _) = words_in_range words (AnswerRequest grid level size version) asks in
    (formula.level_range.0, formula.level_range.1, formula.size_range.0, formula.size_range.1)
asked_in_range words (ShareRequest grid n i k limits workers) asks =
    let (size, share, limits_are, some, few) = words_in_range words (ShareRequest grid n i k limits workers) asks in
    (size.0, at_most_31 limits.version grid n size.1, share.number.0, share.number.1, share.most, limits_are, some, few)
asked_in_range words JoinRequest asks = tt
asked_in_range words (OuterRequest grid (Size n) limits workers) asks =
    let (size, limits_are, some, few) = words_in_range words (OuterRequest grid (Size n) limits workers) asks in
    ((size.0, at_most_31 limits.version grid n size.1), limits_are, some, few)
asked_in_range words (OuterRequest grid Given limits workers) asks =
    let (_, limits_are, some, few) = words_in_range words (OuterRequest grid Given limits workers) asks in
    (tt, limits_are, some, few)
