use Rattle.std.proofs.Common.{◌≡◌, sym, subst, true≢false}
use Rattle.std.specs.Prelude.{IfSome}
use Rattle.std.proofs.lemmas.Result.{IfOk-weaker}
use Rattle.heesch_outer.specs.Outers.{record_text}
use Rattle.heesch_outer_check.specs.ReadableRecords.{IsReadableRecord}
use Rattle.heesch_outer_check.proofs.Records.{readable, texts_determine}
use Rattle.heesch_outer_check.proofs.OneAnswer.{read_tells, unread_not_good}
use Rattle.heesch_outer_check.proofs.judging.is_good.Goals as goal

pub returns-in-None : goal.returns-in-None
returns-in-None g c =
    let a = c.args in
    (λ e. absurd (true≢false (sym e)), λ good. absurd (unread_not_good readable a.header.now a.before a.block.now (c.in_ok-read.ensures.none c.in-None.is) good))

pub is_good_read-requires-clause-readable : goal.is_good_read-requires-clause-readable
is_good_read-requires-clause-readable g c κs within =
    (subst (λ r. IfSome r (λ e. (c.args.block.now ≡ record_text e) × IsReadableRecord e)) c.in-Some.is c.in_ok-read.ensures.some).1

pub returns-in-Some : goal.returns-in-Some
returns-in-Some g c =
    let a = c.args in
    let read = subst (λ r. IfSome r (λ e. (a.block.now ≡ record_text e) × IsReadableRecord e)) c.in-Some.is c.in_ok-read.ensures.some in
    let both = read_tells texts_determine readable a.header.now a.before a.block.now c.in-Some.found read.0 read.1 in
    IfOk-weaker c.is_good_read.result _ _ (λ yes h. ((λ t. both.0 (h.0 t)), (λ x. h.1 (both.1 x)))) c.is_good_read.ensures
