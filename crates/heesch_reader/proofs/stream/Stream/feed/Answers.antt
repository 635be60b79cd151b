use Rattle.std.proofs.Common.{◌≡◌, ◌+◌, length, Err, None, refl, sym, ap, subst, ◌∙◌, arith}
use Rattle.std.proofs.lemmas.Result.{err_from_is_err_and}
use Rattle.std.specs.Result.{result_err}
use Rattle.heesch_reader.specs.Feeding.{FeedResult}
use Rattle.heesch_reader.specs.Answers.{stop_of}
use Rattle.heesch_reader.specs.Taking.{Streamed, TakesPiece, FeedsPiece}
use Rattle.heesch_reader.proofs.Reading.{fed, fed_room, feed_refuses, fed_refusal, newlines_within, told_refusal, took_piece}
use Rattle.heesch_reader.proofs.stream.Stream.feed.Goals as goal

pub returns-in_err-fed-clause-fed : goal.returns-in_err-fed-clause-fed
returns-in_err-fed-clause-fed c =
    let p = err_from_is_err_and c.from_residual.result c.from_residual.ensures.1 in
    let going : c.self.inside.reader.refusal ≡ None = subst (λ (s : Streamed). s.kept.refusal ≡ None) (sym c.self.view_is) c.requires.going in
    let told = subst (λ r. FeedResult c.self.inside.reader c.feed-fed.new.self c.args.items.now c.feed-fed.new.items c.args.piece.now r) c.in_err-fed.was c.feed-fed.ensures in
    let count : c.self.inside.count ≡ c.args.self.now.count = ap (λ (s : Streamed). s.count) c.self.view_is in
    rw (p.1, p.2) (subst (λ (s : Streamed). FeedsPiece s (record { kept = c.feed-fed.new.self; count = c.self.inside.count; line = c.self.inside.line }) c.args.items.now c.feed-fed.new.items c.args.piece.now (Err (stop_of c.in_err-fed.field-0.0))) c.self.view_is
    (feed_refuses (record { kept = c.self.inside.reader; count = c.self.inside.count; line = c.self.inside.line }) (record { kept = c.feed-fed.new.self; count = c.self.inside.count; line = c.self.inside.line }) c.args.items.now c.feed-fed.new.items c.args.piece.now c.in_err-fed.field-0.0 going told (omega (arith, count, c.requires.room))))

pub invariant_of-self-2 : goal.invariant_of-self-2
invariant_of-self-2 c =
    let going : c.self.inside.reader.refusal ≡ None = subst (λ (s : Streamed). s.kept.refusal ≡ None) (sym c.self.view_is) c.requires.going in
    let told = subst (λ r. FeedResult c.self.inside.reader c.feed-fed.new.self c.args.items.now c.feed-fed.new.items c.args.piece.now r) c.in_ok-fed.was c.feed-fed.ensures in
    let count : c.self.inside.count ≡ c.args.self.now.count = ap (λ (s : Streamed). s.count) c.self.view_is in
    let room = fed_room c.self.inside.reader c.feed-fed.new.self c.args.items.now c.feed-fed.new.items c.args.piece.now c.in_ok-fed.field-0 c.self.inside.count going told (c.self.invariant.room (sym c.self.invariant.same_refusal ∙ going)) in
    record {
      at_most = omega (arith, count, c.requires.room);
      few_lines = omega (arith, c.self.invariant.few_lines, c.newlines.ensures, newlines_within c.args.piece.now);
      same_refusal = room.0 ∙ sym (c.err-self-inside.ensures.value ∙ ap result_err c.in_ok-fed.was);
      room = λ e. room.1;
    }

pub returns-clause-fed : goal.returns-clause-fed
returns-clause-fed c = λ before now some consumed.
    let going : c.self.inside.reader.refusal ≡ None = subst (λ (s : Streamed). s.kept.refusal ≡ None) (sym c.self.view_is) c.requires.going in
    let told = subst (λ r. FeedResult c.self.inside.reader c.feed-fed.new.self c.args.items.now c.feed-fed.new.items c.args.piece.now r) c.in_ok-fed.was c.feed-fed.ensures in
    let count : c.self.inside.count ≡ c.args.self.now.count = ap (λ (s : Streamed). s.count) c.self.view_is in
    let takes = fed c.self.inside.reader c.feed-fed.new.self c.args.items.now c.feed-fed.new.items c.args.piece.now c.in_ok-fed.field-0 going told in
    subst (λ (s : Streamed). TakesPiece before now s (record { kept = c.feed-fed.new.self; count = c.self.inside.count + length c.args.piece.now; line = c.self.inside.line + c.newlines.result }) c.args.items.now c.feed-fed.new.items) c.self.view_is
    (took_piece (record { kept = c.self.inside.reader; count = c.self.inside.count; line = c.self.inside.line }) (record { kept = c.feed-fed.new.self; count = c.self.inside.count + length c.args.piece.now; line = c.self.inside.line + c.newlines.result }) c.args.items.now c.feed-fed.new.items c.args.piece.now before now takes refl (omega (arith, count, c.requires.room)) (ap (λ n. c.self.inside.line + n) c.newlines.ensures) some consumed)

pub returns-in_err-fed-clause-keeps : goal.returns-in_err-fed-clause-keeps
returns-in_err-fed-clause-keeps c = λ stop same.
    let p = err_from_is_err_and c.from_residual.result c.from_residual.ensures.1 in
    let going : c.self.inside.reader.refusal ≡ None = subst (λ (s : Streamed). s.kept.refusal ≡ None) (sym c.self.view_is) c.requires.going in
    let told = subst (λ r. FeedResult c.self.inside.reader c.feed-fed.new.self c.args.items.now c.feed-fed.new.items c.args.piece.now r) c.in_err-fed.was c.feed-fed.ensures in
    told_refusal c.from_residual.result c.feed-fed.new.self.refusal c.in_err-fed.field-0.0 stop (fed_refusal c.self.inside.reader c.feed-fed.new.self c.args.items.now c.feed-fed.new.items c.args.piece.now c.in_err-fed.field-0.0 going told)
    (p.1 ∙ ap Err p.2) same
