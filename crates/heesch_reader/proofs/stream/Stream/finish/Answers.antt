use Rattle.std.proofs.Common.{◌≡◌, Err, None, sym, ap, subst, ◌∙◌}
use Rattle.std.proofs.lemmas.Result.{err_from_is_err_and}
use Rattle.std.specs.Result.{result_err}
use Rattle.heesch_reader.specs.Feeding.{FinishResult}
use Rattle.heesch_reader.specs.Answers.{stop_of}
use Rattle.heesch_reader.specs.Taking.{Streamed, TakesEnd, FinishesAll}
use Rattle.heesch_reader.proofs.Reading.{finish_refuses, finished_refusal, finished_room, told_refusal, took_end}
use Rattle.heesch_reader.proofs.stream.Stream.finish.Goals as goal

pub returns-in_err-finished-clause-finished : goal.returns-in_err-finished-clause-finished
returns-in_err-finished-clause-finished c =
    let p = err_from_is_err_and c.from_residual.result c.from_residual.ensures.1 in
    let going : c.self.inside.reader.refusal ≡ None = subst (λ (s : Streamed). s.kept.refusal ≡ None) (sym c.self.view_is) c.requires.going in
    let told = subst (λ r. FinishResult c.self.inside.reader c.finish-finished.new.self c.args.items.now c.finish-finished.new.items r) c.in_err-finished.was c.finish-finished.ensures in
    rw (p.1, p.2) (subst (λ (s : Streamed). FinishesAll s c.args.items.now c.finish-finished.new.items (Err (stop_of c.in_err-finished.field-0.0))) c.self.view_is
    (finish_refuses _ c.finish-finished.new.self c.args.items.now c.finish-finished.new.items c.in_err-finished.field-0.0 going told))

pub invariant_of-self-2 : goal.invariant_of-self-2
invariant_of-self-2 c =
    let going : c.self.inside.reader.refusal ≡ None = subst (λ (s : Streamed). s.kept.refusal ≡ None) (sym c.self.view_is) c.requires.going in
    let told = subst (λ r. FinishResult c.self.inside.reader c.finish-finished.new.self c.args.items.now c.finish-finished.new.items r) c.in_ok-finished.was c.finish-finished.ensures in
    let room = finished_room c.self.inside.reader c.finish-finished.new.self c.args.items.now c.finish-finished.new.items c.in_ok-finished.field-0 c.self.inside.count going told (c.self.invariant.room (sym c.self.invariant.same_refusal ∙ going)) in
    record {
      at_most = c.self.invariant.at_most;
      few_lines = c.self.invariant.few_lines;
      same_refusal = room.0 ∙ sym (c.err-self-inside.ensures.value ∙ ap result_err c.in_ok-finished.was);
      room = λ e. room.1;
    }

pub returns-clause-finished : goal.returns-clause-finished
returns-clause-finished c = λ before end.
    let going : c.self.inside.reader.refusal ≡ None = subst (λ (s : Streamed). s.kept.refusal ≡ None) (sym c.self.view_is) c.requires.going in
    let told = subst (λ r. FinishResult c.self.inside.reader c.finish-finished.new.self c.args.items.now c.finish-finished.new.items r) c.in_ok-finished.was c.finish-finished.ensures in
    subst (λ (s : Streamed). TakesEnd before s c.args.items.now c.finish-finished.new.items) c.self.view_is (took_end _ c.finish-finished.new.self c.args.items.now c.finish-finished.new.items c.in_ok-finished.field-0 before going told end)

pub returns-in_err-finished-clause-keeps : goal.returns-in_err-finished-clause-keeps
returns-in_err-finished-clause-keeps c = λ stop same.
    let p = err_from_is_err_and c.from_residual.result c.from_residual.ensures.1 in
    let going : c.self.inside.reader.refusal ≡ None = subst (λ (s : Streamed). s.kept.refusal ≡ None) (sym c.self.view_is) c.requires.going in
    let told = subst (λ r. FinishResult c.self.inside.reader c.finish-finished.new.self c.args.items.now c.finish-finished.new.items r) c.in_err-finished.was c.finish-finished.ensures in
    told_refusal c.from_residual.result c.finish-finished.new.self.refusal c.in_err-finished.field-0.0 stop (finished_refusal c.self.inside.reader c.finish-finished.new.self c.args.items.now c.finish-finished.new.items c.in_err-finished.field-0.0 going told)
    (p.1 ∙ ap Err p.2) same
