use Rattle.std.proofs.Common.{length, sym}
use Rattle.std.proofs.lemmas.Result.{err_from_is_err_and}
use Rattle.heesch_line.proofs.WordLoop.{goes_on, fails, stops, ends}
use Rattle.heesch_line.proofs.words.more_words.Goals as goal

pub returns-then-not-has_word : goal.returns-then-not-has_word
returns-then-not-has_word g c =
    stops g.W.Word.read c.loop.items (length c.args.bytes.now) c.loop.counter c.loop.rest.now _ c.loop-test.true (sym c.if-not-has_word.ensures.value) c.loop.invariant

pub returns-in_err-item : goal.returns-in_err-item
returns-in_err-item g c =
    let p = err_from_is_err_and c.from_residual.result c.from_residual.ensures.1 in
    rw (p.1, p.2) (fails g.W.Word.read c.in_err-item.field-0.0 c.loop.items (length c.args.bytes.now) c.loop.counter c.loop.rest.now _ c.loop-test.true (sym c.if-not-has_word.ensures.value) (rw c.without_first.ensures at c.in_err-item.ensures.gives) c.loop.invariant)

pub loop-preserved : goal.loop-preserved
loop-preserved g c =
    rw c.in_ok-push.ensures.ok (goes_on g.W.Word.read c.loop.items (length c.args.bytes.now) c.loop.counter c.loop.rest.now c.in_ok-item.item c.in_ok-item.after.now _ c.loop-test.true (sym c.if-not-has_word.ensures.value) (rw c.without_first.ensures at c.in_ok-item.ensures.gives) c.loop.invariant)

pub returns : goal.returns
returns g c = ends g.W.Word.read c.loop.items (length c.args.bytes.now) c.loop.counter c.loop.rest.now _ c.loop-test.false c.loop.invariant
