use Rattle.std.proofs.Common.{◌+◌, arith, subst}
use Rattle.std.proofs.lemmas.List.{take_all}
use Rattle.std.proofs.lemmas.Result.{on_err_weaker, on_ok_weaker}
use Rattle.heesch_catalogue.specs.Rounds.{AreTexts, IsItemText, WritesOne}
use Rattle.heesch_catalogue.proofs.RoundTexts.{at_error, end_written, head_begun, items_begun, items_written, round_kept, rounds_begun}
use Rattle.heesch_catalogue.proofs.rounds.write_texts.Goals as goal

pub returns-in_err-put_text-clause-err : goal.returns-in_err-put_text-clause-err
returns-in_err-put_text-clause-err g c =
    let held = g.W.Sink.held in
    let is_of = g.R.ShapeText.is_of c.args.texts.now in
    let is_text = g.R.ShapeText.is_text c.args.texts.now in
    at_error c.from_residual.result
    (head_begun c.args.head.now is_of is_text g.G.Grid.geometry c.args.shapes.now (held c.args.sink.now) (held c.put_text.new.sink) c.in_err-put_text.ensures.err)

pub loop-from-preserved : goal.loop-from-preserved
loop-from-preserved g c =
    let held = g.W.Sink.held in
    let from = c.loop-from.from in
    record {
      within = omega arith;
      written = items_written (g.R.ShapeText.is_of c.args.texts.now g.G.Grid.geometry) (g.R.ShapeText.is_text c.args.texts.now) c.args.shapes.now c.in_ok-items.items.items c.deref.result.now from (from + c.min.result)
          (held c.put_text.new.sink) (held c.loop-from.sink) (held c.put_items.new.sink) (omega arith) c.deref.ensures.value c.in_ok-items.ensures c.loop-from.invariant.written c.in_ok-put_items.ensures.ok;
      later = omega (arith, c.loop-from.invariant.later, c.in_ok-put_items.ensures.later);
    }

pub returns-in_err-items-clause-err : goal.returns-in_err-items-clause-err
returns-in_err-items-clause-err g c =
    let held = g.W.Sink.held in
    let is_of = g.R.ShapeText.is_of c.args.texts.now in
    let is_text = g.R.ShapeText.is_text c.args.texts.now in
    at_error c.from_residual-in_err-items.result
    (rounds_begun c.args.head.now is_of is_text g.G.Grid.geometry c.args.shapes.now (held c.args.sink.now) (held c.put_text.new.sink) (held c.loop-from.sink) c.in_ok-put_text.ensures.ok
    (round_kept (IsItemText (is_of g.G.Grid.geometry) is_text) c.args.shapes.now c.loop-from.from (held c.put_text.new.sink) (held c.loop-from.sink) c.loop-from.invariant.written))

pub returns-in_err-put_items-clause-err : goal.returns-in_err-put_items-clause-err
returns-in_err-put_items-clause-err g c =
    let held = g.W.Sink.held in
    let is_of = g.R.ShapeText.is_of c.args.texts.now in
    let is_text = g.R.ShapeText.is_text c.args.texts.now in
    let from = c.loop-from.from in
    at_error c.from_residual-in_err-put_items.result
    (rounds_begun c.args.head.now is_of is_text g.G.Grid.geometry c.args.shapes.now (held c.args.sink.now) (held c.put_text.new.sink) (held c.put_items.new.sink) c.in_ok-put_text.ensures.ok
    (items_begun (is_of g.G.Grid.geometry) is_text c.args.shapes.now c.in_ok-items.items.items c.deref.result.now from (from + c.min.result)
    (held c.put_text.new.sink) (held c.loop-from.sink) (held c.put_items.new.sink) (omega arith) c.deref.ensures.value c.in_ok-items.ensures c.loop-from.invariant.written c.in_err-put_items.ensures.err))

pub returns : goal.returns
returns g c =
    let held = g.W.Sink.held in
    let is_of = g.R.ShapeText.is_of c.args.texts.now in
    let is_text = g.R.ShapeText.is_text c.args.texts.now in
    let shapes = c.args.shapes.now in
    let started = held c.put_text.new.sink in
    let all = take_all c.loop-from.from shapes (omega (arith, c.loop-from-test.false, c.in-Ok.ensures.1)) in
    let rounds = subst (λ ss. WritesOne (AreTexts (IsItemText (is_of g.G.Grid.geometry) is_text) ss) started (held c.loop-from.sink)) all c.loop-from.invariant.written in
    let end = end_written c.args.head.now is_of is_text g.G.Grid.geometry shapes c.in-Ok.count (held c.args.sink.now) started (held c.loop-from.sink) (held c.put_end.new.sink)
    c.in-Ok.ensures.1 c.in_ok-put_text.ensures.ok rounds in
    record {
      ok = on_ok_weaker c.put_end.result end.0 c.put_end.ensures.ok;
      err = on_err_weaker c.put_end.result end.1 c.put_end.ensures.err;
      failed = λ e. omega (arith, c.put_end.ensures.failed e, c.in_ok-put_text.ensures.later, c.loop-from.invariant.later);
      later = omega (arith, c.put_end.ensures.later, c.in_ok-put_text.ensures.later, c.loop-from.invariant.later);
    }
