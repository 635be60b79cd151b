use Rattle.std.proofs.Common.{◌∙◌, ap, arith}
use Rattle.std.proofs.lemmas.Result.{on_err_weaker, on_ok_weaker}
use Rattle.heesch_parts.specs.Spans.{span_of}
use Rattle.heesch_catalogue.proofs.RoundTexts.{at_error}
use Rattle.heesch_parts.proofs.ShareTexts.{line_begun, share_behind}
use Rattle.heesch_parts.proofs.written.write_share_of.Goals as goal

pub returns-in_err-put_line-clause-err : goal.returns-in_err-put_line-clause-err
returns-in_err-put_line-clause-err g c =
    let held = g.W.Sink.held in
    let share = c.args.share.now in
    at_error c.from_residual.result
    (line_begun g.G.Grid.geometry share.header share.i share.k c.args.shapes.now (held c.args.sink.now) (held c.put_line.new.sink) c.in_err-put_line.ensures.err)

pub returns : goal.returns
returns g c =
    let held = g.W.Sink.held in
    let share = c.args.share.now in
    let places = c.span-from.ensures ∙ ap (λ n. span_of n share.i share.k) c.in-Ok.ensures.1 in
    let behind = share_behind g.G.Grid.geometry share.header share.i share.k c.args.shapes.now c.span-from.result places (held c.args.sink.now) (held c.put_line.new.sink) (held c.write_catalogue.new.sink) c.in_ok-put_line.ensures.ok in
    let catalogue = c.write_catalogue.ensures in
    record {
      ok = on_ok_weaker c.write_catalogue.result behind.0 catalogue.ok;
      err = on_err_weaker c.write_catalogue.result behind.1 catalogue.err;
      failed = λ failed. omega (arith, c.in_ok-put_line.ensures.later, catalogue.failed failed);
      later = omega (arith, c.in_ok-put_line.ensures.later, catalogue.later);
    }
