use Rattle.heesch_words.specs.declared.requests.Request.TheVariants.{Classify as ClassifyRequest, Outer as OuterRequest}
use Rattle.heesch_app.proofs.CatalogueEndings.{asked_ends, share_ends}
use Rattle.heesch_app.proofs.Endings.{put_done, put_no_memory, put_read_fault, put_write_fault, reply_is_whole, request_ends}
use Rattle.heesch_app.proofs.program.answer.Goals as goal

pub returns-in-Classify-clause-ends : goal.returns-in-Classify-clause-ends
returns-in-Classify-clause-ends g c =
    let held = g.W.Sink.held in
    let asked = c.in-Classify in
    asked_ends c.args.request (ClassifyRequest asked.grid asked.subject asked.limits asked.workers asked.brief) (g.R.Source.left c.args.source.now)
    (held c.args.sink.now) (held c.write_asked_catalogue.new.sink) c.write_asked_catalogue.result asked.is (rw c.new-crew.ensures at c.write_asked_catalogue.ensures.ends)

pub returns-in-Share-clause-ends : goal.returns-in-Share-clause-ends
returns-in-Share-clause-ends g c =
    let held = g.W.Sink.held in
    let asked = c.in-Share in
    share_ends c.args.request asked.grid asked.n asked.i asked.k asked.limits asked.workers (g.R.Source.left c.args.source.now)
    (held c.args.sink.now) (held c.write_share-written.new.sink) c.write_share-written.result c.of_writing.result asked.is
    c.write_share-written.ensures.ok c.write_share-written.ensures.err c.of_writing.ensures

pub returns-in-Outer-clause-ends : goal.returns-in-Outer-clause-ends
returns-in-Outer-clause-ends g c =
    let held = g.W.Sink.held in
    let asked = c.in-Outer in
    asked_ends c.args.request (OuterRequest asked.grid asked.subject asked.limits asked.workers) (g.R.Source.left c.args.source.now)
    (held c.args.sink.now) (held c.write_outer_numbers.new.sink) c.write_outer_numbers.result asked.is (rw c.new-crew-in-Outer.ensures at c.write_outer_numbers.ensures.ends)

pub returns-in_default-clause-ends : goal.returns-in_default-clause-ends
returns-in_default-clause-ends g c =
    request_ends c.args.request (g.R.Source.left c.args.source.now) _ g.W.Sink.held c.args.sink.now c.put_reply.new.sink _ _ c.reply.result c.put_reply.result
    c.reply.ensures.ok c.put_reply.ensures.ok c.put_reply.ensures.err

pub returns-in_default-clause-ended : goal.returns-in_default-clause-ended
returns-in_default-clause-ended g c =
    put_done _ _ g.W.Sink.held c.args.sink.now c.put_reply.new.sink _ _ c.reply.result c.put_reply.result c.reply.ensures.ended c.put_reply.ensures.ok c.put_reply.ensures.err

pub returns-in_default-clause-read_fault : goal.returns-in_default-clause-read_fault
returns-in_default-clause-read_fault g c = λ fault.
    let whole = reply_is_whole c.args.request (g.R.Source.left c.args.source.now) c.reply.result c.reply.ensures.ok in
    c.reply.ensures.failed (put_read_fault _ g.W.Sink.held c.args.sink.now c.put_reply.new.sink _ _ c.reply.result c.put_reply.result whole c.put_reply.ensures.ok c.put_reply.ensures.err fault).0

pub returns-in_default-clause-unwritten : goal.returns-in_default-clause-unwritten
returns-in_default-clause-unwritten g c = λ fault.
    let whole = reply_is_whole c.args.request (g.R.Source.left c.args.source.now) c.reply.result c.reply.ensures.ok in
    (put_read_fault _ g.W.Sink.held c.args.sink.now c.put_reply.new.sink _ _ c.reply.result c.put_reply.result whole c.put_reply.ensures.ok c.put_reply.ensures.err fault).1

pub returns-in_default-clause-no_memory : goal.returns-in_default-clause-no_memory
returns-in_default-clause-no_memory g c = λ refused text.
    let whole = reply_is_whole c.args.request (g.R.Source.left c.args.source.now) c.reply.result c.reply.ensures.ok in
    put_no_memory _ g.W.Sink.held c.args.sink.now c.put_reply.new.sink _ _ c.reply.result c.put_reply.result whole c.put_reply.ensures.ok c.put_reply.ensures.err refused

pub returns-in_default-clause-write_fault : goal.returns-in_default-clause-write_fault
returns-in_default-clause-write_fault g c = λ fault.
    let whole = reply_is_whole c.args.request (g.R.Source.left c.args.source.now) c.reply.result c.reply.ensures.ok in
    put_write_fault _ g.W.Sink.held c.args.sink.now c.put_reply.new.sink _ _ c.reply.result c.put_reply.result whole c.put_reply.ensures.ok c.put_reply.ensures.err fault
