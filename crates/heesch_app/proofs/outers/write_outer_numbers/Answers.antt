use Rattle.heesch_app.proofs.CatalogueEndings.{outer_given_ends, outer_size_ends}
use Rattle.heesch_app.proofs.outers.write_outer_numbers.Goals as goal

pub returns-in-Size-clause-ends : goal.returns-in-Size-clause-ends
returns-in-Size-clause-ends g c =
    let held = g.W.Sink.held in
    let written = c.write_outers_of_size-written in
    outer_size_ends c.args.grid c.args.subject c.args.limits c.args.crew.now.workers c.in-Size.n (g.R.Source.left c.args.source.now) (held c.args.sink.now) (held written.new.sink)
    written.result c.of_writing.result c.in-Size.is written.ensures.ok written.ensures.err c.of_writing.ensures

pub returns-in-Given-clause-ends : goal.returns-in-Given-clause-ends
returns-in-Given-clause-ends g c =
    let held = g.W.Sink.held in
    outer_given_ends c.args.grid c.args.subject c.args.limits c.args.crew.now.workers (g.R.Source.left c.args.source.now) (held c.args.sink.now) (held c.write_given_text.new.sink)
    c.write_given_text.result c.in-Given.is c.write_given_text.ensures.given.ends

pub returns-in-Given-clause-ended : goal.returns-in-Given-clause-ended
returns-in-Given-clause-ended g c = λ done reads. c.write_given_text.ensures.given.ended done

pub returns-in-Given-clause-consumed : goal.returns-in-Given-clause-consumed
returns-in-Given-clause-consumed g c = c.write_given_text.ensures.given.consumed
