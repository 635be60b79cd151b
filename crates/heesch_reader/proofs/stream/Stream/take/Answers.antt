use Rattle.std.proofs.lemmas.Result.{err_from_is_err_and}
use Rattle.heesch_io.proofs.KnownBytes.{front_read}
use Rattle.heesch_reader.proofs.Reading.{feed_stops}
use Rattle.heesch_reader.proofs.stream.Stream.take.Goals as goal

pub returns-in_err-feed-clause-taken : goal.returns-in_err-feed-clause-taken
returns-in_err-feed-clause-taken g c =
    let p = err_from_is_err_and c.from_residual-in_err-feed.result c.from_residual-in_err-feed.ensures.1 in
    rw (p.1, p.2) (feed_stops (g.R.Source.left c.args.source.now) (g.R.Source.left c.read.new.self) (g.R.Source.faults c.args.source.now) (g.R.Source.faults c.read.new.self) c.args.self.now c.feed.new.self c.args.items.now c.feed.new.items _ c.in_err-feed.field-0.0 c.in_err-feed.ensures.fed (front_read (g.R.Source.left c.args.source.now) (g.R.Source.left c.read.new.self) c.in_ok-count.count c.read.new.into _ c.in_ok-count.ensures.bound.0 c.in_ok-count.ensures.bytes.0))
