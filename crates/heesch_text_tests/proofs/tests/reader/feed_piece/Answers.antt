use Rattle.heesch_reader.proofs.Following.{fed_room}
use Rattle.heesch_text_tests.proofs.tests.reader.feed_piece.Goals as goal

pub returns : goal.returns
returns c =
    fed_room c.args.reader.now c.feed.new.self c.args.items.now c.feed.new.items c.args.piece.now c.in_ok-feed.field-0 c.args.fed c.in_ok-feed.ensures c.requires
