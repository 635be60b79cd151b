use Rattle.std.proofs.Common.{◌∙◌, sym}
use Rattle.std.proofs.lemmas.List.{take_rest}
use Rattle.heesch_encode.proofs.Rings.{filter_back}
use Rattle.heesch_encode.proofs.meeting.numbers_after.Goals as goal

pub returns : goal.returns
returns c = take_rest c.args.numbers.now c.count_below-at.result ∙ sym (filter_back c.args.n c.args.numbers.now c.count_below-at.result c.count_below-at.ensures.below c.count_below-at.ensures.above)
