use Rattle.std.proofs.Common.{◌∙◌}
use Rattle.std.proofs.lemmas.Iterator.Consumers.{YieldsList-from_first, count_from_yields_List}
use Rattle.memchr.proofs.lemmas.CallerLemmas.{length-places}
use Rattle.memchr.specs.Find.{is_byte, places}
use Rattle.heesch_outer_check.proofs.checking.newlines.Goals as goal

pub returns : goal.returns
returns c =
    let bytes = c.args.bytes.now in
    let given = YieldsList-from_first (λ x. x) (λ rest. rest) (places (is_byte 10) bytes) c.memchr_iter.ensures.value in
    count_from_yields_List c.memchr_iter.result c.count.result c.count.ensures.ran given ∙ length-places (is_byte 10) bytes
