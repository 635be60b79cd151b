use Rattle.std.proofs.Common.{◌≡◌, ◌∙◌, length, rules}
use Rattle.std.specs.Vec.Iter.{into_iter_items, into_iter_len}
use Rattle.std.proofs.lemmas.Iterator.{items_from_collect}
use Rattle.std.proofs.lemmas.Iterator.Adapters.{YieldsList-from_skip, YieldsList-from_vec}
use Rattle.heesch.proofs.all_words.Goals as goal

pub returns-in-Ok : goal.returns-in-Ok
returns-in-Ok c =
    let args = c.args.args in
    let rest = c.skip.result.iter in
    let all : into_iter_len args ≡ length (into_iter_items args) = search rules in
    let same : into_iter_items rest ≡ into_iter_items args = search rules in
    let long : into_iter_len rest ≡ into_iter_len args = search rules in
    let got = items_from_collect c.collect.result c.collect.ensures.ran (YieldsList-from_skip 1 (YieldsList-from_vec (into_iter_items args) same (long ∙ all)) c.skip.ensures.count) in
    rw c.in-Ok.is at got
