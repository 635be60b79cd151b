use Rattle.std.proofs.Common.{◌-◌, ◌∙◌, sym, get_or, arith, true≢false}
use Rattle.heesch_grid.specs.Cells.{meet}
use Rattle.heesch_encode.proofs.Numbered.{no_entry}
use Rattle.heesch_encode.proofs.Pieces.{some_at}
use Rattle.heesch_pairwise.proofs.PairLists.{met_pair, pair_met}
use Rattle.heesch_pairwise.proofs.newness.have_pair.Goals as goal

pub returns-then-first-second : goal.returns-then-first-second
returns-then-first-second g c =
    let vars = c.args.universe.now.vars in
    let n = c.args.first in
    let m = c.args.second in
    (λ t. absurd (true≢false (sym t)), λ have. let less = (pair_met vars n m (get_or vars (n - 1) no_entry.1) (get_or vars (m - 1) no_entry.1) (some_at vars n c.requires.first.0 c.requires.first.1) (some_at vars m c.requires.second.0 c.requires.second.1) have).0 in absurd (omega (arith, less)))

pub returns : goal.returns
returns g c =
    let vars = c.args.universe.now.vars in
    let n = c.args.first in
    let m = c.args.second in
    let x = get_or vars (n - 1) no_entry.1 in
    let y = get_or vars (m - 1) no_entry.1 in
    let at_n = some_at vars n c.requires.first.0 c.requires.first.1 in
    let at_m = some_at vars m c.requires.second.0 c.requires.second.1 in
    let tiles = c.meets.ensures ∙ (λ i. meet (c.placement_of.ensures.tile x at_n i) (c.placement_of-2.ensures.tile y at_m i)) in
    (λ t. met_pair vars n m x y at_n at_m (omega arith) (sym tiles ∙ t), λ have. tiles ∙ (pair_met vars n m x y at_n at_m have).1)
