use Rattle.std.proofs.Common.{◌+◌, ◌<◌, false, not, ◌&&◌, ◌||◌, length, take, sym, ap, ◌∙◌, arith}
use Rattle.std.specs.List.{list_any}
use Rattle.std.proofs.lemmas.List.Folds.{list_any-append}
use Rattle.heesch_grid.specs.Cells.{has, set_of}
use Rattle.heesch_grid.specs.Corona.{cells_of}
use Rattle.heesch_corona.specs.Searches.{is_gap}
use Rattle.heesch_corona.proofs.Leasts.{least_same, cell_joins}
use Rattle.heesch_corona.proofs.Members.{cells_more}
use Rattle.heesch_corona.proofs.gaps.least_gap.Goals as goal

pub loop-at-preserved : goal.loop-at-preserved
loop-at-preserved g c =
    let geometry = g.G.Grid.geometry in
    let touching = geometry.touching in
    let sets = c.args.index.now in
    let at = c.loop-at.at in
    let covered = has (cells_of (take c.args.outer sets)) in
    let within : at < length sets = let l = c.loop-at-test.true in let k = c.requires.inner in omega (arith, l, k) in
    least_same (λ d. is_gap geometry sets at c.args.outer d || (list_any (λ e. has (touching e) d) (set_of sets (at + 1)) && not (covered d))) (is_gap geometry sets (at + 1) c.args.outer) c.least_around-least.result (λ d. cell_joins false (list_any (λ e. has (touching e) d) (cells_of (take at sets))) (list_any (λ e. has (touching e) d) (set_of sets (at + 1))) (not (covered d)) ∙ ap (λ k. k && not (covered d)) (sym (list_any-append (λ e. has (touching e) d) (cells_of (take at sets)) (set_of sets (at + 1))) ∙ ap (list_any (λ e. has (touching e) d)) (sym (cells_more sets at within)))) (c.least_around-least.ensures (is_gap geometry sets at c.args.outer) c.loop-at.invariant)
