use Rattle.std.proofs.Common.{◌≡◌, ◌*◌, ◌-◌, ◌<◌, ℕ, List, sym, ap, subst, ◌∙◌, arith, get_or, take, length}
use Rattle.std.specs.Prelude.{sum_by}
use Rattle.std.proofs.lemmas.List.{get_or_read, take_all}
use Rattle.std.proofs.lemmas.List.Sums.{sum_by_more_le}
use Rattle.std.proofs.lemmas.Result.{err_from_is_err_and}
use Rattle.heesch_grid.specs.Cells.{cell_before, origin}
use Rattle.heesch_grid.specs.Listing.{ListsExactly}
use Rattle.heesch_grid.specs.OwnerFormula.{digits, holders, IsOwned}
use Rattle.heesch_numbers.specs.OwnerCounts.{clause_count}
use Rattle.heesch_numbers.proofs.OwnersByNumber.{holders_few, owners_size}
use Rattle.heesch_numbers.proofs.owners.OwnerClauses.of.Goals as goal

pub count_cell-requires-clause-few : goal.count_cell-requires-clause-few
count_cell-requires-clause-few g c =
    let few = holders_few c.args.universe.now.vars c.index.result.now in
    let is = ap (λ (ns : List ℕ). length ns) c.holders_of-holders.ensures in
    let all = c.requires.few in
    omega arith

pub returns-in_err-left-clause-too_large : goal.returns-in_err-left-clause-too_large
returns-in_err-left-clause-too_large g c = λ large.
    let vars = c.args.universe.now.vars in
    let cells = c.loop-i.all.cells.items in
    let i = c.loop-i.i in
    let q = err_from_is_err_and c.from_residual-in_err-left.result c.from_residual-in_err-left.ensures.1 in
    let above = c.in_err-left.ensures.too_large (cc (large, q.1, q.2)) in
    let same = ap (λ (v : _). v.items) c.loop-i.invariant.cells ∙ c.new-all.ensures.cells in
    let long = ap (λ (v : _). v.len) c.loop-i.invariant.cells in
    let ok = c.loop-i.all.cells.ok in
    let end = c.len-i-end.ensures in
    let test = c.loop-i-test.true in
    let less : i < length cells = omega arith in
    let cell : c.index.result.now ≡ get_or cells i origin = get_or_read cells i c.index.result.now less c.index.ensures origin in
    let own : c.holders_of-holders.result.now ≡ holders vars (get_or cells i origin) = c.holders_of-holders.ensures ∙ ap (holders vars) cell in
    let count : length c.holders_of-holders.result.now * digits (length c.holders_of-holders.result.now - 1) ≡ clause_count vars (get_or cells i origin) = ap (λ (ns : List ℕ). length ns * digits (length ns - 1)) own in
    let so_far = c.loop-i.invariant.left in
    let more = sum_by_more_le (clause_count vars) cells i origin less in
    let size = owners_size vars cells in
    record {
      owned = cells;
      are_owned = subst (ListsExactly cell_before (IsOwned vars)) (sym same) c.in_ok-owned_cells.ensures;
      above = omega arith;
    }

pub returns-clause-left : goal.returns-clause-left
returns-clause-left g c =
    let vars = c.args.universe.now.vars in
    let cells = c.loop-i.all.cells.items in
    let long = ap (λ (v : _). v.len) c.loop-i.invariant.cells in
    let ok = c.loop-i.all.cells.ok in
    let end = c.len-i-end.ensures in
    let test = c.loop-i-test.false in
    let whole : take c.loop-i.i cells ≡ cells = take_all c.loop-i.i cells (omega arith) in
    let sums = ap (sum_by (clause_count vars)) whole in
    let so_far = c.loop-i.invariant.left in
    let size = owners_size vars cells in
    omega arith
