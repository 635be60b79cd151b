use Rattle.std.proofs.Common.{◌≡◌, ◌+◌, ◌-◌, ◌<◌, ◌++◌, List, ℕ, get_or, length, take, sym, ap, ◌∙◌, arith}
use Rattle.std.specs.Prelude.{flat_map}
use Rattle.std.specs.List.{enumerate_from}
use Rattle.std.proofs.lemmas.List.{take_all}
use Rattle.std.proofs.lemmas.List.Filters.{dedup_is}
use Rattle.std.proofs.lemmas.List.FromFn.{length-enumerate_from}
use Rattle.heesch_grid.specs.Cells.{same_cell}
use Rattle.heesch_grid.specs.CoronaFormula.{Variable}
use Rattle.heesch_encode.proofs.Rising.{pieces_more}
use Rattle.heesch_encode.proofs.Numbered.{no_entry}
use Rattle.heesch_encode.proofs.Pieces.{some_at, entry_read}
use Rattle.heesch_encode.proofs.Holders.{found_cells, owned_listed}
use Rattle.heesch_encode.proofs.owned.owned_cells.Goals as goal

pub loop-i-preserved : goal.loop-i-preserved
loop-i-preserved g c =
    let vars = c.args.universe.now.vars in
    let i = c.loop-i.i in
    let entries : List (ℕ × Variable) = enumerate_from 1 vars in
    let less : i < length vars = omega (arith, c.loop-i-test.true, c.count-i-end.ensures.count) in
    let long = length-enumerate_from 1 vars in
    let v = get_or vars (i + 1 - 1) no_entry.1 in
    c.in_ok-add_owned.ensures v (some_at vars (i + 1) (omega arith) (omega arith))
    ∙ (λ k. c.loop-i.invariant k ++ found_cells vars (sym (entry_read vars i less) k))
    ∙ sym (pieces_more (found_cells vars) entries i no_entry (omega (arith, less, long)))

pub returns : goal.returns
returns g c =
    let vars = c.args.universe.now.vars in
    let i = c.loop-i.i in
    let entries : List (ℕ × Variable) = enumerate_from 1 vars in
    let long = length-enumerate_from 1 vars in
    let whole : take i entries ≡ entries = take_all i entries (omega (arith, long, c.loop-i-test.false, c.count-i-end.ensures.count)) in
    owned_listed vars c.loop-i.cells.items c.sort_unstable.new.self.items c.dedup.new.self.items (c.loop-i.invariant ∙ ap (flat_map (found_cells vars)) whole) c.sort_unstable.ensures.permutation c.sort_unstable.ensures.sorted (dedup_is same_cell c.sort_unstable.new.self.items c.dedup.new.self.items c.dedup.ensures.filtered)
