use Rattle.std.proofs.Common.{◌≡◌, ◌+◌, ◌-◌, ◌<◌, ◌≤◌, All, Err, get_or, length, sym, ap, ◌∙◌, subst, arith}
use Rattle.std.specs.Prelude.{flat_map}
use Rattle.std.specs.List.{enumerate_from}
use Rattle.std.proofs.lemmas.List.Sums.{sum_by_more}
use Rattle.std.proofs.lemmas.Result.{err_from_is_err_and}
use Rattle.heesch_grid.specs.declared.Cell.{Cell}
use Rattle.heesch_grid.specs.OwnerFormula.{digits, owner_count, rank_clauses}
use Rattle.heesch_cert.specs.Literals.{literals}
use Rattle.heesch_encode.specs.Taking.{Takes, IsTaken}
use Rattle.heesch_grid.specs.Cells.{origin}
use Rattle.heesch_encode.proofs.Holders.{cell_clauses, holders_range, owners_taken, owners_stopped}
use Rattle.heesch_encode.proofs.owners.take_owners.Given as given
use Rattle.heesch_encode.proofs.owners.take_owners.Goals as goal
use Rattle.heesch_encode.proofs.owners.take_owners.Goals.{After-digits_of_ranks-count}

-- the cell's owner variables, as they are counted
counted : (g : given.Over) (c : After-digits_of_ranks-count g) → c.digits_of_ranks-count.result ≡ owner_count c.args.universe.now.vars (get_or c.args.owned.now c.loop-c.c-index origin)
counted g c = c.digits_of_ranks-count.ensures.digits ∙ ap (λ ns. digits (length ns - 1)) c.holders_of-holders.ensures

-- and its clauses
clauses : (g : given.Over) (c : After-digits_of_ranks-count g) → flat_map (rank_clauses literals c.loop-c.start c.digits_of_ranks-count.result) (enumerate_from 0 c.holders_of-holders.result.now) ≡ cell_clauses c.args.universe.now.vars c.loop-c.start (get_or c.args.owned.now c.loop-c.c-index origin)
clauses g c = λ k. flat_map (rank_clauses literals c.loop-c.start (counted g c k)) (enumerate_from 0 (c.holders_of-holders.ensures k))

pub take_ranks-requires-clause-holders : goal.take_ranks-requires-clause-holders
take_ranks-requires-clause-holders g c =
    let vars = c.args.universe.now.vars in
    let at : Cell = get_or c.args.owned.now c.loop-c.c-index origin in
    let start = c.loop-c.invariant.start in
    subst (All (λ n. (1 ≤ n) × (n < c.loop-c.start))) (sym c.holders_of-holders.ensures) (λ k d l. let r = holders_range vars at k d l in (r.0, omega (arith, r.1, start)))

pub returns-in_err-take_ranks : goal.returns-in_err-take_ranks
returns-in_err-take_ranks g c =
    let vars = c.args.universe.now.vars in
    let is = clauses g (goal.at.returns-in_err-take_ranks g c).After-digits_of_ranks-count in
    let p = err_from_is_err_and c.from_residual.result c.from_residual.ensures.1 in
    let e = c.in_err-take_ranks.field-0.0 in
    rw (p.1, p.2)
    (owners_stopped vars (length vars + 1) c.loop-c.start c.args.owned.now c.loop-c.c-index origin c.loop-c-test.true c.loop-c.invariant.start e c.args.collector.now c.loop-c.collector c.take_ranks.new.collector c.loop-c.invariant.taken
    (subst (IsTaken (Err e) c.loop-c.collector c.take_ranks.new.collector) is c.in_err-take_ranks.ensures))

pub loop-c-preserved : goal.loop-c-preserved
loop-c-preserved g c =
    let vars = c.args.universe.now.vars in
    let at = (goal.at.loop-c-preserved g c).After-digits_of_ranks-count in
    let so_far = c.loop-c.invariant.start in
    let more = sum_by_more (owner_count vars) c.args.owned.now c.loop-c.c-index origin c.loop-c-test.true in
    record {
      start = omega (arith, so_far, more, counted g at);
      taken = owners_taken vars (length vars + 1) c.loop-c.start c.args.owned.now c.loop-c.c-index origin c.loop-c-test.true so_far c.args.collector.now c.loop-c.collector c.take_ranks.new.collector c.loop-c.invariant.taken (subst (Takes c.loop-c.collector c.take_ranks.new.collector) (clauses g at) c.in_ok-take_ranks.ensures);
    }
