use Rattle.std.proofs.Common.{◌≡◌, List, ℕ, take, subst, arith}
use Rattle.std.specs.Prelude.{flat_map}
use Rattle.std.specs.List.{enumerate_from}
use Rattle.std.proofs.lemmas.List.{take_all}
use Rattle.std.proofs.lemmas.List.FromFn.{length-enumerate_from}
use Rattle.std.proofs.lemmas.Result.{err_from_is_err_and}
use Rattle.heesch_grid.specs.OwnerFormula.{rank_clauses}
use Rattle.heesch_cert.specs.Literals.{literals}
use Rattle.heesch_encode.specs.Taking.{Takes}
use Rattle.heesch_encode.proofs.Holders.{rank_taken, rank_stopped}
use Rattle.heesch_encode.proofs.owners.take_ranks.Goals as goal

pub returns-in_err-take_rank : goal.returns-in_err-take_rank
returns-in_err-take_rank c =
    let p = err_from_is_err_and c.from_residual.result c.from_residual.ensures.1 in
    rw (p.1, p.2) (rank_stopped c.args.start c.args.count c.args.holders.now c.loop-rank.rank c.loop-rank-test.true c.args.collector.now c.loop-rank.collector c.take_rank.new.collector c.loop-rank.invariant c.in_err-take_rank.field-0.0 c.in_err-take_rank.ensures)

pub loop-rank-preserved : goal.loop-rank-preserved
loop-rank-preserved c =
    rank_taken c.args.start c.args.count c.args.holders.now c.loop-rank.rank c.loop-rank-test.true c.args.collector.now c.loop-rank.collector c.take_rank.new.collector c.loop-rank.invariant c.in_ok-take_rank.ensures

pub returns : goal.returns
returns c =
    let entries : List (ℕ × ℕ) = enumerate_from 0 c.args.holders.now in
    let long = length-enumerate_from 0 c.args.holders.now in
    let whole : take c.loop-rank.rank entries ≡ entries = take_all c.loop-rank.rank entries (omega (arith, long, c.loop-rank-test.false)) in
    subst (λ zs. Takes c.args.collector.now c.loop-rank.collector (flat_map (rank_clauses literals c.args.start c.args.count) zs)) whole c.loop-rank.invariant
