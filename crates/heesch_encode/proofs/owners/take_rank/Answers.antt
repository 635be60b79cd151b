use Rattle.std.proofs.Common.{◌≡◌, ◌+◌, ◌∷◌, [], ◌∙◌}
use Rattle.std.proofs.lemmas.Result.{err_from_is_err_and}
use Rattle.heesch_encode.proofs.Holders.{bit_clause, bit_read, bit_taken, bit_stopped, bits_taken}
use Rattle.heesch_encode.proofs.owners.take_rank.Goals as goal
use Rattle.heesch_encode.proofs.owners.take_rank.Goals.{After-minus}

-- the clause of a bit, as it is written
written : (c : After-minus) → c.minus.result ∷ c.literal-owner.result ∷ [] ≡ bit_clause c.args.start (c.args.rank, c.args.var) c.loop-t.t
written c = λ k. c.minus.ensures k ∷ (c.literal-owner.ensures ∙ bit_read c.args.rank c.loop-t.t (c.args.start + c.loop-t.t)) k ∷ []

pub returns-in_err-take : goal.returns-in_err-take
returns-in_err-take c =
    let p = err_from_is_err_and c.from_residual.result c.from_residual.ensures.1 in
    rw (p.1, p.2) (bit_stopped c.args.start c.args.count (c.args.rank, c.args.var) c.loop-t.t c.loop-t-test.true _ (written (goal.at.returns-in_err-take c).After-minus) c.args.collector.now c.loop-t.collector c.take.new.self c.loop-t.invariant c.in_err-take.field-0.0 c.in_err-take.ensures)

pub loop-t-preserved : goal.loop-t-preserved
loop-t-preserved c =
    bit_taken c.args.start c.args.count (c.args.rank, c.args.var) c.loop-t.t c.loop-t-test.true _ (written (goal.at.loop-t-preserved c).After-minus) c.args.collector.now c.loop-t.collector c.take.new.self c.loop-t.invariant c.in_ok-take.ensures

pub returns : goal.returns
returns c = bits_taken c.args.start c.args.count (c.args.rank, c.args.var) c.loop-t.t c.loop-t-test.false c.args.collector.now c.loop-t.collector c.loop-t.invariant
