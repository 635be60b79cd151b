use Rattle.std.proofs.Common.{◌≡◌, ◌-◌, ◌++◌}
use Rattle.heesch_claims.specs.Board.{IsSamePlace}
use Rattle.heesch_pool.specs.Pool.{tickets_of, AnswersEach}
use Rattle.heesch_pool.proofs.Pairs.{bound_of}
use Rattle.heesch_pool.proofs.workers.work.Given as goal

abbrev pub invariant-loop-ticket : goal.invariant-loop-ticket
invariant-loop-ticket g l = record {
  place : IsSamePlace l.initial.seat l.seat;
  shares : l.seat.shares ≡ l.initial.seat.shares;
  gained : l.seat.tickets ≡ l.initial.seat.tickets ++ tickets_of l.pairs.items;
  answers : AnswersEach (λ i r. g.W.Answer.gives l.job.work i r) l.from l.pairs.items;
}

abbrev pub decreases-loop-ticket : goal.decreases-loop-ticket
decreases-loop-ticket g l = l.board.count - bound_of l.seat.tickets
