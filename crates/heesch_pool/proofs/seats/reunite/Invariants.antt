use Rattle.std.proofs.Common.{◌≡◌, ◌+◌, ℕ, true, vec_len}
use Rattle.std.specs.Prelude.{All}
use Rattle.heesch_claims.specs.Machine.{times}
use Rattle.heesch_claims.specs.Board.{BelongsTo}
use Rattle.heesch_pool.specs.Pool.{shares_of, stands_with}
use Rattle.heesch_pool.proofs.seats.reunite.Given as goal

abbrev pub invariant-loop-seat : goal.invariant-loop-seat
invariant-loop-seat l = record {
  same : l.board ≡ l.initial.board;
  ended : All (λ s. BelongsTo s l.initial.board × (s.ended ≡ true)) l.seats.items;
  whole : BelongsTo l.whole l.initial.board × (l.whole.ended ≡ true);
  shares : l.whole.shares + shares_of l.seats.items ≡ shares_of l.fn.seats.items;
  claimed : (x : ℕ) → times x l.whole.tickets + stands_with x l.seats.items ≡ stands_with x l.fn.seats.items;
}

abbrev pub decreases-loop-seat : goal.decreases-loop-seat
decreases-loop-seat l = vec_len l.seats
