use Rattle.std.proofs.Common.{◌≡◌, ◌+◌, [], false, vec_len}
use Rattle.heesch_claims.specs.Board.{BelongsTo}
use Rattle.heesch_pool.specs.Pool.{AreReady, shares_of}
use Rattle.heesch_pool.proofs.seats.deal.Given as goal

abbrev pub invariant-loop : goal.invariant-loop
invariant-loop l = record {
  count : l.board.count ≡ l.count;
  made : l.board.made ≡ l.counter;
  seat : BelongsTo l.seat l.board × (l.seat.tickets ≡ []) × (l.seat.ended ≡ false);
  kept_shares : l.seat.shares + l.counter ≡ 65;
  ready : AreReady l.board l.seats.items;
  some : vec_len l.seats + 1 ≡ l.counter;
  given_shares : shares_of l.seats.items + 1 ≡ l.counter;
}
