use Rattle.std.proofs.Common.{◌≡◌, ◌+◌, [], rules, arith, ap, ◌∙◌}
use Rattle.std.proofs.lemmas.List.Elements.{All-push}
use Rattle.heesch_claims.specs.Board.{SeatView, BelongsTo}
use Rattle.heesch_pool.specs.Pool.{shares_of}
use Rattle.heesch_pool.proofs.Groups.{shares_push}
use Rattle.heesch_pool.proofs.seats.deal.Goals as goal

pub loop-preserved : goal.loop-preserved
loop-preserved c =
    let gave = ap (λ (s : SeatView). s.shares) c.in_ok-split.ensures.giver in
    let made = c.in_ok-split.field-0 in
    let one = c.in_ok-split.ensures.new in
    let total : shares_of c.push.new.self.items ≡ shares_of c.loop.seats.items + made.shares = ap shares_of c.in_ok-push.ensures.items ∙ shares_push c.loop.seats.items made in
    let fresh : BelongsTo made c.loop.board × (made.tickets ≡ []) = search rules in
    record {
      count = search rules;
      made = search rules;
      seat = search rules;
      kept_shares = omega arith;
      ready = rw (c.in_ok-push.ensures.items, c.in_ok-split.ensures.board) (All-push (λ s. BelongsTo s c.loop.board × (s.tickets ≡ [])) c.loop.seats.items made c.loop.invariant.ready fresh);
      some = search rules;
      given_shares = omega (arith, one.2);
    }

pub returns-clause-whole : goal.returns-clause-whole
returns-clause-whole c =
    let total : shares_of c.push-2.new.self.items ≡ shares_of c.loop.seats.items + c.loop.seat.shares = ap shares_of c.in_ok-push-2.ensures.items ∙ shares_push c.loop.seats.items c.loop.seat in omega arith
