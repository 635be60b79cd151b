use Rattle.std.proofs.Common.{rules, arith, ap, ◌∙◌}
use Rattle.heesch_pool.proofs.Pairs.{bound_of, bound_le, bound_snoc, gained_snoc, answers_snoc}
use Rattle.heesch_pool.proofs.workers.work.Goals as goal

pub loop-ticket-smaller : goal.loop-ticket-smaller
loop-ticket-smaller g c =
    let told = c.in-Some.ensures.ticket in
    let low = bound_le c.loop-ticket.seat.tickets c.in-Some.ticket told.1 in
    let high = bound_snoc c.loop-ticket.seat.tickets c.in-Some.ticket in
    let is = ap bound_of told.2 in
    let below = told.0 in omega arith

pub loop-ticket-preserved : goal.loop-ticket-preserved
loop-ticket-preserved g c =
    let told = c.in-Some.ensures.ticket in record {
      place = search rules;
      shares = search rules;
      gained = told.2 ∙ gained_snoc c.loop-ticket.seat.tickets c.args.seat.now.tickets c.loop-ticket.pairs.items c.push.new.self.items c.in-Some.ticket c.in_ok-item.item c.loop-ticket.invariant.gained c.in_ok-push.ensures.items;
      answers = answers_snoc (λ i r. g.W.Answer.gives c.args.job.now.work i r) c.args.from c.loop-ticket.pairs.items c.push.new.self.items c.in-Some.ticket c.in_ok-item.item c.loop-ticket.invariant.answers (search rules) c.in_ok-push.ensures.items;
    }
