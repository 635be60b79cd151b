use Rattle.std.proofs.Common.{rules, arith, ◌≡◌, ◌∷◌}
use Rattle.heesch_pool.proofs.Groups.{ready_apart, worked_alone, worked_apart, answers_apart}
use Rattle.heesch_pool.proofs.gather.+gather.Goals as goal

pub returns-then-is_empty-clause-worked : goal.returns-then-is_empty-clause-worked
returns-then-is_empty-clause-worked g t c =
    worked_alone c.args.board.now c.args.seats.now _ c.in-Some.rest.now c.in-Some.seat.now c.work.new.seat c.work.result (search rules) (search rules) (search rules) c.requires.ready
    c.work.ensures.place c.work.ensures.ended c.work.ensures.gained

pub join_mut-low-requires-after_bounds : goal.join_mut-low-requires-after_bounds
join_mut-low-requires-after_bounds g t c κs within =
    let is : c.args.seats.now ≡ c.in-Some.seat.now ∷ c.in-Some.rest.now = search rules in
    let ready = ready_apart c.args.board.now c.args.seats.now c.in-Some.rest.now c.in-Some.seat.now is c.requires.ready in grind arith

pub returns-clause-worked : goal.returns-clause-worked
returns-clause-worked g t c =
    worked_apart c.args.board.now c.args.seats.now _ c.in-Some.rest.now c.in-Some.seat.now c.join_mut-low.result.0 c.join_mut-low.result.1.0 c.both.result (search rules) (search rules) (search rules) c.both.ensures

pub returns-clause-answers : goal.returns-clause-answers
returns-clause-answers g t c =
    answers_apart (λ i r. g.W.Answer.gives c.args.job.now.work i r) c.args.from c.join_mut-low.result.0 c.join_mut-low.result.1.0 c.both.result (search rules) (search rules) c.both.ensures
