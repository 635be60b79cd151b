use Rattle.heesch_exchange.proofs.FirstLines.{endless_on, not_endless}
use Rattle.heesch_exchange.proofs.shapes.is_endless.Goals as goal

pub returns-clause-endless : goal.returns-clause-endless
returns-clause-endless g c = λ late rest.
    endless_on g.row.MOST c.args.front.now rest (record {
      line = c.first_line.result.0.now;
      behind = c.first_line.result.1.now;
      first = c.first_line.ensures;
      late = c.is_late.ensures.late late;
    })

pub returns-clause-ends : goal.returns-clause-ends
returns-clause-ends g c = λ in_time. not_endless g.row.MOST c.args.front.now c.first_line.result.0.now c.first_line.result.1.now c.first_line.ensures (c.is_late.ensures.in_time in_time)
