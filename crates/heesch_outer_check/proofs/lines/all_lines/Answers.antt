use Rattle.heesch_outer_check.proofs.Fronts.{all_or_none}
use Rattle.heesch_outer_check.proofs.lines.all_lines.Goals as goal

pub returns : goal.returns
returns c = all_or_none c.with_none_left.result (λ v. v.items) c.args.bytes.now c.in_ok-lines.rest.now c.in_ok-lines.lines.items c.in_ok-lines.ensures c.with_none_left.ensures
