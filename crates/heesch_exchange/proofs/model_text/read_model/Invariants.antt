use Rattle.std.proofs.Common.{length}
use Rattle.heesch_exchange.proofs.Walk.{HasRead}
use Rattle.heesch_exchange.proofs.model_text.read_model.Given as goal

abbrev pub invariant-loop-first : goal.invariant-loop-first
invariant-loop-first l = HasRead l.vars l.text l.literals l.named.items l.place l.line l.rest

abbrev pub decreases-loop-first : goal.decreases-loop-first
decreases-loop-first l = length l.rest
