use Rattle.std.proofs.Common.{rules, arith}
use Rattle.std.proofs.lemmas.Grind.{common_steps}
use Rattle.heesch_claims.specs.declared.event.Event.TheVariants.{Draw}
use Rattle.heesch_claims.proofs.Sound.{reached_by, reached_is_sound}
use Rattle.heesch_claims.proofs.machine.ClaimCore.draw.Goals as goal

pub invariant_of-self-then-self-from : goal.invariant_of-self-then-self-from
invariant_of-self-then-self-from c = reached_by c.args.self.now _ (Draw c.args.who) c.requires (rw (← c.self.view_is) c.self.invariant) (grind (arith, common_steps))

pub overflow_add-self-else-self-from : goal.overflow_add-self-else-self-from
overflow_add-self-else-self-from c = let p = (reached_is_sound _ c.self.invariant).1.past in search rules

pub invariant_of-self-else-self-from : goal.invariant_of-self-else-self-from
invariant_of-self-else-self-from c = reached_by c.args.self.now _ (Draw c.args.who) c.requires (rw (← c.self.view_is) c.self.invariant) (grind (arith, common_steps))
