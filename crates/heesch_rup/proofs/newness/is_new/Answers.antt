use Rattle.std.proofs.Common.{Bool, Option, List, ap, ◌∙◌}
use Rattle.heesch_cnf.specs.Literals.{held}
use Rattle.heesch_rup.proofs.newness.is_new.Goals as goal

pub is_new_under-fresh-requires-clause-refuted : goal.is_new_under-fresh-requires-clause-refuted
is_new_under-fresh-requires-clause-refuted g c = ap (λ (vs : List (Option Bool)). held vs) c.deref.ensures.value ∙ c.in_ok-refute.ensures.ok
