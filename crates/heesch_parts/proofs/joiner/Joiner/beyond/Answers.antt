use Rattle.std.proofs.Common.{subst, sym}
use Rattle.heesch_parts.specs.Joining.{Joining, IsFed}
use Rattle.heesch_parts.proofs.joiner.Joiner.beyond.Goals as goal

pub returns : goal.returns
returns c = λ before given fed. c.beyond.ensures before given (subst (λ (j : Joining). IsFed before given j.kept) (sym c.self.view_is) fed)
