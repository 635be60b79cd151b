use Rattle.std.proofs.Common.{ap, ◌∙◌}
use Rattle.heesch_numbers.specs.Sourced.{Sourced}
use Rattle.heesch_pairwise.proofs.source.PairwiseSource.universe.Goals as goal

pub returns : goal.returns
returns g c = c.universe.ensures.universe ∙ ap (λ (s : Sourced). s.universe) c.self.view_is
