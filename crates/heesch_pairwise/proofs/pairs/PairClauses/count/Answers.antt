use Rattle.std.proofs.Common.{ap, sum, ◌∙◌}
use Rattle.std.specs.List.{enumerate_from}
use Rattle.heesch_encode.specs.Families.{apart_at}
use Rattle.heesch_numbers.proofs.Counting.{all_counted}
use Rattle.heesch_pairwise.proofs.pairs.PairClauses.count.Goals as goal

pub returns : goal.returns
returns g c = let vars = c.args.universe.now.vars in c.total.ensures ∙ ap sum c.requires ∙ all_counted (apart_at vars) (enumerate_from 1 vars)
