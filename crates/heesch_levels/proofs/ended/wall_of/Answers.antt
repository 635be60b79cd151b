use Rattle.std.proofs.Common.{true, false, subst}
use Rattle.std.specs.Prelude.{MatchOption}
use Rattle.heesch_levels.specs.Answer.{IsLevelAnswer, SpellsCoronas}
use Rattle.heesch_levels.specs.Wall.{RefutesWithoutCut}
use Rattle.heesch_levels.proofs.LevelFacts.{has_cut}
use Rattle.heesch_levels.proofs.ended.wall_of.Goals as goal

pub returns-in-Some-clause-holes : goal.returns-in-Some-clause-holes
returns-in-Some-clause-holes c = λ version g shape j turns size says known.
    let refutes = subst (IsLevelAnswer version g shape j true turns size) c.in-Refuted.is says in
    let holed = subst (λ o. MatchOption o (RefutesWithoutCut c.args.answer) (SpellsCoronas g shape j false)) c.in-Some.is known in
    (has_cut version g shape j size c.in-Refuted.proof c.in-Some.layers refutes holed, holed)
