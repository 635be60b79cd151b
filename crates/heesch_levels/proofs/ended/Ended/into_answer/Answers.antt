use Rattle.std.proofs.Common.{◌≡◌, List, [], Bool, All, sym, subst}
use Rattle.std.proofs.lemmas.List.Elements.{All-nil}
use Rattle.heesch_cnf.specs.Clauses.{assignment_of}
use Rattle.heesch_cnf.specs.declared.log.Log.{Log}
use Rattle.heesch_cert.specs.declared.proof.Cut.{Cut}
use Rattle.heesch_cert.specs.Proofs.{HasNoCut, IsLearnStep}
use Rattle.heesch_cert.specs.TrueEntry.{Spells}
use Rattle.heesch_grid.specs.Statements.{chosen_layers}
use Rattle.heesch_levels.specs.Steps.{proof_of, steps_of}
use Rattle.heesch_levels.proofs.LevelFacts.{says_coronas, says_refuted, says_spent}
use Rattle.heesch_levels.proofs.StepFacts.{steps_each}
use Rattle.heesch_levels.proofs.ended.Ended.into_answer.Goals as goal

-- the proof of a log to which no cut was given has none
without_cuts : (log : Log) (cuts : List Cut) → cuts ≡ [] → HasNoCut (proof_of log cuts)
without_cuts log cuts none =
    let learnt : All IsLearnStep (steps_of log.lines []) = steps_each (λ (cut : Cut). ⊥) IsLearnStep (λ clause hints. tt) (λ cut bad. absurd bad) log.lines [] (All-nil (λ (cut : Cut). ⊥)) in
    subst (λ (cs : List Cut). All IsLearnStep (steps_of log.lines cs)) (sym none) learnt

pub returns-in-Model-clause-answer : goal.returns-in-Model-clause-answer
returns-in-Model-clause-answer g c = λ version shape j k turns size under.
    let a = c.args.self.asked in
    let u = a.universe in
    let layers = c.in_ok-layers-in-Model.layers in
    let spelled = subst (λ (vs : List Bool). Spells g.G.Grid.geometry u.shape layers.layers (chosen_layers (assignment_of vs) u.vars u.level)) c.as_slice.ensures c.in_ok-layers-in-Model.ensures in
    says_coronas version g.G.Grid.geometry g.met.G.Grid.laws shape j k turns size u a.free_levels c.args.self.search c.args.self.ending c.requires under c.in-Model.values c.in-Model.is layers spelled

pub returns-in-Refuted-clause-answer : goal.returns-in-Refuted-clause-answer
returns-in-Refuted-clause-answer g c = λ version shape j k turns size under.
    let a = c.args.self.asked in
    let made = c.in_ok-proof-in-Refuted in
    says_refuted version g.G.Grid.geometry g.met.G.Grid.laws shape j k turns size a.universe a.free_levels c.args.self.search c.args.self.ending c.requires under c.in-Refuted.is made.proof made.ensures

pub returns-in-Refuted-clause-no_cut : goal.returns-in-Refuted-clause-no_cut
returns-in-Refuted-clause-no_cut g c = λ none.
    let s = c.args.self.search in
    subst HasNoCut (sym c.in_ok-proof-in-Refuted.ensures) (without_cuts s.solver.log s.cuts (none c.in-Refuted.is))

pub returns-clause-answer : goal.returns-clause-answer
returns-clause-answer g c = λ version shape j k turns size under.
    let a = c.args.self.asked in
    let made = c.in_ok-proof-in-Spent in
    says_spent version g.G.Grid.geometry g.met.G.Grid.laws shape j k turns size a.universe a.free_levels c.args.self.search c.args.self.ending c.requires under c.in-Spent.is made.proof made.ensures
