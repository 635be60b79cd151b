use Rattle.std.proofs.Common.{length, ap, arith}
use Rattle.std.proofs.lemmas.List.{length-map}
use Rattle.std.proofs.lemmas.List.Elements.{All-weaker, All-contains}
use Rattle.std.specs.List.{Contains}
use Rattle.heesch_cnf.specs.Lines.{IsNumber}
use Rattle.heesch_trail.specs.declared.step.Step.{Step}
use Rattle.heesch_cdcl.proofs.ReadSteps.{made-in_range}
use Rattle.heesch_cdcl.proofs.workspace.Workspace.fewest_open.Goals as goal

pub fewest_in-best-requires-clause-numbers : goal.fewest_in-best-requires-clause-numbers
fewest_in-best-requires-clause-numbers c =
    let numbers = c.args.self.now.decisions.covers.numbers in
    let is = IsNumber c.args.self.now.trail.clauses in
    All-weaker (Contains numbers) is (λ n has. All-contains is numbers n c.args.self.now.guides.numbers has) c.guarded_by.result.now c.guarded_by.ensures

pub guarded_by-requires-then-lit : goal.guarded_by-requires-then-lit
guarded_by-requires-then-lit c =
    let range = made-in_range c.args.self.now.trail c.made-made.result.now c.loop-place.place c.made-made.ensures.valid c.made-made.ensures.made (omega (arith, ap length c.made-made.ensures.made, length-map c.args.self.now.trail.steps (λ (s : Step). s.lit))) in
    omega (arith, c.args.self.now.guides.vars)

pub fewest_in-best-requires-then-lit-clause-numbers : goal.fewest_in-best-requires-then-lit-clause-numbers
fewest_in-best-requires-then-lit-clause-numbers c =
    let numbers = c.args.self.now.decisions.covers.numbers in
    let is = IsNumber c.args.self.now.trail.clauses in
    All-weaker (Contains numbers) is (λ n has. All-contains is numbers n c.args.self.now.guides.numbers has) c.guarded_by-then-lit.result.now c.guarded_by-then-lit.ensures
