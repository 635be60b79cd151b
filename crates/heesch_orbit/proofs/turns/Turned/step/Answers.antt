use Rattle.std.proofs.Common.{◌≡◌}
use Rattle.heesch_grid.specs.declared.Cell.{Cell}
use Rattle.heesch_orbit.specs.Steps.{IsStep, IsStepBetween}
use Rattle.heesch_orbit.specs.Turned.{first_of}
use Rattle.heesch_orbit.proofs.Images.{listed_near, listed_to, listed_from, listed_only}
use Rattle.heesch_orbit.proofs.Options.{some_also, none_also}
use Rattle.heesch_orbit.proofs.turns.Turned.step.Goals as goal

pub step_between-requires-clause-from_near : goal.step_between-requires-clause-from_near
step_between-requires-clause-from_near g c = listed_near g.G.Grid.geometry g.met.G.Grid.laws (first_of c.self.inside.images.items) c.self.inside.images.items c.self.invariant c.args.from c.requires.from c.index.result.now c.index.ensures

pub step_between-requires-clause-to_near : goal.step_between-requires-clause-to_near
step_between-requires-clause-to_near g c = listed_near g.G.Grid.geometry g.met.G.Grid.laws (first_of c.self.inside.images.items) c.self.inside.images.items c.self.invariant c.args.to c.requires.to c.index-2.result.now c.index-2.ensures

pub returns-clause-some : goal.returns-clause-some
returns-clause-some g c =
    some_also (IsStepBetween g.G.Grid.geometry c.index.result.now c.index-2.result.now) (IsStep g.G.Grid.geometry c.args.self.now c.args.from c.args.to)
    (listed_to g.G.Grid.geometry g.met.G.Grid.laws (first_of c.self.inside.images.items) c.self.inside.images.items c.self.invariant c.args.from c.args.to c.requires.from c.requires.to c.index.result.now c.index-2.result.now c.index.ensures c.index-2.ensures c.args.self.now c.self.view_is)
    c.step_between.result c.step_between.ensures.some

pub returns-clause-none : goal.returns-clause-none
returns-clause-none g c =
    none_also ((w : Cell) → IsStepBetween g.G.Grid.geometry c.index.result.now c.index-2.result.now w → ⊥) ((w : Cell) → IsStep g.G.Grid.geometry c.args.self.now c.args.from c.args.to w → ⊥)
    (λ none w h. none w (listed_from g.G.Grid.geometry g.met.G.Grid.laws (first_of c.self.inside.images.items) c.self.inside.images.items c.self.invariant c.args.from c.args.to c.requires.from c.requires.to c.index.result.now c.index-2.result.now c.index.ensures c.index-2.ensures c.args.self.now c.self.view_is w h))
    c.step_between.result c.step_between.ensures.none

pub returns-clause-only : goal.returns-clause-only
returns-clause-only g c =
    some_also (IsStepBetween g.G.Grid.geometry c.index.result.now c.index-2.result.now) (λ v. (w : Cell) → IsStep g.G.Grid.geometry c.args.self.now c.args.from c.args.to w → w ≡ v)
    (listed_only g.G.Grid.geometry g.met.G.Grid.laws (first_of c.self.inside.images.items) c.self.inside.images.items c.self.invariant c.args.from c.args.to c.requires.from c.requires.to c.index.result.now c.index-2.result.now c.index.ensures c.index-2.ensures c.args.self.now c.self.view_is)
    c.step_between.result c.step_between.ensures.some
