use Rattle.std.proofs.Common.{ℕ, ◌<◌, List, All, Contains, refl, subst, inl, arith}
use Rattle.heesch_torus.specs.Beside.{FillBeside, CountsChoices, IsFilling}
use Rattle.heesch_torus.specs.Covers.{unmoved}
use Rattle.heesch_torus.proofs.Masking.{double_unmasked}
use Rattle.heesch_torus.proofs.Filled.{filled_with, none_with, within_full}
use Rattle.heesch_torus.proofs.Turning.{choices_are}
use Rattle.heesch_torus.proofs.cover.fill_at.Goals as goal

pub fill_beside-requires-clause-within : goal.fill_beside-requires-clause-within
fill_beside-requires-clause-within g c = within_full g.G.Grid.geometry c.args.torus.now.cells.now c.args.torus.now.triple c.args.torus.now.full c.args.torus.now.whole (unmoved c.args.turn) c.in-Some.first c.in-Some.ensures.found

pub returns-in_default-clause-answer : goal.returns-in_default-clause-answer
returns-in_default-clause-answer g c = λ first is found inside fills. double_unmasked g.G.Grid.geometry c.args.torus.now.cells.now c.args.torus.now.triple g.met.G.Grid.laws c.args.torus.now.maskable.triple (unmoved c.args.turn) first c.in_default.ensures.none is

pub returns-in_ok-push-in-Filled-clause-answer : goal.returns-in_ok-push-in-Filled-clause-answer
returns-in_ok-push-in-Filled-clause-answer g c =
    filled_with g.G.Grid.geometry c.args.torus.now.cells.now c.args.torus.now.triple c.args.turn c.requires.turn c.args.masks.now c.requires.masks c.args.torus.now.full c.in-Some.first c.in-Some.ensures.found c.in-Filled.masks c.push.new.self c.in_ok-push-in-Filled.ensures.ok
    (subst (IsFilling c.args.masks.now c.in-Some.first c.args.torus.now.full c.args.nodes.now) c.in-Filled.is c.in_ok-filling.ensures.answer)

pub returns-in-None-clause-answer : goal.returns-in-None-clause-answer
returns-in-None-clause-answer g c =
    let none : (found : List ℕ) → All (Contains c.args.masks.now) found → ¬ FillBeside c.in-Some.first c.args.torus.now.full found = subst (IsFilling c.args.masks.now c.in-Some.first c.args.torus.now.full c.args.nodes.now) c.in-None.is c.in_ok-filling.ensures.answer in
    none_with g.G.Grid.geometry c.args.torus.now.cells.now c.args.torus.now.triple c.args.turn c.args.torus.now.full c.in-Some.first c.in-Some.ensures.found c.args.masks.now none

pub returns-in_default-clause-spent : goal.returns-in_default-clause-spent
returns-in_default-clause-spent g c = (0, inl (c.in_default.ensures.none, refl), omega arith)

pub returns-in_ok-push-in-Filled-clause-spent : goal.returns-in_ok-push-in-Filled-clause-spent
returns-in_ok-push-in-Filled-clause-spent g c =
    let s = c.in_ok-filling.ensures.spent in
    (s.0, choices_are g.G.Grid.geometry c.args.torus.now.cells.now c.args.torus.now.triple c.args.torus.now.full c.args.turn c.in-Some.first c.in-Some.ensures.found c.args.masks.now c.requires.masks s.0 s.1, s.2)

pub returns-in-None-clause-spent : goal.returns-in-None-clause-spent
returns-in-None-clause-spent g c =
    let s = c.in_ok-filling.ensures.spent in
    (s.0, choices_are g.G.Grid.geometry c.args.torus.now.cells.now c.args.torus.now.triple c.args.torus.now.full c.args.turn c.in-Some.first c.in-Some.ensures.found c.args.masks.now c.requires.masks s.0 s.1, s.2)

pub returns-in-Open-clause-answer : goal.returns-in-Open-clause-answer
returns-in-Open-clause-answer g c =
    let few : (count : ℕ) × CountsChoices c.args.masks.now c.in-Some.first c.args.torus.now.full count × (c.args.nodes.now < count) = subst (IsFilling c.args.masks.now c.in-Some.first c.args.torus.now.full c.args.nodes.now) c.in-Open.is c.in_ok-filling.ensures.answer in
    (few.0, choices_are g.G.Grid.geometry c.args.torus.now.cells.now c.args.torus.now.triple c.args.torus.now.full c.args.turn c.in-Some.first c.in-Some.ensures.found c.args.masks.now c.requires.masks few.0 few.1, few.2)

pub returns-in-Open-clause-spent : goal.returns-in-Open-clause-spent
returns-in-Open-clause-spent g c =
    let s = c.in_ok-filling.ensures.spent in
    (s.0, choices_are g.G.Grid.geometry c.args.torus.now.cells.now c.args.torus.now.triple c.args.torus.now.full c.args.turn c.in-Some.first c.in-Some.ensures.found c.args.masks.now c.requires.masks s.0 s.1, s.2)
