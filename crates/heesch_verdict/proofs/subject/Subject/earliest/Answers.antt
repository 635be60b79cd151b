use Rattle.std.proofs.Common.{subst, All}
use Rattle.std.proofs.lemmas.List.{take_all}
use Rattle.heesch_torus.specs.Answer.{IsTorusAnswer}
use Rattle.heesch_verdict.specs.Earliest.{IsPassedOver}
use Rattle.heesch_verdict.proofs.Firsts.{covered_next, none_open, passed_next}
use Rattle.heesch_verdict.proofs.subject.Subject.earliest.Goals as goal

pub returns-in-Tiles : goal.returns-in-Tiles
returns-in-Tiles g c =
    let answer = subst (IsTorusAnswer g.G.Grid.geometry c.args.self.now.shape.now c.triple-item.result c.args.self.now.limits.turns) c.in-Tiles.is c.in_ok-answer.ensures in
    λ before after o. covered_next g.G.Grid.geometry c.args.self.now.shape.now c.args.self.now.limits.turns c.args.left.now c.loop-triple.triple-index c.triple-item.result c.loop-triple-test.true c.triple-item.is c.loop-triple.invariant
    g.met.G.Grid.laws c.requires.shape c.requires.domains c.in-Tiles.tiling answer c.args.found.triple before after o

pub loop-triple-preserved : goal.loop-triple-preserved
loop-triple-preserved g c =
    passed_next g.G.Grid.geometry c.args.self.now.shape.now c.args.self.now.limits.turns c.args.left.now c.loop-triple.triple-index c.triple-item.result c.loop-triple-test.true c.triple-item.is c.loop-triple.invariant c.in_ok-answer.answer c.in_ok-answer.ensures c.in_default.not-Tiles

pub returns : goal.returns
returns g c =
    let left = c.args.left.now in
    let Passed = IsPassedOver g.G.Grid.geometry c.args.self.now.shape.now c.args.self.now.limits.turns in
    let all = subst (All Passed) (take_all c.loop-triple.triple-index left c.loop-triple-test.false) c.loop-triple.invariant in
    λ before after o. none_open g.G.Grid.geometry c.args.self.now.shape.now c.args.self.now.limits.turns before left after o c.args.found c.requires.found all
