use Rattle.std.proofs.Common.{◌≡◌, ◌+◌, List, [], ◌∷◌, ◌++◌, length, take, All, subst, sym, rules}
use Rattle.std.proofs.lemmas.List.{take_all}
use Rattle.heesch_grid.specs.Lattice.{Triple}
use Rattle.heesch_torus.specs.Covers.{IsCoverAnswer}
use Rattle.std.proofs.lemmas.List.Elements.{All-nil, All-push}
use Rattle.heesch_verdict.specs.Alike.{IsAlikeOne}
use Rattle.heesch_verdict.specs.Earliest.{HasNoCover}
use Rattle.heesch_verdict.specs.Domains.{AreLeftOpen, IsTried}
use Rattle.heesch_verdict.proofs.Turned.{none_alike}
use Rattle.heesch_verdict.proofs.Firsts.{AreTried, domain_at, first_of_all, found_at, none_next, open_next, tried_at_first}
use Rattle.heesch_verdict.proofs.subject.Subject.first_cover.Goals as goal
use Rattle.heesch_verdict.proofs.subject.Subject.first_cover.Goals.{in-None+in_ok-push-in-None, in-Open+in_ok-push-in-Open}

pub loop-triple-init : goal.loop-triple-init
loop-triple-init g c =
    let geometry = g.G.Grid.geometry in
    let shape = c.args.self.now.shape.now in
    (subst (AreTried geometry shape 1000000 []) (sym c.new-left.ensures.items) (tried_at_first geometry shape 1000000), subst (All (HasNoCover geometry shape)) (sym c.new-uncovered.ensures.items) (All-nil (HasNoCover geometry shape)))

pub find_cover-requires-clause-domain : goal.find_cover-requires-clause-domain
find_cover-requires-clause-domain g c =
    domain_at g.G.Grid.geometry (length c.args.self.now.shape.now) c.args.self.now.limits.domain c.requires.limits.domain_range.1 c.args.triples.now c.requires.triples c.loop-triple.triple-index c.triple-item.result c.loop-triple-test.true c.triple-item.is

pub earliest-requires-clause-found : goal.earliest-requires-clause-found
earliest-requires-clause-found g c =
    let chosen = subst (IsCoverAnswer g.G.Grid.geometry c.args.self.now.shape.now c.triple-item.result 1000000) c.in-Tiles.is c.in_ok-tiling.ensures in
    (found_at g.G.Grid.geometry g.met.G.Grid.laws c.args.self.now.limits c.requires.limits.domain_range.1 c.args.self.now.shape.now c.requires.shape c.args.triples.now c.requires.triples c.loop-triple.triple-index c.triple-item.result c.loop-triple-test.true c.triple-item.is c.in-Tiles.tiling chosen).1

pub returns-in-Tiles : goal.returns-in-Tiles
returns-in-Tiles g c =
    let chosen = subst (IsCoverAnswer g.G.Grid.geometry c.args.self.now.shape.now c.triple-item.result 1000000) c.in-Tiles.is c.in_ok-tiling.ensures in
    let left = subst (AreLeftOpen g.G.Grid.geometry c.args.self.now.shape.now (take c.loop-triple.triple-index c.args.triples.now)) (sym c.as_slice.ensures.value) c.loop-triple.invariant.0.are_open in
    first_of_all g.G.Grid.geometry g.met.G.Grid.laws c.args.self.now.limits c.requires.limits.domain_range.1 c.args.self.now.shape.now c.requires.shape c.args.triples.now c.requires.triples c.loop-triple.triple-index c.triple-item.result c.loop-triple-test.true c.triple-item.is c.in-Tiles.tiling chosen
    c.as_slice.result.now left c.in_ok-tiling-in-Tiles.tiling c.in_ok-tiling-in-Tiles.ensures

pub loop-triple-preserved-then-is_alike : goal.loop-triple-preserved-then-is_alike
loop-triple-preserved-then-is_alike g c =
    let alike = subst (IsAlikeOne g.G.Grid.geometry c.triple-item.result) c.deref.ensures.value (c.is_alike.ensures c.if-is_alike.true) in
    let none = none_alike g.G.Grid.geometry g.met.G.Grid.laws c.args.self.now.shape.now c.triple-item.result c.loop-triple.uncovered.items alike c.loop-triple.invariant.1 in
    (none_next g.G.Grid.geometry c.args.self.now.shape.now 1000000 c.args.triples.now c.loop-triple.triple-index c.triple-item.result c.loop-triple-test.true c.triple-item.is c.loop-triple.left.items none c.loop-triple.invariant.0, c.loop-triple.invariant.1)

pub loop-triple-preserved : goal.loop-triple-preserved
loop-triple-preserved g c =
    let geometry = g.G.Grid.geometry in
    let shape = c.args.self.now.shape.now in
    let t = c.triple-item.result in
    let domain = domain_at geometry (length shape) c.args.self.now.limits.domain c.requires.limits.domain_range.1 c.args.triples.now c.requires.triples c.loop-triple.triple-index t c.loop-triple-test.true c.triple-item.is in
    let old = c.loop-triple.left.items in
    let uncovered = c.loop-triple.uncovered.items in
    let At : List Triple → Type 0 = AreTried geometry shape 1000000 (take (c.loop-triple.triple-index + 1) c.args.triples.now) in
    let NoneOf : List Triple → Type 0 = All (HasNoCover geometry shape) in
    elim c.match-branch-2.branch [
      | in-None+in_ok-push-in-None w ↦
          let none = subst (IsCoverAnswer geometry shape t 1000000) w.in-None.is c.in_ok-tiling.ensures in
          let same : c.match-branch-2.left.items ≡ old = λ i. (w.left-is i).items in
          let pushed : c.match-branch-2.uncovered.items ≡ uncovered ++ t ∷ [] = search rules in (
            subst At (sym same) (none_next geometry shape 1000000 c.args.triples.now c.loop-triple.triple-index t c.loop-triple-test.true c.triple-item.is old none c.loop-triple.invariant.0),
            subst NoneOf (sym pushed) (All-push (HasNoCover geometry shape) uncovered t c.loop-triple.invariant.1 none),
          )
      | in-Open+in_ok-push-in-Open w ↦
          let open_answer = subst (IsCoverAnswer geometry shape t 1000000) w.in-Open.is c.in_ok-tiling.ensures in
          let same : c.match-branch-2.left.items ≡ old ++ t ∷ [] = search rules in
          let kept : c.match-branch-2.uncovered.items ≡ uncovered = λ i. (w.uncovered-is i).items in (
            subst At (sym same) (open_next geometry shape 1000000 c.args.triples.now c.loop-triple.triple-index t c.loop-triple-test.true c.triple-item.is old domain open_answer c.loop-triple.invariant.0),
            subst NoneOf (sym kept) c.loop-triple.invariant.1,
          )
    ]

pub returns : goal.returns
returns g c =
    let Tried = IsTried g.G.Grid.geometry c.args.self.now.shape.now 1000000 in
    subst (All Tried) (take_all c.loop-triple.triple-index c.args.triples.now c.loop-triple-test.false) c.loop-triple.invariant.0.tried
