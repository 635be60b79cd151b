use Rattle.std.proofs.Common.{◌≡◌, List, sym, subst, arith}
use Rattle.heesch_torus.specs.Variables.{TorusVariable, AreVariables}
use Rattle.heesch_torus.specs.Trying.{HasTried}
use Rattle.heesch_torus.proofs.Outcomes.{if_ok}
use Rattle.heesch_torus.proofs.Tried.{all_tried}
use Rattle.heesch_torus.proofs.variables.variables_of_tiles.Goals as goal

pub returns : goal.returns
returns g c =
    let geometry = g.G.Grid.geometry in
    let turns : c.loop-turn.turn ≡ g.G.Grid.geometry.turns = omega (arith, c.loop-turn-test.false, c.loop-turn.auto.turn-end, c.TURNS-turn-end.ensures, g.met.G.Grid.sizes.turns_is) in
    let tried : HasTried g.G.Grid.geometry c.args.tiles.now.cells.now c.args.tiles.now.triple g.G.Grid.geometry.turns 0 c.loop-turn.found = subst (λ n. HasTried g.G.Grid.geometry c.args.tiles.now.cells.now c.args.tiles.now.triple n 0 c.loop-turn.found) turns c.loop-turn.invariant in
    let are = all_tried geometry g.met.G.Grid.laws c.args.tiles.now.cells.now c.args.tiles.now.triple c.args.tiles.now.lattice c.loop-turn.found c.into_variables.ensures.rising tried in
    if_ok c.into_variables.result (λ v all. subst (λ (vs : List TorusVariable). AreVariables g.G.Grid.geometry c.args.tiles.now.cells.now c.args.tiles.now.triple vs) (sym all) are) c.into_variables.ensures.all
