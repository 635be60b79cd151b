use Rattle.std.proofs.Common.{◌<◌, ◌≤◌, ◌^◌, arith, length, subst, sym}
use Rattle.heesch_place.specs.Universes.{Levels}
use Rattle.heesch_search.proofs.proposals.advice_on.Goals as goal

pub search_level-requires-clause-few : goal.search_level-requires-clause-few
search_level-requires-clause-few g c =
    let s = c.args.source.now in
    let count = c.requires.source.formula.count_is in
    let vars = c.vars-vars.ensures.vars in
    let small = c.vars-vars.ensures.small in
    let few : length s.universe.vars < 2 ^ 31 = omega (arith, count, vars, small) in
    subst (λ (u : Levels). length u.vars < 2 ^ 31) (sym c.universe.ensures) few
