use Rattle.std.proofs.Common.{◌≤◌, subst, length, arith}
use Rattle.heesch_cuts.specs.Chosen.{CutsOff}
use Rattle.heesch_levels.specs.Searching.{IsCutUpTo, IsInside}
use Rattle.heesch_levels.proofs.Inside.{cut_inside, fewer_inside, free_inside, if_ok_option}
use Rattle.heesch_levels.proofs.asked.Asked.cut.Goals as goal

pub cut_for-requires-in-Some-clause-values : goal.cut_for-requires-in-Some-clause-values
cut_for-requires-in-Some-clause-values g c =
    let a = c.args.self.now in
    let asked = c.requires.asked in
    let i = c.in-Some.inner in
    let values = c.args.values.now in
    let inside = subst (IsInside g.G.Grid.geometry a.universe a.free_levels) c.in-Some.is asked.inside in
    let fewer : length i.vars ≤ length a.universe.vars = fewer_inside g.G.Grid.geometry a.universe i asked.universe inside.0 inside.1 a.free_levels inside.2 asked.levels values in
    let long : length a.universe.vars ≤ length values = c.requires.values in
    omega (arith, fewer, long)

pub returns-in-Some : goal.returns-in-Some
returns-in-Some g c =
    let geometry = g.G.Grid.geometry in
    let a = c.args.self.now in
    let asked = c.requires.asked in
    let i = c.in-Some.inner in
    let values = c.args.values.now in
    let inside = subst (IsInside geometry a.universe a.free_levels) c.in-Some.is asked.inside in
    if_ok_option (CutsOff geometry i values) (λ cut. CutsOff geometry a.universe values cut × IsCutUpTo geometry a.universe a.free_levels cut)
    (free_inside geometry a.universe i asked.universe inside.0 inside.1 a.free_levels inside.2 asked.levels values) (cut_inside geometry a.universe i asked.universe inside.0 inside.1 a.free_levels inside.2 asked.levels values)
    c.cut_for-in-Some.result c.cut_for-in-Some.ensures
