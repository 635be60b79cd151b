use Rattle.std.proofs.Common.{◌≡◌, ◌≤◌, [], List, Bool, false, subst, arith}
use Rattle.std.specs.Prelude.{MatchOption}
use Rattle.heesch_cnf.specs.Clauses.{assignment_of}
use Rattle.heesch_cdcl.specs.Problem.{IsModel}
use Rattle.heesch_cert.specs.TrueEntry.{Spells}
use Rattle.heesch_grid.specs.Statements.{chosen_layers}
use Rattle.heesch_levels.proofs.LevelFacts.{spells_up_to}
use Rattle.heesch_levels.proofs.UpToFacts.{spells_level}
use Rattle.heesch_levels.proofs.ended.Ended.holed_layers.Goals as goal

pub returns-in_ok-layers-in-Refuted-Some : goal.returns-in_ok-layers-in-Refuted-Some
returns-in_ok-layers-in-Refuted-Some g c = λ version formula.
    let geometry = g.G.Grid.geometry in
    let a = c.args.self.now.asked in
    let u = a.universe in
    let s = c.args.self.now.search in
    let values = c.in-Refuted-Some.values in
    let layers = c.in_ok-layers-in-Refuted-Some.layers in
    let model = subst (λ o. MatchOption o (s.cuts ≡ []) (IsModel s.solver.vars s.solver.clauses)) c.in-Refuted-Some.is-1 c.requires.search.some_model in
    let spelled = subst (λ (vs : List Bool). Spells geometry u.shape layers.layers (chosen_layers (assignment_of vs) u.vars u.level)) c.as_slice.ensures c.in_ok-layers-in-Refuted-Some.ensures in
    let first : 0 ≤ u.level = omega arith in
    spells_level geometry u.shape u.level false layers
    (spells_up_to version geometry g.met.G.Grid.laws u a.free_levels s c.args.self.now.ending c.requires formula values model layers spelled 0 first tt)
