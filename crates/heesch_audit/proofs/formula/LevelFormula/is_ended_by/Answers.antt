use Rattle.std.proofs.Common.{◌≡◌, sym, subst, rules}
use Rattle.std.specs.Prelude.{Option, MatchOption}
use Rattle.std.proofs.lemmas.Result.{IfOk-weaker}
use Rattle.heesch_cnf.specs.declared.log.Log.{Log}
use Rattle.heesch_cert.specs.Proofs.{IsTooLarge}
use Rattle.heesch_place.specs.Universes.{Levels, IsUniverseOf}
use Rattle.heesch_audit.specs.Formulas.{IsFormulaAt}
use Rattle.heesch_logs.specs.Admitted.{IsAdmitted, IsLogOf}
use Rattle.heesch_logs.proofs.Equal.{refused, through}
use Rattle.heesch_audit.proofs.Proofs.{ends_coronas, too_large_not_ended, unlawful_not_ended}
use Rattle.heesch_audit.proofs.formula.LevelFormula.is_ended_by.Goals as goal

pub returns-in_default : goal.returns-in_default
returns-in_default g c =
    let geometry = g.G.Grid.geometry in
    let shape = c.args.shape.now in
    let self = c.args.self.now in
    let large : IsTooLarge self.limits.version geometry shape self.level self.limits.size = search rules in
    refused (too_large_not_ended self.limits geometry g.met.G.Grid.laws shape c.requires.shape.is_shape.polyform self.level c.args.end c.args.proof.now large)

pub admitted_log-requires-clause-universe : goal.admitted_log-requires-clause-universe
admitted_log-requires-clause-universe g c =
    let geometry = g.G.Grid.geometry in
    let self = c.args.self.now in
    let f = g.F.CoronaFormula.seen c.in-Some.formula in
    let at : IsFormulaAt self.limits.version geometry c.args.shape.now self.level self.limits.size f.universe f.formula = search rules in
    subst (λ (u : Levels). IsUniverseOf geometry u) (sym c.variables-universe.ensures) at.is_universe

pub admitted_log-requires-clause-shape : goal.admitted_log-requires-clause-shape
admitted_log-requires-clause-shape g c =
    let geometry = g.G.Grid.geometry in
    let self = c.args.self.now in
    let f = g.F.CoronaFormula.seen c.in-Some.formula in
    let at : IsFormulaAt self.limits.version geometry c.args.shape.now self.level self.limits.size f.universe f.formula = search rules in
    subst (λ (u : Levels). u.shape ≡ c.args.shape.now) (sym c.variables-universe.ensures) at.same_shape

pub returns-in_default-2 : goal.returns-in_default-2
returns-in_default-2 g c =
    let geometry = g.G.Grid.geometry in
    let shape = c.args.shape.now in
    let self = c.args.self.now in
    let proof = c.args.proof.now in
    let f = g.F.CoronaFormula.seen c.in-Some.formula in
    let u = c.variables-universe.result.now in
    let own : IsFormulaAt self.limits.version geometry shape self.level self.limits.size f.universe f.formula = search rules in
    let at = subst (λ (w : Levels). IsFormulaAt self.limits.version geometry shape self.level self.limits.size w f.formula) (sym c.variables-universe.ensures) own in
    let k = c.level.result in
    let fails = subst (λ (o : Option Log). MatchOption o (¬ IsAdmitted geometry u k proof) (IsLogOf geometry u k proof)) c.in_default-2.is c.in_ok-log.ensures in
    refused (unlawful_not_ended self.limits geometry g.met.G.Grid.laws shape c.requires.shape.is_shape.polyform self.level u f.formula at proof c.args.end k c.level.ensures.level c.requires.near fails)

pub returns : goal.returns
returns g c =
    let geometry = g.G.Grid.geometry in
    let shape = c.args.shape.now in
    let self = c.args.self.now in
    let proof = c.args.proof.now in
    let f = g.F.CoronaFormula.seen c.in-Some.formula in
    let u = c.variables-universe.result.now in
    let own : IsFormulaAt self.limits.version geometry shape self.level self.limits.size f.universe f.formula = search rules in
    let at = subst (λ (w : Levels). IsFormulaAt self.limits.version geometry shape self.level self.limits.size w f.formula) (sym c.variables-universe.ensures) own in
    let k = c.level.result in
    let is = subst (λ (o : Option Log). MatchOption o (¬ IsAdmitted geometry u k proof) (IsLogOf geometry u k proof)) c.in-Some-2.is c.in_ok-log.ensures in
    let both = ends_coronas self.limits geometry g.met.G.Grid.laws shape c.requires.shape.is_shape.polyform self.level u f.formula at proof c.in-Some-2.log k is c.args.end in
    IfOk-weaker c.is_ended.result _ _ (λ yes h. through h both) c.is_ended.ensures
