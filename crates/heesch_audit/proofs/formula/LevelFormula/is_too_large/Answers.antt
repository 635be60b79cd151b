use Rattle.std.proofs.Common.{rules}
use Rattle.heesch_audit.specs.Formulas.{IsFormulaAt}
use Rattle.heesch_logs.proofs.Equal.{refused}
use Rattle.heesch_audit.proofs.Proofs.{not_too_large}
use Rattle.heesch_audit.proofs.formula.LevelFormula.is_too_large.Goals as goal

pub returns-in-Some : goal.returns-in-Some
returns-in-Some g c =
    let geometry = g.G.Grid.geometry in
    let shape = c.args.shape.now in
    let self = c.args.self.now in
    let f = g.F.CoronaFormula.seen c.in-Some.field-0 in
    let at : IsFormulaAt self.limits.version geometry shape self.level self.limits.size f.universe f.formula = search rules in
    refused (not_too_large self.limits geometry g.met.G.Grid.laws shape c.requires.shape.is_shape.polyform self.level f.universe f.formula at)
