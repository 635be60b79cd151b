use Rattle.std.proofs.Common.{Bool, sym, subst}
use Rattle.std.specs.Prelude.{◌↔◌, IfOk, IsTrue}
use Rattle.heesch_cert.specs.declared.entry.Wall.{Wall}
use Rattle.heesch_cert.specs.TrueEntry.{WallShows}
use Rattle.heesch_logs.proofs.Equal.{granted}
use Rattle.heesch_audit.proofs.formula.LevelFormula.shows_wall.Goals as goal

pub returns-in-Absent : goal.returns-in-Absent
returns-in-Absent g c = let f = c.args.self.now in granted (subst (λ (w : Wall). WallShows g.G.Grid.geometry f.limits c.args.shape.now f.level w) (sym c.in-Absent.is) tt)

pub returns-in-Refuted : goal.returns-in-Refuted
returns-in-Refuted g c = let f = c.args.self.now in subst (λ (w : Wall). IfOk c.is_ended_by.result (λ (yes : Bool). IsTrue yes ↔ WallShows g.G.Grid.geometry f.limits c.args.shape.now f.level w)) (sym c.in-Refuted.is) c.is_ended_by.ensures

pub returns-in-Spent : goal.returns-in-Spent
returns-in-Spent g c = let f = c.args.self.now in subst (λ (w : Wall). IfOk c.is_ended_by-in-Spent.result (λ (yes : Bool). IsTrue yes ↔ WallShows g.G.Grid.geometry f.limits c.args.shape.now f.level w)) (sym c.in-Spent.is) c.is_ended_by-in-Spent.ensures

pub returns-in-Size : goal.returns-in-Size
returns-in-Size g c = let f = c.args.self.now in subst (λ (w : Wall). IsTrue c.is_too_large.result ↔ WallShows g.G.Grid.geometry f.limits c.args.shape.now f.level w) (sym c.in-Size.is) c.is_too_large.ensures
