use Rattle.std.proofs.Common.{sym, subst}
use Rattle.std.specs.Prelude.{◌↔◌, IfOk, IsTrue}
use Rattle.heesch_cert.specs.declared.entry.Evidence.{Evidence}
use Rattle.heesch_cert.specs.TrueEntry.{CoverHolds}
use Rattle.heesch_audit.proofs.audited.Audited.cover_holds.Goals as goal

pub returns-in-Cover : goal.returns-in-Cover
returns-in-Cover g c = subst (λ (e : Evidence). IfOk c.is_cover.result (λ yes. IsTrue yes ↔ CoverHolds g.G.Grid.geometry c.args.self.now.shape.now e)) (sym c.in-Cover.is) c.is_cover.ensures
