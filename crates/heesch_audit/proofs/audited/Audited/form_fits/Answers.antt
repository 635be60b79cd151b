use Rattle.std.proofs.Common.{sym, subst}
use Rattle.std.specs.Prelude.{◌↔◌, IsTrue}
use Rattle.heesch_cert.specs.declared.entry.Evidence.{Evidence}
use Rattle.heesch_cert.specs.TrueEntry.{FormFits}
use Rattle.heesch_audit.proofs.Bounded.{search_form}
use Rattle.heesch_logs.proofs.Equal.{back, through}
use Rattle.heesch_audit.proofs.audited.Audited.form_fits.Goals as goal

pub returns-in-Cover : goal.returns-in-Cover
returns-in-Cover g c =
    subst (λ (e : Evidence). IsTrue c.cover_fits.result ↔ FormFits g.G.Grid.geometry c.args.self.now.limits c.args.self.now.shape.now c.args.self.now.entry.now.verdict e) (sym c.in-Cover.is) (c.cover_fits.ensures c.in-Cover.classes)

pub returns-in-Search : goal.returns-in-Search
returns-in-Search g c =
    let geometry = g.G.Grid.geometry in
    let arm = c.in-Search in
    subst (λ (e : Evidence). IsTrue c.search_fits.result ↔ FormFits geometry c.args.self.now.limits c.args.self.now.shape.now c.args.self.now.entry.now.verdict e) (sym arm.is)
    (through c.search_fits.ensures (back (search_form geometry c.args.self.now.limits c.args.self.now.shape.now c.args.self.now.entry.now.verdict arm.free arm.wall arm.bare arm.wider arm.triples)))
