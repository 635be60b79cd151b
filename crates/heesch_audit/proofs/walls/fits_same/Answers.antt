use Rattle.std.proofs.Common.{sym, subst}
use Rattle.std.specs.Prelude.{◌↔◌, IsTrue}
use Rattle.heesch_cert.specs.declared.entry.Wall.{Wall}
use Rattle.heesch_cert.specs.TrueEntry.{SameWhereNoCut}
use Rattle.heesch_logs.proofs.Equal.{agreeing, through}
use Rattle.heesch_audit.proofs.walls.fits_same.Goals as goal

pub returns-in-Refuted : goal.returns-in-Refuted
returns-in-Refuted c =
    subst (λ (w : Wall). IsTrue c.agree.result ↔ SameWhereNoCut w c.args.bare.now) (sym c.in-Refuted.is)
    (through c.agree.ensures (agreeing c.is_same.result c.has_no_cut.result c.is_same.ensures c.has_no_cut.ensures))
