use Rattle.std.proofs.Common.{◌≡◌, true, rules}
use Rattle.heesch_tiling.specs.PlainAnswer.{answered}
use Rattle.heesch_audit.proofs.Plain.{none_admitted}
use Rattle.heesch_audit.proofs.form.search_fits.Goals as goal

pub returns : goal.returns
returns g c =
    let holds : c.fits_verdict.result ≡ true = search rules in
    let both = none_admitted g.G.Grid.geometry g.met.G.Grid.laws c.args.limits c.args.shape.now (answered c.plain.result) c.plain.ensures in
    ((λ e. (both.0 (c.is_none_admitted.ensures.0 e), c.fits_verdict.ensures.0 holds)), (λ h. c.is_none_admitted.ensures.1 (both.1 h.0)))
