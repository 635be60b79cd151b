use Rattle.std.proofs.Common.{refl}
use Rattle.heesch_numbers.proofs.common.CommonClauses.fits_by.Goals as goal

pub returns-then-surely_fits : goal.returns-then-surely_fits
returns-then-surely_fits g c = λ around gives. (λ t. c.surely_fits.ensures around gives c.if-surely_fits.true, λ le. refl)
