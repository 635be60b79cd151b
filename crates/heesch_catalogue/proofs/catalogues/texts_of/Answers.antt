use Rattle.std.proofs.Common.{refl}
use Rattle.heesch_catalogue.proofs.catalogues.texts_of.Goals as goal

pub returns : goal.returns
returns c = (_, refl)
