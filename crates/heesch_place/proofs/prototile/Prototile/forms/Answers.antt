use Rattle.std.proofs.Common.{subst}
use Rattle.heesch_place.specs.Spots.{AreForms, Prepared}
use Rattle.heesch_place.proofs.prototile.Prototile.forms.Goals as goal

pub returns-clause-forms : goal.returns-clause-forms
returns-clause-forms g c = subst (λ (p : Prepared). AreForms g.G.Grid.geometry p.formed.shape p.formed.forms) c.self.view_is c.shape-shape.ensures.forms
