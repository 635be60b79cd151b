use Rattle.std.proofs.Common.{map}
use Rattle.heesch_place.proofs.Beside.{CoversBelow}
use Rattle.heesch_place.proofs.forms.covers_of.Given as goal

abbrev pub invariant-loop-form : goal.invariant-loop-form
invariant-loop-form g l = CoversBelow (map (λ p. p.tile) l.forms) l.form l.covers.items
