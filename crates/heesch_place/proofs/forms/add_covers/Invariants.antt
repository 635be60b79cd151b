use Rattle.std.proofs.Common.{◌≡◌, take}
use Rattle.heesch_grid.specs.Vectors.{minus}
use Rattle.heesch_place.specs.Found.{Adds, FromOne}
use Rattle.heesch_place.proofs.forms.add_covers.Given as goal

abbrev pub invariant-loop-c : goal.invariant-loop-c
invariant-loop-c l =
    Adds (FromOne (λ c s. s ≡ record { form = l.form; first = minus l.first c }) (take l.c-index l.cells)) l.fn.covers.items l.covers.items
