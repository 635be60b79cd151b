-- Cells have one fault's number.
use Rattle.std.proofs.Common.{◌≡◌, ℕ, Bool, true, false, List, length, refl, sym, ◌∙◌, arith}
use Rattle.heesch_grid.specs.declared.Cell.{Cell}
use Rattle.heesch_grid.specs.Geometry.{Geometry}
use Rattle.heesch_shape.specs.declared.faults.ShapeFault.{ShapeFault}
use Rattle.heesch_shape.specs.declared.faults.ShapeFault.TheVariants.{Empty, TooMany, NotACell, Repeated, Apart}
use Rattle.heesch_shape.specs.Places.{AllHold, IsFirstFailure}
use Rattle.heesch_shape.specs.Faults.{IsFault, number_of}

both_ways : (test : ℕ → Bool) (n at : ℕ) → AllHold test n → IsFirstFailure test n at → ⊥
both_ways test n at all first = let e : true ≡ false = sym (all.all at first.below) ∙ first.fails in absurd cc

-- cells have one fault's number
pub one_number : (g : Geometry) (xs : List Cell) (a b : ShapeFault) → IsFault g xs a → IsFault g xs b → number_of a ≡ number_of b
one_number g xs Empty Empty f h = refl
one_number g xs Empty TooMany f h = absurd (omega (arith, f, h))
one_number g xs Empty (NotACell at) f h = absurd (omega (arith, f, h.0))
one_number g xs Empty (Repeated at) f h = absurd (omega (arith, f, h.0))
one_number g xs Empty (Apart at) f h = absurd (omega (arith, f, h.0))
one_number g xs TooMany Empty f h = absurd (omega (arith, f, h))
one_number g xs TooMany TooMany f h = refl
one_number g xs TooMany (NotACell at) f h = absurd (omega (arith, f, h.1))
one_number g xs TooMany (Repeated at) f h = absurd (omega (arith, f, h.1))
one_number g xs TooMany (Apart at) f h = absurd (omega (arith, f, h.1))
one_number g xs (NotACell at) Empty f h = absurd (omega (arith, h, f.0))
one_number g xs (NotACell at) TooMany f h = absurd (omega (arith, h, f.1))
one_number g xs (NotACell at) (NotACell other) f h = refl
one_number g xs (NotACell at) (Repeated other) f h = absurd (both_ways _ (length xs) at h.2 f.2)
one_number g xs (NotACell at) (Apart other) f h = absurd (both_ways _ (length xs) at h.2 f.2)
one_number g xs (Repeated at) Empty f h = absurd (omega (arith, h, f.0))
one_number g xs (Repeated at) TooMany f h = absurd (omega (arith, h, f.1))
one_number g xs (Repeated at) (NotACell other) f h = absurd (both_ways _ (length xs) other f.2 h.2)
one_number g xs (Repeated at) (Repeated other) f h = refl
one_number g xs (Repeated at) (Apart other) f h = absurd (both_ways _ (length xs) at h.3 f.3)
one_number g xs (Apart at) Empty f h = absurd (omega (arith, h, f.0))
one_number g xs (Apart at) TooMany f h = absurd (omega (arith, h, f.1))
one_number g xs (Apart at) (NotACell other) f h = absurd (both_ways _ (length xs) other f.2 h.2)
one_number g xs (Apart at) (Repeated other) f h = absurd (both_ways _ (length xs) other f.3 h.3)
one_number g xs (Apart at) (Apart other) f h = refl
