-- The answers of a job on each shape, as the plain tilings of a list.
use Rattle.std.proofs.Common.{◌≡◌, ℕ, List, length, get_or, Option, sym, subst, arith, inl, inr}
use Rattle.std.specs.Prelude.{Some, slice_get}
use Rattle.std.proofs.lemmas.Option.{slice_get_cases, get_or_from_slice_get}
use Rattle.heesch_grid.specs.declared.Cell.{Cell}
use Rattle.heesch_grid.specs.Geometry.{Geometry}
use Rattle.heesch_grid.specs.Tiling.{IsPlain}
use Rattle.heesch_tiling.specs.declared.found.Plain.{Plain}
use Rattle.heesch_tiling.specs.PlainAnswer.{answered}
use Rattle.heesch_app.specs.Tilings.{ArePlain}

-- as many answers as shapes, each on the shape of its place
pub plain_each : (g : Geometry) (shapes : List (List Cell)) (tilings : List (Option Plain)) → length tilings ≡ length shapes → ((i : ℕ) (x : Option Plain) → slice_get tilings i ≡ Some x → (d : List Cell) → IsPlain g (get_or shapes i d) (answered x)) → ArePlain g shapes tilings
plain_each g shapes tilings many answers = record {
  as_many = many;
  each = λ i cells tiling less.
      elim (slice_get_cases tilings i).1 [
        | inl f ↦
            subst (λ x. IsPlain g (get_or shapes i cells) (answered x)) (sym (get_or_from_slice_get tilings i f.0 tiling f.2)) (answers i f.0 f.2 cells)
        | inr past ↦ absurd (omega (arith, past.0, less, many))
      ];
}
