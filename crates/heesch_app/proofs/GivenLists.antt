-- Given shapes are canonical.
use Rattle.std.proofs.Common.{List, [], ◌∷◌, arith}
use Rattle.std.specs.Prelude.{All}
use Rattle.std.specs.List.{AllZip}
use Rattle.std.proofs.lemmas.List.Elements.{All-cons}
use Rattle.heesch_grid.specs.declared.Cell.{Cell}
use Rattle.heesch_grid.specs.Geometry.{Geometry, IsGrid}
use Rattle.heesch_grid.specs.Polyform.{IsCanonicalListOf}
use Rattle.heesch_grid.proofs.GrowthOfLists.{canonical_of_image}
use Rattle.heesch_given.specs.Given.{IsCanonicalOf}

-- what is the canonical list of a given shape is its own canonical list
pub given_are_canonical : (g : Geometry) (law : IsGrid g) (given shapes : List (List Cell)) → AllZip (IsCanonicalOf g) given shapes → All (λ s. IsCanonicalListOf g s s) shapes
given_are_canonical g law [] [] all = λ k d less. absurd (omega (arith, less))
given_are_canonical g law (cells ∷ given) (s ∷ shapes) (is, all) =
    All-cons (λ x. IsCanonicalListOf g x x) s shapes (canonical_of_image g law is.shape s s is.polyform.is_set.rising is.is_canonical.is_image is.is_canonical) (given_are_canonical g law given shapes all)
given_are_canonical g law [] (s ∷ shapes) all = absurd all
given_are_canonical g law (cells ∷ given) [] all = absurd all
