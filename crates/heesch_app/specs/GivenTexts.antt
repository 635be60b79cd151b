-- The text that is written of given shapes.
use Rattle.std.specs.Io.KnownBytes.{IsAtEnd}
use Rattle.std.specs.Prelude.{◌≡◌, ℕ, List, Option}
use Rattle.heesch_grid.specs.declared.Cell.{Cell}
use Rattle.heesch_grid.specs.Geometry.{Geometry}
use Rattle.heesch_cert.specs.declared.limits.Limits.{Limits}
use Rattle.heesch_catalogue.specs.Catalogues.{IsCatalogue, IsBegunCatalogue}
use Rattle.heesch_outer.specs.Outers.{IsOuters, IsBegunOuters}
use Rattle.heesch_app.specs.declared.given.GivenText.{GivenText}
use Rattle.heesch_app.specs.declared.given.GivenText.TheVariants.{Catalogue, Outers}
use Rattle.heesch_app.specs.declared.status.Status.{Status}
use Rattle.heesch_app.specs.declared.status.Status.TheVariants.{Done}
use Rattle.heesch_app.specs.Endings.{EndsAs}
use Rattle.heesch_app.specs.Inputs.{ConsumesSome}
use Rattle.heesch_app.specs.Outputs.{IsBegunGivenAnswer, IsGivenAnswer, OfInput}

-- the limits under which the shapes are classified
abbrev pub limits_of : GivenText → Limits
limits_of (Catalogue header) = header.limits
limits_of (Outers limits) = limits

-- the output is the text of these shapes
abbrev pub IsTextOf : Geometry → GivenText → List (List Cell) → List ℕ → Type 0
IsTextOf g (Catalogue header) shapes output = IsCatalogue g header shapes output
IsTextOf g (Outers limits) shapes output = IsOuters g limits shapes output

-- the same of a beginning, as much as some first entries decide
abbrev pub IsBegunTextOf : Geometry → GivenText → List (List Cell) → List ℕ → Type 0
IsBegunTextOf g (Catalogue header) shapes output = IsBegunCatalogue g header shapes output
IsBegunTextOf g (Outers limits) shapes output = IsBegunOuters g limits shapes output

-- the list text that a source had left is answered: known bytes grow by the text of its shapes or the line of its first fault, and it is read to the end where that is done
pub record AnswersGiven (g : Geometry) (text : GivenText) (before now old new : Option (List ℕ)) (result : Status) : Type 0 where
  pub ends : EndsAs (λ status output. OfInput before (IsGivenAnswer g (IsTextOf g text) status output)) (λ output. OfInput before (IsBegunGivenAnswer g (IsBegunTextOf g text) output)) old new result
  pub ended : result ≡ Done → IsAtEnd now
  pub consumed : ConsumesSome before now
