-- The headline, from what was written.
use Rattle.std.proofs.Common.{ℕ, List, sym, subst, false}
use Rattle.std.specs.Prelude.{Option}
use Rattle.std.specs.Io.KnownBytes.{Appends}
use Rattle.heesch_cert.specs.declared.header.Subject.TheVariants.{Size}
use Rattle.heesch_cert.specs.declared.limits.Limits.{Limits}
use Rattle.heesch_grid.specs.declared.GridName.{GridName}
use Rattle.heesch_grid.specs.Names.{geometry_of}
use Rattle.heesch_grid.specs.Polyform.{IsFreeList}
use Rattle.heesch_words.specs.declared.requests.Request.TheVariants.{Classify as ClassifyRequest}
use Rattle.heesch_app.specs.declared.status.Status.TheVariants.{Done}
use Rattle.heesch_catalogue.specs.Catalogues.{IsCatalogueOfSize}
use Rattle.heesch_app.specs.Outputs.{header_of, AsksForCatalogue, IsCatalogued, Writes}
use Rattle.heesch_app.proofs.Endings.{asked_output}

entries_catalogued : (grid : GridName) (n : ℕ) (limits : Limits) (text : List ℕ) (old new : Option (List ℕ))
    → IsCatalogueOfSize (geometry_of grid) (header_of grid (Size n) limits false) n text → Appends old new text → IsCatalogued grid n limits old new
entries_catalogued grid n limits text old new (shapes, free, (entries, are, readable, is)) appends = record {
  entries = entries;
  every_shape = subst (λ ss. IsFreeList (geometry_of grid) n ss) (sym are.of_shapes) free;
  are_true = are.are_true;
  are_right = are.are_right;
  written = subst (λ t. Appends old new t) is appends;
}

-- where the words ask for the full catalogue of a size, what was written is one
pub catalogued : (words : List (List ℕ)) (left old new : Option (List ℕ)) (grid : GridName) (n workers : ℕ) (limits : Limits)
    → AsksForCatalogue words grid n limits workers → Writes words left Done old new → IsCatalogued grid n limits old new
catalogued words left old new grid n workers limits asks (text, is, appends) =
    entries_catalogued grid n limits text old new (asked_output words (ClassifyRequest grid (Size n) limits workers false) left Done text asks is).1 appends
