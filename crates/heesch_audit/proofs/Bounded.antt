-- The form of searches, whatever the verdict.
use Rattle.std.proofs.Common.{List}
use Rattle.std.specs.Prelude.{◌↔◌, Option}
use Rattle.heesch_grid.specs.declared.Cell.{Cell}
use Rattle.heesch_grid.specs.Geometry.{Geometry}
use Rattle.heesch_cert.specs.declared.limits.Limits.{Limits}
use Rattle.heesch_cert.specs.declared.verdict.Verdict.{Verdict}
use Rattle.heesch_cert.specs.declared.verdict.Verdict.TheVariants.{Tiles, Heesch, Levels, Holes, Turns, Size}
use Rattle.heesch_cert.specs.declared.entry.Layers.{Layers}
use Rattle.heesch_cert.specs.declared.entry.Wall.{Wall}
use Rattle.heesch_cert.specs.declared.entry.Bare.{Bare}
use Rattle.heesch_cert.specs.declared.entry.TripleProof.{TripleProof}
use Rattle.heesch_cert.specs.declared.entry.Evidence.TheVariants.{Search}
use Rattle.heesch_cert.specs.TrueEntry.{FitsVerdict, FormFits, HasNoPlain}

module _ (g : Geometry) (limits : Limits) (shape : List Cell) where
  -- the form of searches, as no plain tiling and ends that fit the verdict
  pub search_form : (verdict : Verdict) (free : Layers) (wall : Wall) (bare : Bare) (wider : Option Layers) (triples : List TripleProof) → FormFits g limits shape verdict (Search free wall bare wider triples) ↔ (HasNoPlain g limits shape × FitsVerdict limits wall bare wider verdict)
  search_form (Tiles kind domain classes) free wall bare wider triples = ((λ f. f), (λ f. f))
  search_form (Heesch h m) free wall bare wider triples = ((λ f. f), (λ f. f))
  search_form (Levels h) free wall bare wider triples = ((λ f. f), (λ f. f))
  search_form (Holes h) free wall bare wider triples = ((λ f. f), (λ f. f))
  search_form (Turns h phase at) free wall bare wider triples = ((λ f. f), (λ f. f))
  search_form (Size h phase at) free wall bare wider triples = ((λ f. f), (λ f. f))
