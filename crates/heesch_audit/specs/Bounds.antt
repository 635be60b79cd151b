-- Bounds that the form gives.
use Rattle.std.specs.Prelude.{◌≤◌, length, ⊤}
use Rattle.heesch_cert.specs.declared.verdict.Verdict.{Verdict}
use Rattle.heesch_cert.specs.declared.entry.Evidence.{Evidence}
use Rattle.heesch_cert.specs.declared.entry.Evidence.TheVariants.{Cover, Search}
use Rattle.heesch_cert.specs.TrueEntry.{first_number}

-- a cover has at most 12 places
abbrev pub HasFewPlaces : Evidence → Type 0
HasFewPlaces (Cover tiling classes) = length tiling.places ≤ 12
HasFewPlaces (Search free wall bare wider triples) = ⊤

-- a verdict on searches says at most six hole-free coronas
abbrev pub HasFewLayers : Verdict → Evidence → Type 0
HasFewLayers verdict (Cover tiling classes) = ⊤
HasFewLayers verdict (Search free wall bare wider triples) = first_number verdict ≤ 6
