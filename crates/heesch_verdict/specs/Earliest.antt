-- The first triple that has a cover.
use Rattle.std.specs.Prelude.{◌⊎◌, ℕ, List, length, IsTrue, ⊤}
use Rattle.heesch_grid.specs.declared.Cell.{Cell}
use Rattle.heesch_grid.specs.declared.isometries.Iso.{Iso}
use Rattle.heesch_grid.specs.Geometry.{Geometry}
use Rattle.heesch_grid.specs.Lattice.{Triple}
use Rattle.heesch_grid.specs.Tiling.{IsPeriodicCover}
use Rattle.heesch_cnf.specs.declared.log.Log.{Log}
use Rattle.heesch_cert.specs.declared.limits.Limits.{Limits}
use Rattle.heesch_cert.specs.declared.verdict.Kind.{Kind}
use Rattle.heesch_cert.specs.declared.verdict.Kind.TheVariants.{Periodic}
use Rattle.heesch_cert.specs.declared.verdict.Verdict.{Verdict}
use Rattle.heesch_cert.specs.declared.verdict.Verdict.TheVariants.{Tiles}
use Rattle.heesch_cert.specs.declared.entry.Evidence.{Evidence}
use Rattle.heesch_cert.specs.declared.entry.Evidence.TheVariants.{Cover}
use Rattle.heesch_cert.specs.declared.entry.Entry.{Entry}
use Rattle.heesch_cert.specs.Proofs.{HasNoGiven, IsSpentOnTorus}
use Rattle.heesch_cert.specs.TrueEntry.{area_before}
use Rattle.heesch_torus.specs.Domains.{IsTripleUpTo}

-- the triple has no periodic cover
abbrev pub HasNoCover : Geometry → List Cell → Triple → Type 0
HasNoCover g shape t = (places : List Iso) → ¬ IsPeriodicCover g shape t places

-- it has none, or some log of exactly so many new lines, none of them given, is spent on its torus formula
abbrev pub IsPassedOver : Geometry → List Cell → ℕ → Triple → Type 0
IsPassedOver g shape turns t = HasNoCover g shape t ⊎ ((log : Log) × HasNoGiven log × IsSpentOnTorus g shape turns t log)

-- each triple of the domains from 2 to the limit that stands before this one, in the order of domains and then of triples, is passed over
abbrev pub IsEarliest : Geometry → Limits → List Cell → Triple → Type 0
IsEarliest g limits shape first = (t : Triple) → IsTripleUpTo g (length shape) limits.domain t → IsTrue (area_before t first) → IsPassedOver g shape limits.turns t

-- so, where the kind is Periodic
abbrev pub IsEarliestOfKind : Geometry → Limits → List Cell → Triple → Kind → Type 0
IsEarliestOfKind g limits shape first Periodic = IsEarliest g limits shape first
IsEarliestOfKind g limits shape first kind = ⊤

-- the triple of a cover that is written is the earliest that its kind asks for
abbrev pub WritesEarliest : Geometry → Limits → List Cell → Verdict → Evidence → Type 0
WritesEarliest g limits shape (Tiles kind domain classes) (Cover tiling written) = IsEarliestOfKind g limits shape tiling.triple kind
WritesEarliest g limits shape verdict evidence = ⊤

-- so does the entry
abbrev pub HasEarliestCover : Geometry → Limits → Entry → Type 0
HasEarliestCover g limits entry = WritesEarliest g limits entry.cells entry.verdict entry.evidence
