-- The triples of the domains up to one.
use Rattle.std.specs.Prelude.{◌≤◌, ℕ, List}
use Rattle.heesch_grid.specs.Geometry.{Geometry}
use Rattle.heesch_grid.specs.Lattice.{Triple, IsTripleOfDomain}
use Rattle.heesch_grid.specs.Listing.{ListsExactly}
use Rattle.heesch_cert.specs.TrueEntry.{area_before}

-- the triple is one of a domain from 2 to the most
abbrev pub IsTripleUpTo : Geometry → ℕ → ℕ → Triple → Type 0
IsTripleUpTo g n most t = (m : ℕ) × (2 ≤ m) × (m ≤ most) × IsTripleOfDomain g n m t

-- these are the triples of the domains from 2 to the most, in order
abbrev pub AreUpTo : Geometry → ℕ → ℕ → List Triple → Type 0
AreUpTo g n most triples = ListsExactly area_before (IsTripleUpTo g n most) triples
