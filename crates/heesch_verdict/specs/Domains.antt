-- The triples of the domains that are searched, and how their searches ended.
use Rattle.std.specs.Prelude.{◌≡◌, ◌≤◌, ◌<◌, ◌*◌, ◌⊎◌, ℕ, Option, Some, None, List, [], ◌∷◌, ◌++◌, map, take, length, slice_index_or, All, Contains}
use Rattle.heesch_grid.specs.declared.Cell.{Cell}
use Rattle.heesch_grid.specs.Geometry.{Geometry}
use Rattle.heesch_grid.specs.Lattice.{Triple}
use Rattle.heesch_torus.specs.declared.cover.CoverAnswer.TheVariants.{Open}
use Rattle.heesch_torus.specs.Covers.{IsCoverAnswer}
use Rattle.heesch_cert.specs.declared.limits.Limits.{Limits}
use Rattle.heesch_cert.specs.declared.tiling.Tiling.{Tiling}
use Rattle.heesch_cert.specs.declared.verdict.Verdict.{Verdict}
use Rattle.heesch_cert.specs.declared.entry.TripleProof.{TripleProof}
use Rattle.heesch_cert.specs.Proofs.{SettlesTriple}
use Rattle.heesch_cert.specs.TrueEntry.{TriplesShow}
use Rattle.heesch_verdict.specs.declared.settled.Settled.{Settled}
use Rattle.heesch_verdict.specs.declared.settled.Settled.TheVariants.{Cover, Triples}
use Rattle.heesch_verdict.specs.Earliest.{HasNoCover, IsPassedOver}
use Rattle.heesch_verdict.specs.Tilings.{IsCoverOf, IsFirstCover}

-- the triple stands in the list, and each before it has no cover or is one of these
pub record StandsBehind (g : Geometry) (shape : List Cell) (listed some : List Triple) (t : Triple) : Type 0 where
  pub before : List Triple
  pub after : List Triple
  pub is : listed ≡ before ++ t ∷ after
  pub others : All (λ u. HasNoCover g shape u ⊎ Contains some u) before

-- these triples of the list are left open, in its order: every other has no cover
pub record AreLeftOpen (g : Geometry) (shape : List Cell) (listed left : List Triple) : Type 0 where
  pub each : (k : ℕ) (d : Triple) → k < length left → StandsBehind g shape listed (take k left) (slice_index_or left k d)
  pub others : All (λ u. HasNoCover g shape u ⊎ Contains left u) listed

-- the tiling is a cover for a triple of the list, and each before it is passed over
pub record IsFirstOf (g : Geometry) (shape : List Cell) (turns : ℕ) (listed : List Triple) (tiling : Tiling) : Type 0 where
  pub is_cover : IsCoverOf g shape tiling
  pub before : List Triple
  pub after : List Triple
  pub is : listed ≡ before ++ tiling.triple ∷ after
  pub passed : All (IsPassedOver g shape turns) before

-- the triple has no cover, or the search without a log leaves it open
abbrev pub IsTried : Geometry → List Cell → ℕ → Triple → Type 0
IsTried g shape nodes t = HasNoCover g shape t ⊎ IsCoverAnswer g shape t nodes Open

-- the first cover of these domains; or the search without a log finds none of them
abbrev pub IsFirstFound : Geometry → Limits → List Cell → ℕ → List Triple → Option Tiling → Type 0
IsFirstFound g limits shape nodes triples (Some tiling) = IsFirstCover g limits shape tiling
IsFirstFound g limits shape nodes triples None = All (IsTried g shape nodes) triples

-- one more triple is settled, this one, and passed over
pub record SettlesOne (g : Geometry) (shape : List Cell) (turns : ℕ) (triple : Triple) (old new : List TripleProof) : Type 0 where
  pub added : TripleProof
  pub is : new ≡ old ++ added ∷ []
  pub same : added.triple ≡ triple
  pub settles : SettlesTriple g shape turns added.triple added.proof
  pub passed : IsPassedOver g shape turns triple

-- a cover for the triple, or the triple is settled
abbrev pub IsTripleEnd : Geometry → List Cell → ℕ → Triple → List TripleProof → List TripleProof → Option Tiling → Type 0
IsTripleEnd g shape turns triple old new (Some tiling) = (tiling.triple ≡ triple) × IsCoverOf g shape tiling
IsTripleEnd g shape turns triple old new None = SettlesOne g shape turns triple old new

-- each of these triples is settled, in order, and passed over
pub record AreSettled (g : Geometry) (shape : List Cell) (turns : ℕ) (triples : List Triple) (settled : List TripleProof) : Type 0 where
  pub same : map (λ (x : TripleProof). x.triple) settled ≡ triples
  pub settles : All (λ (x : TripleProof). SettlesTriple g shape turns x.triple x.proof) settled
  pub passed : All (IsPassedOver g shape turns) triples

-- the first cover of these domains, or their triples are settled
abbrev pub AreDomains : Geometry → Limits → List Cell → List Triple → Settled → Type 0
AreDomains g limits shape triples (Cover tiling) = IsFirstCover g limits shape tiling
AreDomains g limits shape triples (Triples settled) = AreSettled g shape limits.turns triples settled

-- the first cover of these domains, or the proofs of triples that the verdict asks for
abbrev pub IsSettledFor : Geometry → Limits → List Cell → Verdict → Settled → Type 0
IsSettledFor g limits shape verdict (Cover tiling) = IsFirstCover g limits shape tiling
IsSettledFor g limits shape verdict (Triples settled) = TriplesShow g limits shape verdict settled
