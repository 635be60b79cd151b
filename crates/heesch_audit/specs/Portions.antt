-- An audit in portions, which share the proofs of triples among them.
use Rattle.std.specs.Prelude.{◌≡◌, ◌≤◌, ◌%◌, ℕ, Some, List, [], map, length, slice_get, ⊤}
use Rattle.heesch_grid.specs.declared.Cell.{Cell}
use Rattle.heesch_grid.specs.Geometry.{Geometry}
use Rattle.heesch_grid.specs.Listing.{ListsExactly}
use Rattle.heesch_cert.specs.declared.limits.Limits.{Limits}
use Rattle.heesch_cert.specs.declared.verdict.Verdict.{Verdict}
use Rattle.heesch_cert.specs.declared.entry.TripleProof.{TripleProof}
use Rattle.heesch_cert.specs.declared.entry.Evidence.{Evidence}
use Rattle.heesch_cert.specs.declared.entry.Evidence.TheVariants.{Cover, Search}
use Rattle.heesch_cert.specs.declared.entry.Entry.{Entry}
use Rattle.heesch_cert.specs.Parts.{PartHolds}
use Rattle.heesch_cert.specs.Proofs.{SettlesTriple}
use Rattle.heesch_cert.specs.TrueEntry.{area_before, IsSearchedTriple, IsUndecided, ShapeHolds}
use Rattle.heesch_audit.specs.Shapes.{AreCanonical}

-- the triples whose proofs the evidence has
abbrev pub triples_of : Evidence → List TripleProof
triples_of (Cover tiling classes) = []
triples_of (Search free wall bare wider triples) = triples

-- for an undecided verdict the triples are all of the domains 2 to the limit, in order, whatever their proofs; else there are none
pub record AreTriplesFor (g : Geometry) (limits : Limits) (shape : List Cell) (verdict : Verdict) (triples : List TripleProof) : Type 0 where
  pub all_searched : IsUndecided verdict → ListsExactly area_before (IsSearchedTriple g limits (length shape)) (map (λ (x : TripleProof). x.triple) triples)
  pub none_else : (¬ IsUndecided verdict) → triples ≡ []

-- the triples of the evidence are those that are asked for, whatever their proofs
abbrev pub AreTriplesAsked : Geometry → Limits → List Cell → Verdict → Evidence → Type 0
AreTriplesAsked g limits shape verdict (Cover tiling classes) = ⊤
AreTriplesAsked g limits shape verdict (Search free wall bare wider triples) = AreTriplesFor g limits shape verdict triples

-- the parts 2 to 8 of the entry hold
abbrev pub PartsHold : Geometry → Limits → Entry → Type 0
PartsHold g limits entry = (part : ℕ) → 2 ≤ part → part ≤ 8 → PartHolds g limits entry part

-- all of a true entry but that the proofs of its triples settle them
pub record HoldsBesideProofs (g : Geometry) (limits : Limits) (entry : Entry) : Type 0 where
  pub shape : ShapeHolds g entry
  pub parts : PartsHold g limits entry
  pub asked : AreTriplesAsked g limits entry.cells entry.verdict entry.evidence

-- each so many-th of the triples, from the portion's first on, is settled by its proof
abbrev pub AreProved : Geometry → List Cell → ℕ → List TripleProof → ℕ → ℕ → Type 0
AreProved g shape turns triples portion portions = (at : ℕ) (x : TripleProof) → slice_get triples at ≡ Some x → at % portions ≡ portion → SettlesTriple g shape turns x.triple x.proof

-- the shape is canonical, the triples of the evidence are those that are asked for, and the proof of this one settles it
pub record IsProvedTriple (g : Geometry) (limits : Limits) (entry : Entry) (x : TripleProof) : Type 0 where
  pub shape : AreCanonical g entry.cells
  pub asked : AreTriplesAsked g limits entry.cells entry.verdict entry.evidence
  pub settled : SettlesTriple g entry.cells limits.turns x.triple x.proof

-- one of so many portions of a true entry: the proofs of each so many-th of its triples, and in the first one all else as well
pub record PortionHolds (g : Geometry) (limits : Limits) (entry : Entry) (portion portions : ℕ) : Type 0 where
  pub beside : portion ≡ 0 → HoldsBesideProofs g limits entry
  pub proofs : (at : ℕ) (x : TripleProof) → slice_get (triples_of entry.evidence) at ≡ Some x → at % portions ≡ portion → IsProvedTriple g limits entry x
