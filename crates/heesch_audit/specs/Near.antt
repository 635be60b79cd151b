-- Entries whose coordinates lie near 0.
use Rattle.std.specs.Prelude.{Option, Some, None, All, ⊤}
use Rattle.heesch_grid.specs.Symmetry.{Member}
use Rattle.heesch_grid.specs.Vectors.{IsWithin}
use Rattle.heesch_cert.specs.declared.entry.Layers.{Layers}
use Rattle.heesch_cert.specs.declared.entry.Wall.{Wall}
use Rattle.heesch_cert.specs.declared.entry.Wall.TheVariants.{Absent as NoWall, Refuted as WallRefuted, Spent as WallSpent, Size as WallSize}
use Rattle.heesch_cert.specs.declared.entry.Bare.{Bare}
use Rattle.heesch_cert.specs.declared.entry.Bare.TheVariants.{Refuted as BareRefuted, Spent as BareSpent}
use Rattle.heesch_cert.specs.declared.entry.TripleProof.{TripleProof}
use Rattle.heesch_cert.specs.declared.entry.Evidence.{Evidence}
use Rattle.heesch_cert.specs.declared.entry.Evidence.TheVariants.{Cover, Search}
use Rattle.heesch_cert.specs.declared.entry.Entry.{Entry}
use Rattle.heesch_logs.specs.Near.{IsNearIso, AreNearLayers, IsNearProof}

-- the translations of the layers lie within 100,000 of 0
abbrev pub IsNearWider : Option Layers → Type 0
IsNearWider None = ⊤
IsNearWider (Some wider) = AreNearLayers wider.layers

-- the cells of the holes of its cuts lie within 100,000 of 0
abbrev pub IsNearWall : Wall → Type 0
IsNearWall NoWall = ⊤
IsNearWall (WallRefuted proof) = IsNearProof proof
IsNearWall (WallSpent proof) = IsNearProof proof
IsNearWall WallSize = ⊤

-- so do those of the cuts of the search with holes allowed
abbrev pub IsNearBare : Bare → Type 0
IsNearBare (BareRefuted proof) = IsNearProof proof
IsNearBare (BareSpent proof) = IsNearProof proof
IsNearBare _ = ⊤

-- the translations and cells of the evidence lie within 100,000 of 0
abbrev pub IsNearEvidence : Evidence → Type 0
IsNearEvidence (Cover tiling classes) = All IsNearIso tiling.places × All (λ (member : Member). IsNearIso member.by) classes.members
IsNearEvidence (Search free wall bare wider triples) = AreNearLayers free.layers × IsNearWall wall × IsNearBare bare × IsNearWider wider × All (λ (x : TripleProof). IsNearProof x.proof) triples

-- the coordinates of all cells and translations of the entry lie within 100,000 of 0
pub record IsNearEntry (entry : Entry) : Type 0 where
  pub cells : All (IsWithin 100000) entry.cells
  pub evidence : IsNearEvidence entry.evidence
