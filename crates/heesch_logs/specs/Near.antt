-- Isometries and proofs whose coordinates lie near 0.
use Rattle.std.specs.Prelude.{List, All, ⊤}
use Rattle.heesch_grid.specs.declared.isometries.Iso.{Iso}
use Rattle.heesch_grid.specs.Cells.{cell}
use Rattle.heesch_grid.specs.Vectors.{IsWithin}
use Rattle.heesch_cert.specs.declared.proof.Step.{Step}
use Rattle.heesch_cert.specs.declared.proof.Step.TheVariants.{Learn, Cut}
use Rattle.heesch_cert.specs.declared.proof.Proof.{Proof}

-- the translation lies within 100,000 of 0; the turn may be any
abbrev pub IsNearIso : Iso → Type 0
IsNearIso by = IsWithin 100000 (cell by.da by.db)

-- so do the translations of all layers
abbrev pub AreNearLayers : List (List Iso) → Type 0
AreNearLayers layers = All (All IsNearIso) layers

-- the cells of a cut's hole lie within 100,000 of 0
abbrev pub IsNearStep : Step → Type 0
IsNearStep (Learn clause hints) = ⊤
IsNearStep (Cut cut) = All (IsWithin 100000) cut.hole

-- so do those of all cuts of the proof
abbrev pub IsNearProof : Proof → Type 0
IsNearProof proof = All IsNearStep proof.steps
