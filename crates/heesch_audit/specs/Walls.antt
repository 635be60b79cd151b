-- The first of the parts on searches for coronas that fails.
use Rattle.std.specs.Prelude.{◌≡◌, ℕ, ◌⊎◌, Option, Some, None, List}
use Rattle.heesch_grid.specs.declared.Cell.{Cell}
use Rattle.heesch_grid.specs.Geometry.{Geometry}
use Rattle.heesch_cert.specs.declared.limits.Limits.{Limits}
use Rattle.heesch_cert.specs.declared.verdict.Verdict.{Verdict}
use Rattle.heesch_cert.specs.declared.entry.Evidence.{Evidence}
use Rattle.heesch_cert.specs.TrueEntry.{WallHolds, OpenHolds, BareHolds}

-- none: the parts 6 to 8 hold; else the least of them that fails
abbrev pub IsSearchFailure : Geometry → Limits → List Cell → Verdict → Evidence → Option ℕ → Type 0
IsSearchFailure g limits shape verdict evidence None = WallHolds g limits shape verdict evidence × OpenHolds g shape evidence × BareHolds g limits shape verdict evidence
IsSearchFailure g limits shape verdict evidence (Some part) =
    ((part ≡ 6) × (¬ WallHolds g limits shape verdict evidence))
    ⊎ (((part ≡ 7) × WallHolds g limits shape verdict evidence × (¬ OpenHolds g shape evidence))
    ⊎ ((part ≡ 8) × WallHolds g limits shape verdict evidence × OpenHolds g shape evidence × (¬ BareHolds g limits shape verdict evidence)))
