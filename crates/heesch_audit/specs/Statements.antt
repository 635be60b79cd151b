-- That an entry is true where each portion of it holds, as a statement. A contract that cites it claims it.
use Rattle.std.specs.Prelude.{ℕ, ◌<◌, ◌≤◌, ◌↔◌}
use Rattle.heesch_grid.specs.Geometry.{Geometry}
use Rattle.heesch_cert.specs.declared.limits.Limits.{Limits}
use Rattle.heesch_cert.specs.declared.entry.Entry.{Entry}
use Rattle.heesch_cert.specs.TrueEntry.{IsTrueEntry}
use Rattle.heesch_audit.specs.Portions.{PortionHolds}

-- into however many portions the audit of an entry is split, the entry is true exactly where each of them holds
abbrev pub PortionsMakeTheEntry : Type 0
PortionsMakeTheEntry = (g : Geometry) (limits : Limits) (entry : Entry) (portions : ℕ) → 1 ≤ portions → IsTrueEntry g limits entry ↔ ((portion : ℕ) → portion < portions → PortionHolds g limits entry portion portions)
