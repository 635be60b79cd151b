use Rattle.std.proofs.Common.{ℕ, ◌<◌, get_or}
use Rattle.heesch_grid.specs.Symmetry.{Member}
use Rattle.heesch_logs.specs.Near.{IsNearIso}
use Rattle.heesch_audit.proofs.near.are_near_members.Given as goal

abbrev pub invariant-loop-member : goal.invariant-loop-member
invariant-loop-member l = (k : ℕ) (d : Member) → k < l.member-index → IsNearIso (get_or l.members k d).by
