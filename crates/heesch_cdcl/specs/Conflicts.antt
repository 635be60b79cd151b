-- Where an analysis begins.
use Rattle.std.specs.Prelude.{ℕ}
use Rattle.heesch_trail.specs.Seen.{IsConflict}
use Rattle.heesch_trail.specs.State.{State, IsTrail}
use Rattle.heesch_cdcl.specs.Search.{LowerFixpoints}

-- what contracts see of a conflict: the trail, and the number of its clause
pub record Clash : Type 0 where
  pub trail : State
  pub number : ℕ

-- the clause is false, and below the present level every clause has a true literal or two open ones
pub record IsClash (trail : State) (number : ℕ) : Type 0 where
  pub valid : IsTrail trail
  pub lower : LowerFixpoints trail
  pub conflict : IsConflict trail number
