use Rattle.std.proofs.Common.{◌≡◌, ◌<◌, ℕ, Bool, true, get_or}
use Rattle.heesch_outer_check.proofs.rounds.leading.Given as goal

abbrev pub invariant-loop-index : goal.invariant-loop-index
invariant-loop-index l = (k : ℕ) (d : Bool) → k < l.index → get_or l.answers k d ≡ true
