use Rattle.std.proofs.Common.{◌≤◌, All}
use Rattle.heesch_lazy.proofs.search.Search.chosen.Given as goal

abbrev pub invariant-loop-before : goal.invariant-loop-before
invariant-loop-before l = All (λ v. (1 ≤ v) × (v ≤ l.self.vars)) l.chosen
