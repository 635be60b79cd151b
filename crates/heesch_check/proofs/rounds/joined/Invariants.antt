use Rattle.std.proofs.Common.{◌≡◌, ◌↔◌, ◌%◌, ◌<◌, ℕ, Bool, true, List, get_or, length}
use Rattle.heesch_check.proofs.rounds.joined.Given as goal

-- of the first n answers, those on one of so many items are all true
abbrev AreTrueBelow : List Bool → (count n i : ℕ) → Type 0
AreTrueBelow answers count n i = (k : ℕ) → k < n → k % count ≡ i → get_or answers k true ≡ true

abbrev pub invariant-loop-number : goal.invariant-loop-number
invariant-loop-number l = record {
  len : length l.audits.items ≡ l.count;
  each : (i : ℕ) → i < l.count → (get_or l.audits.items i true ≡ true) ↔ AreTrueBelow l.answers l.count l.number i;
}
