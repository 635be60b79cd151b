use Rattle.std.proofs.Common.{◌≡◌, ◌<◌, ℕ, length, get_or}
use Rattle.heesch_encode.specs.declared.around.TurnedRing.{TurnedRing}
use Rattle.heesch_encode.specs.Rings.{IsTurnedRing}
use Rattle.heesch_encode.proofs.around.rings_of.Given as goal

abbrev pub invariant-loop-k : goal.invariant-loop-k
invariant-loop-k g l = record {
  count : length l.rings.items ≡ l.k;
  each : (k : ℕ) (d : TurnedRing) → k < length l.rings.items → IsTurnedRing g.G.Grid.geometry l.shape k (get_or l.rings.items k d);
}
