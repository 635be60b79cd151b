use Rattle.std.proofs.Common.{◌≡◌, ◌<◌, ℕ, true, false, length}
use Rattle.std.specs.Prelude.{◌↔◌, Some, slice_index_or}
use Rattle.std.specs.List.{slice_get}
use Rattle.heesch_torus.specs.Covers.{HasMaskAmong}
use Rattle.heesch_torus.specs.Variables.{TorusVariable}
use Rattle.heesch_torus.proofs.cover.values_of.Given as goal

abbrev pub invariant-loop-variable : goal.invariant-loop-variable
invariant-loop-variable g l = record {
  count : length l.values ≡ l.variable-index;
  each : (k : ℕ) (x : TorusVariable) → k < l.variable-index → slice_get l.variables k ≡ Some x → (slice_index_or l.values k false ≡ true) ↔ HasMaskAmong g.G.Grid.geometry l.torus.cells.now l.torus.triple l.masks x.by;
}
