use Rattle.std.proofs.Common.{ℕ, ◌-◌, ◌<◌, ◌≤◌}
use Rattle.heesch_torus.specs.Masks.{HasMasksFrom}
use Rattle.heesch_torus.specs.Covers.{HasNoCoverAt}
use Rattle.heesch_torus.proofs.Turning.{IsSpentFrom}
use Rattle.heesch_torus.proofs.cover.fill_torus.Given as goal

abbrev pub invariant-loop-done : goal.invariant-loop-done
invariant-loop-done g l = record {
  masks : HasMasksFrom g.G.Grid.geometry l.torus.cells.now l.torus.triple (g.G.Grid.geometry.turns - l.done) l.masks.items;
  none : (turn : ℕ) → g.G.Grid.geometry.turns - l.done ≤ turn → turn < g.G.Grid.geometry.turns → HasNoCoverAt g.G.Grid.geometry l.torus.cells.now l.torus.triple turn;
  spent : IsSpentFrom g.G.Grid.geometry l.torus.cells.now l.torus.triple l.torus.full (g.G.Grid.geometry.turns - l.done) l.fn.nodes l.left;
}
