use Rattle.std.proofs.Common.{map}
use Rattle.heesch_grid.specs.CoronaFormula.{IsAtLevel, IsUniverse}
use Rattle.heesch_place.specs.Spots.{AreSpotsOf}
use Rattle.heesch_place.specs.Universes.{HaveLeast}
use Rattle.heesch_place.proofs.universe.further_entries.Given as goal

abbrev pub invariant-loop-k : goal.invariant-loop-k
invariant-loop-k g l = record {
  universe : IsUniverse g.G.Grid.geometry l.forms.shape l.k (map (λ e. record { level = e.level; tile = e.place.tile }) l.entries.items);
  least : HaveLeast (λ e. record { level = e.level; tile = e.place.tile }) (λ e. e.place.by) g.G.Grid.geometry l.forms.shape l.entries.items;
  outer : AreSpotsOf g.G.Grid.geometry l.forms.forms (IsAtLevel g.G.Grid.geometry l.forms.shape l.k) l.spots.items;
}
