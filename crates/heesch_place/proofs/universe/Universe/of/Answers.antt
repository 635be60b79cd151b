use Rattle.std.proofs.Common.{◌≡◌, true, List, map, sym, ap, ◌∙◌, subst, arith}
use Rattle.heesch_grid.specs.declared.Cell.{Cell}
use Rattle.heesch_grid.specs.declared.isometries.Iso.{Iso}
use Rattle.heesch_grid.specs.Cells.{has}
use Rattle.heesch_grid.specs.CoronaFormula.{Variable, IsUniverse}
use Rattle.heesch_grid.specs.Polyform.{IsPolyform}
use Rattle.heesch_grid.proofs.Pinned.{one_canonical_list}
use Rattle.heesch_shape.proofs.Near.{canonical_within}
use Rattle.heesch_grid.specs.Vectors.{IsWithin}
use Rattle.heesch_place.specs.Universes.{HaveLeast}
use Rattle.heesch_place.specs.declared.universe.Entry.{Entry}
use Rattle.heesch_place.proofs.universe.Universe.of.Given as given
use Rattle.heesch_place.proofs.universe.Universe.of.Goals as goal
use Rattle.heesch_place.proofs.universe.Universe.of.Goals.{After-canonical}

abbrev variable : (g : given.Over) → Entry g.row.G.Denot → Variable
variable g e = record { level = e.level; tile = e.place.tile }

-- the shape is its own canonical list
same : (g : given.Over) (c : After-canonical g) → c.args.shape.now ≡ c.canonical.result
same g c = one_canonical_list g.G.Grid.geometry c.args.shape.now c.args.shape.now c.canonical.result c.requires.canonical c.canonical.ensures.canonical

near : (g : given.Over) (c : After-canonical g) (d : Cell) → has c.canonical.result d ≡ true → IsWithin 200 d
near g c =
    let made = c.canonical.ensures in
    canonical_within g.G.Grid.geometry g.met.G.Grid.laws c.args.shape.now c.canonical.result (subst (IsPolyform g.G.Grid.geometry) (sym (same g c)) made.shape.polyform) made.canonical made.shape.few

pub of-requires : goal.of-requires
of-requires g c = near g (goal.at.of-requires g c).After-canonical

pub entries_of-requires-clause-near : goal.entries_of-requires-clause-near
entries_of-requires-clause-near g c d h = near g (goal.at.entries_of-requires-clause-near g c).After-canonical d (ap (λ zs. has zs d) (sym c.in_ok-forms.ensures) ∙ h)

pub invariant_of-result : goal.invariant_of-result
invariant_of-result g c =
    let geometry = g.G.Grid.geometry in
    let entries = c.in_ok-entries.entries.items in
    let by : Entry g.row.G.Denot → Iso = λ e. e.place.by in
    let tile_of : Entry g.row.G.Denot → List Cell = λ e. e.place.tile in
    let is = sym c.into_shape.ensures in
    record {
      universe = subst (λ s. IsUniverse geometry s c.args.level (map (variable g) entries)) is c.in_ok-entries.ensures.universe;
      least = subst (λ s. HaveLeast (variable g) by geometry s entries) is c.in_ok-entries.ensures.least;
      indexed = c.in_ok-table.ensures ∙ ap (map tile_of) c.as_slice.ensures.value;
      few = omega (arith, c.if-len-ge-VARIABLES_MAX.false, c.len.ensures, c.in_ok-entries.entries.ok.0);
      range = c.requires.level;
    }

pub returns-clause-universe : goal.returns-clause-universe
returns-clause-universe g c = subst (λ s. IsUniverse g.G.Grid.geometry s c.args.level (map (variable g) c.in_ok-entries.entries.items)) (sym c.into_shape.ensures) c.in_ok-entries.ensures.universe

pub returns-clause-shape : goal.returns-clause-shape
returns-clause-shape g c = c.into_shape.ensures ∙ c.in_ok-forms.ensures ∙ sym (same g (goal.at.returns-clause-shape g c).After-canonical)
