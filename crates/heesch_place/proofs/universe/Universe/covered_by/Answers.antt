use Rattle.std.proofs.Common.{◌≡◌, ℕ, true, false, map, sym, ap, subst, ◌∙◌, arith, rules}
use Rattle.std.specs.Prelude.{nat_le}
use Rattle.std.specs.List.Sorted.{IsPartitionedBy, IsPartitionPoint}
use Rattle.std.proofs.lemmas.List.Elements.{All-contains}
use Rattle.std.proofs.lemmas.List.Sorted.{IsPartitionPoint-from_clause}
use Rattle.heesch_grid.specs.CoronaFormula.{Variable, IsVariable}
use Rattle.heesch_index.specs.Covering.{numbers_with}
use Rattle.heesch_place.specs.Universes.{Levels, covering, level_at}
use Rattle.heesch_place.proofs.Numbering.{are_parted, covering_parted, covering_all, index_tiles, levels_twice}
use Rattle.heesch_place.specs.declared.universe.Entry.{Entry}
use Rattle.heesch_place.proofs.universe.Universe.covered_by.Given as given
use Rattle.heesch_place.proofs.universe.Universe.covered_by.Goals as goal
use Rattle.heesch_place.proofs.universe.Universe.covered_by.Goals.{After-covering-numbers}

abbrev variable : (g : given.Over) → Entry g.row.G.Denot → Variable
variable g e = record { level = e.level; tile = e.place.tile }

-- the variables are those of the entries
view : (g : given.Over) (c : After-covering-numbers g) → map (variable g) c.self.inside.entries.items ≡ c.args.self.now.vars
view g c = ap (λ (u : Levels). u.vars) c.self.view_is

-- the numbers are those of the entries with the cell
with_cell : (g : given.Over) (c : After-covering-numbers g) → c.covering-numbers.result.now ≡ numbers_with (map (λ x. x.tile) (map (variable g) c.self.inside.entries.items)) c.args.c
with_cell g c = c.covering-numbers.ensures ∙ ap (λ sets. numbers_with sets c.args.c) (index_tiles (variable g) c.self.inside.entries.items c.self.inside.table c.self.invariant.indexed)

pub returns : goal.returns
returns g c =
    let at = (goal.at.returns g c).After-covering-numbers in
    let entries = c.self.inside.entries.items in
    let vars = map (variable g) entries in
    let ns = c.covering-numbers.result.now in
    let up_to = c.args.up_to in
    let level : Entry g.row.G.Denot → ℕ = λ e. e.level in
    let found = map level c.as_slice-entries.result.now in
    let same : found ≡ map (λ x. x.level) vars = ap (map level) c.as_slice-entries.ensures.value ∙ levels_twice (variable g) entries in
    let parted = subst (λ ls. IsPartitionedBy (λ n. nat_le (level_at ls n) up_to) ns) (sym same) (are_parted vars up_to c.args.c ns (with_cell g at) c.self.invariant.universe.rising) in
    let point = IsPartitionPoint-from_clause (λ n. nat_le (level_at found n) up_to) ns c.partition_point-end.result c.partition_point-end.ensures.partitioned parted (λ a r f' call. search rules) in
    covering_parted vars up_to c.args.c ns (with_cell g at) c.partition_point-end.result (subst (λ ls. IsPartitionPoint (λ n. nat_le (level_at ls n) up_to ≡ true) (λ n. nat_le (level_at ls n) up_to ≡ false) ns c.partition_point-end.result) same point)
    ∙ ap (λ vs. covering vs up_to c.args.c) (view g at)

pub returns-then-self-up_to : goal.returns-then-self-up_to
returns-then-self-up_to g c =
    let at = (goal.at.returns-then-self-up_to g c).After-covering-numbers in
    let vars = map (variable g) c.self.inside.entries.items in
    covering_all vars c.args.up_to c.args.c c.covering-numbers.result.now (with_cell g at) (λ x m.
    let top = (All-contains (IsVariable g.G.Grid.geometry c.self.inside.shape c.self.inside.level) vars x c.self.invariant.universe.only m).level_to in
    omega (arith, top, c.if-self-up_to.true))
    ∙ ap (λ vs. covering vs c.args.up_to c.args.c) (view g at)
