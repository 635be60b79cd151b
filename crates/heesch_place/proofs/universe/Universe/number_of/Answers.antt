use Rattle.std.proofs.Common.{◌≡◌, ◌+◌, ◌<◌, length, sym, ap, subst, rules}
use Rattle.std.specs.List.{HoldsAt}
use Rattle.std.specs.List.Sorted.{IsNonDecreasingBy, IsPartitionPoint}
use Rattle.std.specs.Ordering.{ordering_index}
use Rattle.std.specs.declared.cmp.Ordering.{Ordering}
use Rattle.std.specs.declared.cmp.Ordering.TheVariants.{Less, Equal, Greater}
use Rattle.std.proofs.lemmas.Fn.{always_returns_same}
use Rattle.heesch_grid.specs.CoronaFormula.{Variable, IsNumbered}
use Rattle.heesch_place.specs.Universes.{Levels, variable_cmp}
use Rattle.heesch_place.proofs.Numbering.{number_found, number_none}
use Rattle.heesch_place.specs.declared.universe.Entry.{Entry}
use Rattle.heesch_place.proofs.universe.Universe.number_of.Goals as goal

pub returns-in-Ok : goal.returns-in-Ok
returns-in-Ok g c =
    let variable : Entry g.row.G.Denot → Variable = λ e. record { level = e.level; tile = e.place.tile } in
    let v : Variable = record { level = c.args.level; tile = c.args.place.now.tile } in
    let ord : Entry g.row.G.Denot → Ordering = λ e. variable_cmp (variable e) v in
    let at = c.in-Ok.at in
    let entries = c.self.inside.entries.items in
    let found = c.in-Ok.ensures.position ord (always_returns_same _ _ _ (λ a r f' call. search rules)) in
    let here = subst (λ es. HoldsAt (λ e. variable_cmp (variable e) v ≡ Equal) es at) c.deref.ensures.value found in
    let less : at < length entries = subst (λ es. at < length es) c.deref.ensures.value c.in-Ok.ensures.bound in
    subst (λ vars. IsNumbered vars (at + 1) v) (ap (λ (u : Levels). u.vars) c.self.view_is) (number_found variable entries v at less here)

pub returns-in-Err : goal.returns-in-Err
returns-in-Err g c n x is =
    let variable : Entry g.row.G.Denot → Variable = λ e. record { level = e.level; tile = e.place.tile } in
    let v : Variable = record { level = c.args.level; tile = c.args.place.now.tile } in
    let ord : Entry g.row.G.Denot → Ordering = λ e. variable_cmp (variable e) v in
    let at = c.in-Err.field-0 in
    let entries = c.self.inside.entries.items in
    let found = c.in-Err.ensures.position ord (always_returns_same _ _ _ (λ a r f' call. search rules)) in
    let parted = subst (λ es. IsNonDecreasingBy (λ e. ordering_index (variable_cmp (variable e) v)) es → IsPartitionPoint (λ e. variable_cmp (variable e) v ≡ Less) (λ e. variable_cmp (variable e) v ≡ Greater) es at) c.deref.ensures.value found in
    let at_x = subst (λ vars. IsNumbered vars n x) (sym (ap (λ (u : Levels). u.vars) c.self.view_is)) is in
    number_none variable entries v at c.self.invariant.universe.rising parted n x at_x
