use Rattle.std.proofs.Common.{◌-◌, take, get_or, ap, arith, ◌<◌, ◌∷◌, List, length, sym, subst, ◌∙◌}
use Rattle.std.specs.Prelude.{IsPermutation}
use Rattle.std.proofs.lemmas.List.Sorted.{IsPermutation-swap_remove}
use Rattle.heesch_trail.specs.declared.entry.Entry.{Entry}
use Rattle.heesch_trail.specs.Watches.{IsWithout}
use Rattle.heesch_trail.proofs.Enlisted.{Without-swapped, Front-swapped}
use Rattle.heesch_trail.proofs.watch_list.WatchList.remove.Goals as goal

pub returns : goal.returns
returns c =
    let old = c.self.inside.entries.items in
    let x = c.swap_remove.result in
    let lt = subst (λ (es : List Entry). c.args.place < length es) (sym c.self.view_is) c.requires in
    let is = c.swap_remove.ensures.value in
    let mixed = subst (λ (es : List Entry). IsPermutation old (x ∷ es)) (sym c.swap_remove.ensures.items) (IsPermutation-swap_remove old c.args.place x lt is) in
    let swapped = Front-swapped old c.args.place (get_or old (length old - 1) x) lt in
    let both = Without-swapped old c.swap_remove.new.self.items c.args.place x lt is mixed in
    subst (λ (es : List Entry). IsWithout c.args.place es c.swap_remove.new.self.items) c.self.view_is (record {
      front = ap (take c.args.place) c.swap_remove.ensures.items ∙ swapped.0;
      kept = both.0;
      within = both.1;
      shorter = omega (arith, ap length c.swap_remove.ensures.items, swapped.1);
    })
