use Rattle.std.proofs.Common.{List, ℕ, filter, eqb, subst, arith, IsPermutation}
use Rattle.std.specs.Prelude.{◌==◌}
use Rattle.std.specs.Int.Bits.{bit_and}
use Rattle.std.proofs.lemmas.List.Filters.{dedup_is}
use Rattle.heesch_torus.proofs.Beside.{beside_sorted, filter_shorter}
use Rattle.heesch_torus.proofs.filling.beside.Goals as goal

pub returns : goal.returns
returns c =
    let sorted : List ℕ = c.sort_unstable.new.self.items in
    let p : IsPermutation (filter (λ m. bit_and m c.args.first == 0) c.args.masks.now) c.sort_unstable.new.self.items = subst (λ (xs : List ℕ). IsPermutation xs c.sort_unstable.new.self.items) c.in_ok-apart.ensures c.sort_unstable.ensures.permutation in
    beside_sorted c.args.masks.now c.args.first sorted c.dedup.new.self.items p c.sort_unstable.ensures.sorted
    (dedup_is eqb sorted c.dedup.new.self.items c.dedup.ensures.filtered) (let few = c.dedup.ensures.bound in let a = c.dedup.new.self.ok.0 in let b = c.sort_unstable.new.self.ok.0 in omega arith) (filter_shorter (λ m. bit_and m c.args.first == 0) c.args.masks.now)
