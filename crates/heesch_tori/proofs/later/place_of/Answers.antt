use Rattle.std.proofs.Common.{subst, sym}
use Rattle.std.specs.Prelude.{◌≡◌, ◌<◌, ℕ, Option, MatchOption, Contains, length, slice_index_or}
use Rattle.heesch_tori.proofs.PairNumbers.{searched_place}
use Rattle.heesch_tori.proofs.later.place_of.Goals as goal

pub returns : goal.returns
returns c =
    let xs = c.args.numbers.now in
    let x = c.args.number in
    subst (λ (o : Option ℕ). MatchOption o (¬ Contains xs x) (λ place. (place < length xs) × (slice_index_or xs place 0 ≡ x))) (sym c.ok.ensures.value)
    (searched_place xs x c.binary_search.result c.requires c.binary_search.ensures.position)
