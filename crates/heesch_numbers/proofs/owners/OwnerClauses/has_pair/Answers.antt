use Rattle.std.proofs.Common.{◌≡◌, ◌+◌, ◌-◌, ◌<◌, ◌≤◌, ℕ, List, Bool, true, false, IsTrue, MatchResult, refl, sym, ap, ◌∙◌, subst, arith, get_or, take, length, inl, inr, true≢false}
use Rattle.std.specs.Prelude.{nat_lt}
use Rattle.std.proofs.lemmas.Bool.{cases_lt}
use Rattle.std.proofs.lemmas.List.{get_or_read}
use Rattle.std.proofs.Math.Bool.{beq}
use Rattle.std.proofs.lemmas.List.Sorted.{searched}
use Rattle.heesch_grid.specs.OwnerFormula.{bit, holders, owner_count}
use Rattle.heesch_grid.specs.Cells.{origin}
use Rattle.heesch_grid.specs.Listing.{IsRising}
use Rattle.heesch_encode.proofs.Holders.{total}
use Rattle.heesch_encode.proofs.Rising.{never_falls}
use Rattle.heesch_numbers.proofs.OwnersByNumber.{holders_rising, one_rank, pair_there, pair_found}
use Rattle.heesch_numbers.proofs.OwnerPlaces.{FallsAt, falls_at, ranks_small, vars_few}
use Rattle.heesch_numbers.proofs.owners.OwnerClauses.has_pair.Given as given
use Rattle.heesch_numbers.proofs.owners.OwnerClauses.has_pair.Goals as goal
use Rattle.heesch_numbers.proofs.owners.OwnerClauses.has_pair.Goals.{After-holders_of, After-binary_search}

same_from_test : (a b : Bool) → IsTrue (beq a b) → a ≡ b
same_from_test true true t = refl
same_from_test false false t = refl
same_from_test true false t = absurd (true≢false (sym t))
same_from_test false true t = absurd (true≢false (sym t))

test_from_same : (a b : Bool) → a ≡ b → IsTrue (beq a b)
test_from_same true b e = subst (λ x. IsTrue (beq true x)) e refl
test_from_same false b e = subst (λ x. IsTrue (beq false x)) e refl

-- the cell of the owner variable, and the bit
at : (g : given.Over) (c : After-holders_of g) → FallsAt (owner_count c.args.universe.now.vars) c.args.self.now.cells.items (c.args.owner.var - c.count.result - 1) c.place-part.result.0 c.place-part.result.1
at g c = falls_at (owner_count c.args.universe.now.vars) c.args.self.now.cells.items c.args.self.now.owners c.requires.owners.owners (c.args.owner.var - c.count.result - 1) c.place-part.result.0 c.place-part.result.1 c.place-part.ensures

-- what the search found
found : (g : given.Over) (c : After-binary_search g) → MatchResult c.binary_search.result (λ i. (i < length c.holders_of.result.now) × (get_or c.holders_of.result.now i 0 ≡ c.args.var)) (λ i. (i ≤ length c.holders_of.result.now) × ((k : ℕ) → k < i → get_or c.holders_of.result.now k 0 < c.args.var) × ((k : ℕ) → i ≤ k → k < length c.holders_of.result.now → c.args.var < get_or c.holders_of.result.now k 0))
found g c =
    let vars = c.args.universe.now.vars in
    let rises : IsRising nat_lt c.holders_of.result.now = subst (IsRising nat_lt) (sym c.holders_of.ensures) (holders_rising vars c.index.result.now) in
    searched c.holders_of.result.now c.args.var c.binary_search.result c.binary_search.ensures.position (λ i j le l. never_falls c.holders_of.result.now rises i j 0 le l)

-- the variables that have the cell
own : (g : given.Over) (c : After-holders_of g) → c.holders_of.result.now ≡ holders c.args.universe.now.vars (get_or c.args.self.now.cells.items c.place-part.result.0 origin)
own g c = c.holders_of.ensures ∙ ap (holders c.args.universe.now.vars) (get_or_read c.args.self.now.cells.items c.place-part.result.0 c.index.result.now (at g c).in_cells c.index.ensures origin)

-- where the owner variable is
behind : (g : given.Over) (c : After-holders_of g) → total c.args.universe.now.vars (take c.place-part.result.0 c.args.self.now.cells.items) + c.place-part.result.1 + (length c.args.universe.now.vars + 1) ≡ c.args.owner.var
behind g c =
    let sums = (at g c).sums in
    let count = c.count.ensures.count in
    let later = c.requires.later in
    omega arith

pub bit_of-requires : goal.bit_of-requires
bit_of-requires g c =
    let vars = c.args.universe.now.vars in
    let within = (at g (goal.at.bit_of-requires g c).After-holders_of).in_part in
    let small = ranks_small vars (get_or c.args.self.now.cells.items c.place-part.result.0 origin) (vars_few vars c.args.self.now c.requires.owners) in
    omega arith

pub returns-in-Ok : goal.returns-in-Ok
returns-in-Ok g c =
    let vars = c.args.universe.now.vars in
    let cells = c.args.self.now.cells.items in
    let part = c.place-part.result.0 in
    let t = c.place-part.result.1 in
    let there = (goal.at.returns-in-Ok g c).After-holders_of in
    let falls = at g there in
    let is = own g there in
    let r = subst (λ r. MatchResult r (λ i. (i < length c.holders_of.result.now) × (get_or c.holders_of.result.now i 0 ≡ c.args.var)) (λ i. (i ≤ length c.holders_of.result.now) × ((k : ℕ) → k < i → get_or c.holders_of.result.now k 0 < c.args.var) × ((k : ℕ) → i ≤ k → k < length c.holders_of.result.now → c.args.var < get_or c.holders_of.result.now k 0))) c.in-Ok.is (found g (goal.at.returns-in-Ok g c).After-binary_search) in
    let inside : c.in-Ok.rank < length (holders vars (get_or cells part origin)) = subst (λ (ns : List ℕ). c.in-Ok.rank < length ns) is r.0 in
    let number : get_or (holders vars (get_or cells part origin)) c.in-Ok.rank 0 ≡ c.args.var = ap (λ (ns : List ℕ). get_or ns c.in-Ok.rank 0) (sym is) ∙ r.1 in (
      λ yes. pair_there vars cells part t c.args.var c.args.owner falls.in_cells falls.in_part (behind g there) c.in-Ok.rank inside number (sym c.bit_of.ensures ∙ same_from_test c.bit_of.result c.args.owner.positive yes),
      λ m.
          let f = pair_found vars cells part t c.args.var c.args.owner falls.in_cells falls.in_part (behind g there) m in
          let one = one_rank (holders vars (get_or cells part origin)) (holders_rising vars (get_or cells part origin)) c.in-Ok.rank f.rank inside f.in_holders (number ∙ sym f.number) in
          test_from_same c.bit_of.result c.args.owner.positive (c.bit_of.ensures ∙ ap (bit t) one ∙ f.sign),
    )

pub returns-in-Err : goal.returns-in-Err
returns-in-Err g c =
    let vars = c.args.universe.now.vars in
    let cells = c.args.self.now.cells.items in
    let part = c.place-part.result.0 in
    let t = c.place-part.result.1 in
    let there = (goal.at.returns-in-Err g c).After-holders_of in
    let falls = at g there in
    let is = own g there in
    let r = subst (λ r. MatchResult r (λ i. (i < length c.holders_of.result.now) × (get_or c.holders_of.result.now i 0 ≡ c.args.var)) (λ i. (i ≤ length c.holders_of.result.now) × ((k : ℕ) → k < i → get_or c.holders_of.result.now k 0 < c.args.var) × ((k : ℕ) → i ≤ k → k < length c.holders_of.result.now → c.args.var < get_or c.holders_of.result.now k 0))) c.in-Err.is (found g (goal.at.returns-in-Err g c).After-binary_search) in (
      λ yes. absurd (true≢false (sym yes)),
      λ m.
          let f = pair_found vars cells part t c.args.var c.args.owner falls.in_cells falls.in_part (behind g there) m in
          let inside : f.rank < length c.holders_of.result.now = subst (λ (ns : List ℕ). f.rank < length ns) (sym is) f.in_holders in
          let number : get_or c.holders_of.result.now f.rank 0 ≡ c.args.var = ap (λ (ns : List ℕ). get_or ns f.rank 0) is ∙ f.number in
          absurd (elim (cases_lt f.rank c.in-Err.field-0) [
            | inl low ↦ let less = r.1 f.rank low in omega arith
            | inr high ↦ let more = r.2 f.rank high inside in omega arith
          ]),
    )
