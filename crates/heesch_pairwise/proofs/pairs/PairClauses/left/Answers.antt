use Rattle.std.proofs.Common.{◌≡◌, ◌+◌, ◌-◌, ◌<◌, [], ◌∷◌, ℕ, List, sym, ap, subst, ◌∙◌, arith, get_or, length, sum}
use Rattle.std.specs.List.{enumerate_from}
use Rattle.std.proofs.lemmas.List.Elements.{All-get_or}
use Rattle.heesch_cnf.specs.declared.literal.Lit.{Lit}
use Rattle.heesch_cnf.specs.Clauses.{IsClause}
use Rattle.heesch_cnf.specs.Left.{FitsIn, IsLeft}
use Rattle.heesch_cnf.specs.Literals.{held}
use Rattle.heesch_encode.specs.Families.{apart_at}
use Rattle.heesch_numbers.specs.Counts.{FallsIn}
use Rattle.heesch_numbers.proofs.Counting.{all_counted}
use Rattle.heesch_pairwise.specs.Later.{later_of}
use Rattle.heesch_pairwise.specs.Pairs.{pairs_of}
use Rattle.heesch_pairwise.proofs.PairLists.{IsAt, clause_at, pairs_form, later_at_same, number_of, variable_at, pair}
use Rattle.heesch_pairwise.proofs.pairs.PairClauses.left.Given as given
use Rattle.heesch_pairwise.proofs.pairs.PairClauses.left.Goals as goal
use Rattle.heesch_pairwise.proofs.pairs.PairClauses.left.Goals.{After-place-part, After-minus-2}

pub place-part-requires : goal.place-part-requires
place-part-requires g c =
    let vars = c.args.universe.now.vars in
    let all = ap sum c.requires.later ∙ all_counted (apart_at vars) (enumerate_from 1 vars) in
    omega (arith, all, c.requires.place)

-- where the clause stands
at : (g : given.Over) (c : After-place-part g) → IsAt c.args.universe.now.vars c.args.place c.place-part.result.0 c.place-part.result.1
at g c = clause_at c.args.universe.now.vars c.args.place c.place-part.result.0 c.place-part.result.1 (subst (λ ns. FallsIn ns c.args.place c.place-part.result.0 c.place-part.result.1) c.requires.later c.place-part.ensures)

pub overflow_cast-var : goal.overflow_cast-var
overflow_cast-var g c = let l = (at g (goal.at.overflow_cast-var g c).After-place-part).in_vars in omega (arith, l, c.requires.few)

pub overflow_add-var : goal.overflow_add-var
overflow_add-var g c = let l = (at g (goal.at.overflow_add-var g c).After-place-part).in_vars in omega (arith, l, c.requires.few)

pub later_at-other-requires-clause-number : goal.later_at-other-requires-clause-number
later_at-other-requires-clause-number g c = let l = (at g (goal.at.later_at-other-requires-clause-number g c).After-place-part).in_vars in (omega arith, omega (arith, l))

pub later_at-other-requires-clause-place : goal.later_at-other-requires-clause-place
later_at-other-requires-clause-place g c = λ x number.
    let vars = c.args.universe.now.vars in
    let p = at g (goal.at.later_at-other-requires-clause-place g c).After-place-part in
    subst (λ (ns : List ℕ). c.place-part.result.1 < length ns) (later_at_same vars c.place-part.result.0 x p.in_vars number) p.in_later

-- the clause, as it is written
written : (g : given.Over) (c : After-minus-2 g) (there : After-place-part g) → IsAt c.args.universe.now.vars c.args.place c.place-part.result.0 c.place-part.result.1 → c.minus.result ∷ c.minus-2.result ∷ [] ≡ get_or (pairs_of c.args.universe.now.vars) c.args.place []
written g c there p =
    let vars = c.args.universe.now.vars in
    let part = c.place-part.result.0 in
    let other = c.later_at-other.ensures (variable_at vars part) (number_of vars part p.in_vars) in
    (λ k. c.minus.ensures k ∷ c.minus-2.ensures k ∷ []) ∙ ap (pair (part + 1)) other ∙ sym p.is

pub left_in-requires : goal.left_in-requires
left_in-requires g c =
    let vars = c.args.universe.now.vars in
    let there = goal.at.left_in-requires g c in
    let form : IsClause (length vars) (get_or (pairs_of vars) c.args.place []) = All-get_or (IsClause (length vars)) (pairs_of vars) c.args.place [] c.requires.place (pairs_form vars) in
    let fits : FitsIn c.args.values.now (get_or (pairs_of vars) c.args.place []) = λ k d l. let high = (form.in_range k d l).1 in omega (arith, high, c.requires.room) in
    subst (FitsIn c.args.values.now) (sym (written g there.After-minus-2 there.After-place-part (at g there.After-place-part))) fits

pub returns : goal.returns
returns g c =
    let there = goal.at.returns g c in
    subst (λ (e : List Lit). IsLeft (held c.args.values.now) e c.left_in.result) (written g there.After-minus-2 there.After-place-part (at g there.After-place-part)) c.left_in.ensures
