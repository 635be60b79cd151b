use Rattle.std.proofs.Common.{◌≡◌, ◌+◌, ◌*◌, ◌-◌, ◌<◌, ◌∷◌, ◌++◌, [], ◌∙◌, ℕ, ap, sym, subst, get_or, length, map, take, arith}
use Rattle.std.specs.Prelude.{sum_by}
use Rattle.std.specs.List.{enumerate_from}
use Rattle.std.proofs.lemmas.Result.{err_from_is_err_and}
use Rattle.heesch_encode.specs.Families.{apart_at}
use Rattle.heesch_pairwise.proofs.PairLists.{variable_at, number_of, none_has, one_more_has, most_of_all, counts_more, sizes_more, sizes_within, counts_whole, sizes_whole}
use Rattle.heesch_pairwise.proofs.pairs.PairClauses.of.Given as given
use Rattle.heesch_pairwise.proofs.pairs.PairClauses.of.Goals as goal
use Rattle.heesch_pairwise.proofs.pairs.PairClauses.of.Goals.{After-add}

-- the count of the next variable
counted : (g : given.Over) (c : After-add g) → c.in_ok-count.count ≡ length (apart_at c.args.universe.now.vars (c.loop-i.i + 1, variable_at c.args.universe.now.vars c.loop-i.i))
counted g c =
    let vars = c.args.universe.now.vars in
    let i = c.loop-i.i in
    let less : i < length vars = omega (arith, c.loop-i-test.true, c.count-i-end.ensures.count) in
    c.in_ok-count.ensures.count (variable_at vars i) (number_of vars i less)

pub loop-i-preserved : goal.loop-i-preserved
loop-i-preserved g c =
    let vars = c.args.universe.now.vars in
    let i = c.loop-i.i in
    let less : i < length vars = omega (arith, c.loop-i-test.true, c.count-i-end.ensures.count) in
    let count = counted g (goal.at.loop-i-preserved g c).After-add in
    let before = c.loop-i.invariant.left in
    let left = c.in_ok-left.ensures.left in
    let more = sizes_more vars i less in
    let most = c.in_ok-left.ensures.most in
    record {
      later = c.in_ok-left.ensures.later ∙ (λ k. c.loop-i.invariant.later k ++ count k ∷ []) ∙ sym (counts_more vars i less);
      most = one_more_has vars i c.loop-i.all.most_holders c.most_with.result (let over = c.most_with.ensures.more in omega arith) c.loop-i.invariant.most c.most_with.ensures.each;
      unmarked = c.in_ok-count.ensures.unmarked;
      left = omega arith;
    }

pub returns-in_err-left-clause-too_large : goal.returns-in_err-left-clause-too_large
returns-in_err-left-clause-too_large g c = λ large.
    let vars = c.args.universe.now.vars in
    let i = c.loop-i.i in
    let less : i < length vars = omega (arith, c.loop-i-test.true, c.count-i-end.ensures.count) in
    let count = counted g (goal.at.returns-in_err-left-clause-too_large g c).After-add in
    let q = err_from_is_err_and c.from_residual-in_err-left.result c.from_residual-in_err-left.ensures.1 in
    let above = c.in_err-left.ensures.too_large (cc (large, q.1, q.2)) in
    let before = c.loop-i.invariant.left in
    let within = sizes_within vars i less in
    omega arith

pub returns-clause-later : goal.returns-clause-later
returns-clause-later g c = c.loop-i.invariant.later ∙ counts_whole c.args.universe.now.vars c.loop-i.i (omega (arith, c.loop-i-test.false, c.count-i-end.ensures.count))

pub returns-clause-most : goal.returns-clause-most
returns-clause-most g c = most_of_all c.args.universe.now.vars c.loop-i.all.most_holders c.loop-i.i (omega (arith, c.loop-i-test.false, c.count-i-end.ensures.count)) c.loop-i.invariant.most

pub returns-clause-left : goal.returns-clause-left
returns-clause-left g c =
    let whole = sizes_whole c.args.universe.now.vars c.loop-i.i (omega (arith, c.loop-i-test.false, c.count-i-end.ensures.count)) in
    let before = c.loop-i.invariant.left in
    omega arith
