use Rattle.std.proofs.Common.{◌≡◌, true, false, take, MatchBool, subst, arith}
use Rattle.heesch_cnf.specs.Literals.{held}
use Rattle.heesch_cnf.specs.Clauses.{IsNew}
use Rattle.heesch_rup.specs.Listed.{SomeFalsified}
use Rattle.heesch_rup.proofs.Containing.{not_new_when_some, new_in_both, new_in_first, new_in_second}
use Rattle.heesch_rup.proofs.newness.is_new_under.Goals as goal

pub returns-then-contains_listed : goal.returns-then-contains_listed
returns-then-contains_listed g c =
    let f = g.N.ClauseSource.listed c.args.formula.now in
    let added = c.args.added.now.clauses in
    let values = held c.args.values.now in
    let n = c.args.count in
    let clause = c.args.clause.now in
    let some = subst (λ b. MatchBool b (SomeFalsified values added n) (IsNew (take n added) clause)) c.if-contains_listed.true c.contains_listed.ensures in (
      λ e. absurd (let bad : false ≡ true = e in cc),
      λ fresh. absurd (not_new_when_some values added n clause c.requires.refuted (omega (arith, c.requires.count, c.requires.lists.within)) some (new_in_second f.clauses (take n added) clause fresh)),
    )

pub returns : goal.returns
returns g c =
    let f = g.N.ClauseSource.listed c.args.formula.now in
    let added = c.args.added.now.clauses in
    let values = held c.args.values.now in
    let n = c.args.count in
    let clause = c.args.clause.now in
    let none = subst (λ b. MatchBool b (SomeFalsified values added n) (IsNew (take n added) clause)) c.if-contains_listed.false c.contains_listed.ensures in (
      λ e. new_in_both f.clauses (take n added) clause (c.is_new.ensures.0 e) none,
      λ fresh. c.is_new.ensures.1 (new_in_first f.clauses (take n added) clause fresh),
    )
