use Rattle.std.proofs.Common.{MatchBool, subst, arith}
use Rattle.heesch_cnf.specs.Literals.{held}
use Rattle.heesch_rup.specs.Listed.{SomeFalsified, NoneFalsifiedAt}
use Rattle.heesch_rup.proofs.Containing.{new_when_none}
use Rattle.heesch_rup.proofs.occurrences.Occurrences.contains_listed.Goals as goal

pub returns : goal.returns
returns c =
    let clauses = c.args.clauses.now.clauses in
    let values = held c.args.values.now in
    let n = c.args.count in
    let counts = c.args.self.now.counts.items in
    let none_empty = subst (λ b. MatchBool b (SomeFalsified values clauses n) (NoneFalsifiedAt counts values clauses n 0)) c.if-any_falsified.false c.any_falsified.ensures in
    new_when_none counts c.args.clauses.now.vars values clauses n c.args.clause.now c.requires.refuted c.requires.clause (omega (arith, c.requires.count, c.requires.lists.within)) none_empty
    (λ j d lt. c.loop-lit.invariant j d (omega arith))
