use Rattle.std.proofs.Common.{◌<◌, [], length, refl, arith}
use Rattle.std.proofs.lemmas.List.Elements.{All-more}
use Rattle.heesch_cnf.specs.Clauses.{assignment_of, IsSatisfied}
use Rattle.heesch_exchange.proofs.Untrue.{first_is, all_true}
use Rattle.heesch_exchange.proofs.falsity.first_false.Goals as goal

pub is_satisfied-requires-clause-form : goal.is_satisfied-requires-clause-form
is_satisfied-requires-clause-form g c =
    let formula = c.clause_count-index-end.ensures in
    let lt : c.loop-index.index < length (g.F.HasLiterals.clauses c.args.formula.now) = omega (arith, formula.count) in
    formula.form c.loop-index.index [] lt

pub returns-then-not-is_satisfied : goal.returns-then-not-is_satisfied
returns-then-not-is_satisfied g c =
    let lt : c.loop-index.index < length (g.F.HasLiterals.clauses c.args.formula.now) = omega (arith, c.clause_count-index-end.ensures.count) in
    let tested = c.if-not-is_satisfied.ensures in
    first_is (assignment_of c.args.values.now) (g.F.HasLiterals.clauses c.args.formula.now) c.loop-index.index lt (λ s. let no_truth = tested.1 s in absurd cc) c.loop-index.invariant

pub loop-index-preserved : goal.loop-index-preserved
loop-index-preserved g c =
    let lt : c.loop-index.index < length (g.F.HasLiterals.clauses c.args.formula.now) = omega (arith, c.clause_count-index-end.ensures.count) in
    All-more (IsSatisfied (assignment_of c.args.values.now)) (g.F.HasLiterals.clauses c.args.formula.now) c.loop-index.index [] lt c.loop-index.invariant (c.if-not-is_satisfied.ensures.0 refl)

pub returns : goal.returns
returns g c =
    all_true (assignment_of c.args.values.now) (g.F.HasLiterals.clauses c.args.formula.now) c.loop-index.index (omega (arith, c.loop-index-test.false, c.clause_count-index-end.ensures.count)) c.loop-index.invariant
