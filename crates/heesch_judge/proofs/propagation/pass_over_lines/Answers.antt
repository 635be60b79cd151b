use Rattle.std.proofs.Common.{◌≡◌, ◌<◌, ◌≤◌, [], length, get_or, sym, subst, arith}
use Rattle.std.proofs.lemmas.List.{length-map}
use Rattle.heesch_cnf.specs.Left.{IsLeft}
use Rattle.heesch_cnf.specs.Lines.{clause_of, clauses_of}
use Rattle.heesch_cnf.specs.Literals.{held}
use Rattle.heesch_judge.proofs.Propagating.{one_conflict, one_more, passes_none, whole_pass}
use Rattle.heesch_judge.proofs.Settled.{line_below, line_fits, line_same}
use Rattle.heesch_judge.proofs.propagation.pass_over_lines.Goals as goal

pub loop-index-init : goal.loop-index-init
loop-index-init g c = passes_none c.args.values.now

pub left_in-left-requires : goal.left_in-left-requires
left_in-left-requires g c =
    let lines = (g.S.Steps.written c.args.steps.now).lines in
    let i = c.loop-index.index in
    let below : i < length lines = omega arith in
    line_fits c.args.vars lines i below c.clause-clause.result.now c.clause-clause.ensures c.requires.form (length c.loop-index.values) (omega arith)

pub returns-in-None : goal.returns-in-None
returns-in-None g c =
    let lines = (g.S.Steps.written c.args.steps.now).lines in
    let clauses = clauses_of lines in
    let i = c.loop-index.index in
    let few : i < length lines = omega arith in
    let below : i < length clauses = line_below c.args.vars lines i few c.clause-clause.result.now c.clause-clause.ensures in
    let at : c.clause-clause.result.now ≡ get_or clauses i [] = line_same c.args.vars lines i few c.clause-clause.result.now c.clause-clause.ensures in
    let left = subst (λ clause. IsLeft (held c.loop-index.values) clause c.left_in-left.result) at c.left_in-left.ensures in
    one_conflict clauses i below c.args.values.now c.loop-index.values c.loop-index.grew c.loop-index.invariant (c.in-None.ensures (get_or clauses i []) (c.requires.form i [] below) left)

pub loop-index-preserved : goal.loop-index-preserved
loop-index-preserved g c =
    let lines = (g.S.Steps.written c.args.steps.now).lines in
    let clauses = clauses_of lines in
    let i = c.loop-index.index in
    let few : i < length lines = omega arith in
    let below : i < length clauses = line_below c.args.vars lines i few c.clause-clause.result.now c.clause-clause.ensures in
    let at : c.clause-clause.result.now ≡ get_or clauses i [] = line_same c.args.vars lines i few c.clause-clause.result.now c.clause-clause.ensures in
    let left = subst (λ clause. IsLeft (held c.loop-index.values) clause c.left_in-left.result) at c.left_in-left.ensures in
    one_more clauses i below c.args.values.now c.loop-index.values c.loop-index.grew c.loop-index.invariant c.force.new.values c.in-Some.came (c.in-Some.ensures (get_or clauses i []) (c.requires.form i [] below) left)

pub returns : goal.returns
returns g c =
    let lines = (g.S.Steps.written c.args.steps.now).lines in
    let all : length (clauses_of lines) ≤ c.loop-index.index = omega (arith, length-map lines clause_of) in
    whole_pass (clauses_of lines) c.loop-index.index c.args.values.now c.loop-index.values c.loop-index.grew all c.loop-index.invariant
