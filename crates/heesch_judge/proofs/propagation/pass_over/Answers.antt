use Rattle.std.proofs.Common.{◌≡◌, ◌+◌, ◌-◌, ◌<◌, ◌≤◌, [], length, get_or, ap, sym, subst, arith}
use Rattle.heesch_cnf.specs.Clauses.{IsClause}
use Rattle.heesch_cnf.specs.Left.{IsLeft}
use Rattle.heesch_cnf.specs.Lines.{numbered}
use Rattle.heesch_cnf.specs.Literals.{held}
use Rattle.heesch_judge.proofs.Propagating.{one_conflict, one_more, passes_none, whole_pass}
use Rattle.heesch_judge.proofs.propagation.pass_over.Goals as goal

pub loop-index-init : goal.loop-index-init
loop-index-init g c = passes_none c.args.values.now

pub returns-in-None : goal.returns-in-None
returns-in-None g c =
    let f = g.C.ClauseSource.listed c.args.formula.now in
    let i = c.loop-index.index in
    let below : i < length f.clauses = omega arith in
    let at : numbered f.clauses (i + 1) ≡ get_or f.clauses i [] = ap (λ n. get_or f.clauses n []) (let e : i + 1 - 1 ≡ i = omega arith in e) in
    let form = subst (λ n. IsClause n (get_or f.clauses i [])) (sym c.vars-vars.ensures.vars) (c.vars-vars.ensures.form i [] below) in
    let left = subst (λ clause. IsLeft (held c.loop-index.values) clause c.left-left.result) at c.left-left.ensures in
    one_conflict f.clauses i below c.args.values.now c.loop-index.values c.loop-index.grew c.loop-index.invariant (c.in-None.ensures (get_or f.clauses i []) form left)

pub loop-index-preserved : goal.loop-index-preserved
loop-index-preserved g c =
    let f = g.C.ClauseSource.listed c.args.formula.now in
    let i = c.loop-index.index in
    let below : i < length f.clauses = omega arith in
    let at : numbered f.clauses (i + 1) ≡ get_or f.clauses i [] = ap (λ n. get_or f.clauses n []) (let e : i + 1 - 1 ≡ i = omega arith in e) in
    let form = subst (λ n. IsClause n (get_or f.clauses i [])) (sym c.vars-vars.ensures.vars) (c.vars-vars.ensures.form i [] below) in
    let left = subst (λ clause. IsLeft (held c.loop-index.values) clause c.left-left.result) at c.left-left.ensures in
    one_more f.clauses i below c.args.values.now c.loop-index.values c.loop-index.grew c.loop-index.invariant c.force.new.values c.in-Some.came (c.in-Some.ensures (get_or f.clauses i []) form left)

pub returns : goal.returns
returns g c =
    let f = g.C.ClauseSource.listed c.args.formula.now in
    let all : length f.clauses ≤ c.loop-index.index = omega arith in
    whole_pass f.clauses c.loop-index.index c.args.values.now c.loop-index.values c.loop-index.grew all c.loop-index.invariant
