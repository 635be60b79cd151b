use Rattle.std.proofs.Common.{◌+◌, ◌<◌, ◌≤◌, length, ap, arith, sym, ◌∙◌, true≢false}
use Rattle.heesch_cnf.specs.Lines.{numbered}
use Rattle.heesch_cnf.specs.Literals.{held}
use Rattle.heesch_judge.proofs.FirstEmpty.{first_of, none_of_all, none_of_new, nothing_left, one_more}
use Rattle.heesch_judge.proofs.empty.first_empty.Goals as goal

pub is_new-requires-clause-refuted : goal.is_new-requires-clause-refuted
is_new-requires-clause-refuted g c = ap held c.deref.ensures.value ∙ c.in_ok-values.ensures.open

pub returns-then-is_new : goal.returns-then-is_new
returns-then-is_new g c = none_of_new (g.N.ClauseSource.listed c.args.formula.now).clauses (c.is_new.ensures.0 c.if-is_new.true)

pub returns-then-is_nothing : goal.returns-then-is_nothing
returns-then-is_nothing g c =
    let f = g.N.ClauseSource.listed c.args.formula.now in
    let i = c.loop-index.index in
    let below : i < length f.clauses = omega arith in
    let tells = nothing_left (held c.deref-in-loop-index.result.now) (numbered f.clauses (i + 1)) c.left.result (ap held c.deref-in-loop-index.ensures.value ∙ c.in_ok-values.ensures.open) c.left.ensures in
    first_of f.clauses i c.loop-index.invariant below (tells.0 (c.is_nothing.ensures.0 c.if-is_nothing.true))

pub loop-index-preserved : goal.loop-index-preserved
loop-index-preserved g c =
    let f = g.N.ClauseSource.listed c.args.formula.now in
    let i = c.loop-index.index in
    let tells = nothing_left (held c.deref-in-loop-index.result.now) (numbered f.clauses (i + 1)) c.left.result (ap held c.deref-in-loop-index.ensures.value ∙ c.in_ok-values.ensures.open) c.left.ensures in
    one_more f.clauses i c.loop-index.invariant (λ e. true≢false (sym (c.is_nothing.ensures.1 (tells.1 e)) ∙ c.if-is_nothing.false))

pub returns : goal.returns
returns g c =
    let f = g.N.ClauseSource.listed c.args.formula.now in
    let all : length f.clauses ≤ c.loop-index.index = omega arith in
    none_of_all f.clauses c.loop-index.index c.loop-index.invariant all
