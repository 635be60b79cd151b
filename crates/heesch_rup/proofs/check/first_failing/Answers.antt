use Rattle.std.proofs.Common.{◌≡◌, ◌+◌, true, false, sym, ◌∙◌, arith}
use Rattle.std.specs.Option.{option_copied}
use Rattle.heesch_rup.proofs.Forms.{AreClauses-first, few_before}
use Rattle.heesch_rup.proofs.Answering.{holds_among, hold_more}
use Rattle.heesch_rup.proofs.check.first_failing.Goals as goal

pub line_holds-requires-clause-clauses : goal.line_holds-requires-clause-clauses
line_holds-requires-clause-clauses g c =
    AreClauses-first (g.C.ClauseSource.listed c.args.formula.now) c.args.added.now (g.S.Steps.written c.args.steps.now).lines c.requires.added c.vars-vars.ensures.form c.vars-same.ensures.form

pub line_holds-requires-clause-count : goal.line_holds-requires-clause-count
line_holds-requires-clause-count g c =
    let few = few_before (g.C.ClauseSource.listed c.args.formula.now) c.args.added.now (g.S.Steps.written c.args.steps.now).lines c.requires.added c.loop-i.i (omega (arith, c.requires.until)) in
    omega (arith, few, c.count-count.ensures.count)

pub loop-i-preserved : goal.loop-i-preserved
loop-i-preserved g c =
    let f = (g.C.ClauseSource.listed c.args.formula.now) in
    let lines = (g.S.Steps.written c.args.steps.now).lines in
    let judged = holds_among f c.args.added.now lines c.loop-i.i (c.count-count.result + c.loop-i.i) c.clause.result.now (option_copied c.hints.result) c.in_ok-line_holds.field-0 c.requires.added (omega (arith, c.requires.until)) (omega (arith, c.count-count.ensures.count)) c.clause.ensures c.hints.ensures c.in_ok-line_holds.ensures.holds in
    record {
      room = c.in_ok-line_holds.ensures.room ∙ c.loop-i.invariant.room;
      open_ = c.in_ok-line_holds.ensures.open;
      hold = hold_more f.vars f.clauses lines c.args.from c.loop-i.i c.loop-i.invariant.hold (λ d. (judged d).0 c.if-not-branch.false);
    }

pub returns-then-not-branch-clause-first : goal.returns-then-not-branch-clause-first
returns-then-not-branch-clause-first g c =
    let f = (g.C.ClauseSource.listed c.args.formula.now) in
    let lines = (g.S.Steps.written c.args.steps.now).lines in
    let judged = holds_among f c.args.added.now lines c.loop-i.i (c.count-count.result + c.loop-i.i) c.clause.result.now (option_copied c.hints.result) c.in_ok-line_holds.field-0 c.requires.added (omega (arith, c.requires.until)) (omega (arith, c.count-count.ensures.count)) c.clause.ensures c.hints.ensures c.in_ok-line_holds.ensures.holds in
    (omega arith, omega arith, c.loop-i.invariant.hold, (omega (arith, c.requires.until, c.requires.added.0), λ d holds. let bad : false ≡ true = sym c.if-not-branch.true ∙ (judged d).1 holds in cc))

pub returns-clause-first : goal.returns-clause-first
returns-clause-first g c i le lt = c.loop-i.invariant.hold i le (omega (arith, lt))

pub overflow_add-count : goal.overflow_add-count
overflow_add-count g c = omega (arith, c.requires.until, c.len-few.ensures.count, c.len-few.ensures.few, c.count-count.ensures.few)
