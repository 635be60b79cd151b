use Rattle.std.proofs.Common.{◌-◌, sym, ap, ◌∙◌, arith}
use Rattle.heesch_cnf.specs.declared.literal.Lit.{Lit}
use Rattle.heesch_trail.specs.State.{values_of}
use Rattle.heesch_cdcl.proofs.Facts.{none_if}
use Rattle.heesch_cdcl.proofs.ReadSteps.{form_of}
use Rattle.heesch_cdcl.proofs.decisions.last_open.Goals as goal

pub value-requires : goal.value-requires
value-requires c =
    let clause = c.clause-clause in
    let form = form_of c.args.trail.now c.args.number clause.result.now clause.ensures.valid c.requires clause.ensures.clause in
    let range = form.in_range (c.loop-place.place - 1) c.index-clause-place.result (omega arith) in
    let same = ap (λ (l : Lit). l.var) c.index-clause-place.is in
    omega (arith, range.1, same, c.var.ensures.is)

pub returns-then-is_none : goal.returns-then-is_none
returns-then-is_none c =
    let clause = c.clause-clause in
    let form = form_of c.args.trail.now c.args.number clause.result.now clause.ensures.valid c.requires clause.ensures.clause in
    let range = form.in_range (c.loop-place.place - 1) c.index-clause-place.result (omega arith) in
    let item = ap (λ (l : Lit). l.var) c.index-clause-place.is in
    let lit = ap (λ (l : Lit). l.var) c.lit.ensures in
    let read = lit ∙ sym c.var.ensures.is in
    (omega (arith, range.0, item, lit), omega (arith, range.1, item, lit), ap (values_of c.args.trail.now.steps) read ∙ sym c.value.ensures ∙ none_if c.value.result c.if-is_none.ensures)
