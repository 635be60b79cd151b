use Rattle.std.proofs.Common.{◌≡◌, ◌-◌, ◌+◌, drop, length, get_or, ap, ◌∙◌, sym, subst, arith, rules, false}
use Rattle.std.proofs.lemmas.List.{drop_all}
use Rattle.heesch_cnf.specs.declared.literal.Lit.{Lit}
use Rattle.heesch_cnf.specs.Literals.{held, with_true, opposite}
use Rattle.heesch_cnf.specs.Lines.{refuting}
use Rattle.heesch_rup.proofs.Hinted.{refuting-drop_more}
use Rattle.heesch_rup.proofs.hints.refute.Goals as goal

pub loop-i-init : goal.loop-i-init
loop-i-init c = record {
  room = search rules;
  refuted = c.requires.open ∙ ap refuting (sym (drop_all (length c.args.clause.now) c.args.clause.now (omega arith)));
}

pub loop-i-preserved : goal.loop-i-preserved
loop-i-preserved c =
    let i = c.loop-i.i - 1 in
    let d : Lit = record { var = 0; positive = false } in
    let up : c.loop-i.i ≡ i + 1 = omega arith in
    let before = subst (λ n. held c.loop-i.assignment.values.items ≡ refuting (drop n c.args.clause.now)) up c.loop-i.invariant.refuted in
    record {
      room = omega arith;
      refuted = c.in_ok-assign.ensures.ok ∙ ap (with_true (opposite (get_or c.args.clause.now i d))) before ∙ refuting-drop_more c.args.clause.now i d (omega arith);
    }

pub returns-clause-ok : goal.returns-clause-ok
returns-clause-ok c =
    let zero : c.loop-i.i ≡ 0 = omega arith in
    c.loop-i.invariant.refuted ∙ ap (λ n. refuting (drop n c.args.clause.now)) zero
