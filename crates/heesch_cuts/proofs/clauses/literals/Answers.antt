use Rattle.std.proofs.Common.{refl, sym, ap, ◌∙◌, ◌+◌, ◌++◌}
use Rattle.std.specs.Prelude.{option_to_list, ℕ, Option}
use Rattle.heesch_cnf.specs.declared.literal.Lit.{Lit}
use Rattle.heesch_cuts.specs.Marks.{is_marked, literal_of}
use Rattle.heesch_cuts.proofs.CutClause.{literals_more}
use Rattle.heesch_cuts.proofs.clauses.literals.Goals as goal

pub loop-i-preserved : goal.loop-i-preserved
loop-i-preserved c =
    let f : ℕ → Option Lit = λ n. literal_of (is_marked c.args.negated.now n) (is_marked c.args.asserted.now n) n in
    let n = c.loop-i.i + 1 in
    c.in_ok-push_literal.ensures ∙ ap (λ xs. xs ++ option_to_list (f n)) c.loop-i.invariant ∙ sym (literals_more f c.loop-i.i n refl)
