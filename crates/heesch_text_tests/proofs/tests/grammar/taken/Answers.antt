use Rattle.std.proofs.Common.{◌≡◌, List, Some, sym, subst, ◌∙◌}
use Rattle.heesch_text.specs.declared.line.Line.{Line}
use Rattle.heesch_grammar.specs.Grammar.{steps}
use Rattle.heesch_grammar.specs.Statements.{start}
use Rattle.heesch_grammar.proofs.Running.{steps_push}
use Rattle.heesch_text_tests.proofs.tests.grammar.taken.Goals as goal

pub loop-line-preserved : goal.loop-line-preserved
loop-line-preserved c =
    subst (λ (x : List Line). steps c.args.brief start x ≡ Some c.in-Some-step.next) (sym c.in_ok-push_back.ensures.items)
    (steps_push c.args.brief start c.loop-line.spot c.in-Some-step.next c.loop-line.queue.items c.in-Some.line c.loop-line.invariant (sym c.step.ensures ∙ c.in-Some-step.is))
