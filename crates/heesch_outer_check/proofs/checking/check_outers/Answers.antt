use Rattle.std.proofs.Common.{◌∙◌, ◌+◌, ap, arith, subst, sym}
use Rattle.heesch_outer_check.specs.Answers.{IsTooLong}
use Rattle.heesch_outer_check.proofs.AnswerBehind.{too_long}
use Rattle.heesch_reader.specs.Input.{newlines}
use Rattle.heesch_outer_check.proofs.checking.check_outers.Goals as goal

pub returns-then-input-gt-INPUT_MAX : goal.returns-then-input-gt-INPUT_MAX
returns-then-input-gt-INPUT_MAX g c =
    let input = c.args.input.now in
    subst (IsTooLong input) (ap (λ n. n + 1) (sym (c.newlines-line.ensures ∙ ap newlines c.up_to_place.ensures))) (too_long input (omega (arith, c.if-input-gt-INPUT_MAX.true)))
