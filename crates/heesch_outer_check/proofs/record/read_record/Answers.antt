use Rattle.std.proofs.Common.{ℕ, subst}
use Rattle.heesch_outer.specs.declared.answer.OuterAnswer.{OuterAnswer}
use Rattle.heesch_outer_check.specs.ReadableRecords.{IsAnswerOf}
use Rattle.heesch_outer_check.proofs.Answers.{none_of, some_of}
use Rattle.heesch_outer_check.proofs.Records.{no_answer, no_entry}
use Rattle.heesch_outer_check.proofs.record.read_record.Goals as goal

pub returns-in_default-clause-none : goal.returns-in_default-clause-none
returns-in_default-clause-none c =
    λ is e r same. no_entry c.args.bytes.now c.in_ok-lines.rest.now c.in_ok-lines.lines.items c.in_ok-lines.ensures (none_of _ _ c.in_ok-entry.field-0 c.in_default.is c.in_ok-entry.ensures) e r same

pub returns-in_default-2-clause-none : goal.returns-in_default-2-clause-none
returns-in_default-2-clause-none c =
    let none = subst (λ (n : ℕ). (answer : OuterAnswer) → IsAnswerOf n c.in_ok-lines.rest.now answer → ⊥) c.first_number.ensures (none_of _ _ c.in_ok-answer.field-0 c.in_default-2.is c.in_ok-answer.ensures) in
    λ is e r same. no_answer c.args.bytes.now c.in_ok-lines.rest.now c.in_ok-lines.lines.items c.in_ok-lines.ensures c.in-Some.entry (some_of _ _ c.in_ok-entry.field-0 c.in-Some.entry c.in-Some.is c.in_ok-entry.ensures) none e r same
