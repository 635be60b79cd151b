use Rattle.heesch_cert.specs.declared.proof.Step.{Step}
use Rattle.heesch_text.specs.Naturals.{HasNaturals}
use Rattle.heesch_text.specs.Catalogue.{step_line}
use Rattle.heesch_text.proofs.Items.{all_map, all_of_all}
use Rattle.heesch_text.proofs.Kept.{kept_through}
use Rattle.heesch_text.proofs.evidence.append_steps.Goals as goal

pub returns-in_err-append_step-clause-kept : goal.returns-in_err-append_step-clause-kept
returns-in_err-append_step-clause-kept c = kept_through _ _ _ _ c.loop-step.invariant.written c.append_step.ensures.kept

pub returns-clause-naturals : goal.returns-clause-naturals
returns-clause-naturals c =
    let steps = c.args.steps.now in
    all_map HasNaturals step_line steps (all_of_all (λ (step : Step). HasNaturals (step_line step)) steps c.loop-step.step-index c.loop-step-test.false c.loop-step.invariant.naturals)
