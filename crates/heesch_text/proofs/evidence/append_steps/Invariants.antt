use Rattle.std.proofs.Common.{◌≡◌, ◌++◌, map, take}
use Rattle.std.specs.List.{AllByRecursion}
use Rattle.heesch_text.specs.Lines.{text_of}
use Rattle.heesch_text.specs.Naturals.{HasNaturals}
use Rattle.heesch_text.specs.Catalogue.{step_line}
use Rattle.heesch_text.proofs.evidence.append_steps.Given as goal

abbrev pub invariant-loop-step : goal.invariant-loop-step
invariant-loop-step l = record {
  written : l.out.items ≡ l.fn.out.items ++ text_of (map step_line (take l.step-index l.steps));
  naturals : AllByRecursion (λ s. HasNaturals (step_line s)) (take l.step-index l.steps);
}
