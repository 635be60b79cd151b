use Rattle.std.proofs.Common.{◌≡◌, length}
use Rattle.heesch_grammar.specs.Parts.{with_steps, proof_at, behind_proof}
use Rattle.heesch_grammar.proofs.parts.take_proof.Given as goal

abbrev pub invariant-loop-line : goal.invariant-loop-line
invariant-loop-line l = record {
  proof : with_steps l.steps (proof_at l.lines.items) ≡ proof_at l.fn.lines.items;
  rest : behind_proof l.lines.items ≡ behind_proof l.fn.lines.items;
}

abbrev pub decreases-loop-line : goal.decreases-loop-line
decreases-loop-line l = length l.lines.items
