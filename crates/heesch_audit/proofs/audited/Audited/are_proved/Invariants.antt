use Rattle.std.proofs.Common.{◌≡◌, ℕ, ◌<◌, ◌-◌, ◌%◌, length}
use Rattle.std.specs.Prelude.{Some, slice_get}
use Rattle.heesch_cert.specs.declared.entry.TripleProof.{TripleProof}
use Rattle.heesch_cert.specs.Proofs.{SettlesTriple}
use Rattle.heesch_audit.proofs.audited.Audited.are_proved.Given as goal

-- the portion's triples before this one are settled by their proofs
abbrev pub invariant-loop-at : goal.invariant-loop-at
invariant-loop-at g l = record {
  place : l.at % l.portions ≡ l.portion;
  proved : (k : ℕ) (x : TripleProof) → k < l.at → slice_get l.written k ≡ Some x → k % l.portions ≡ l.portion → SettlesTriple g.G.Grid.geometry l.self.shape.now l.self.limits.turns x.triple x.proof;
}

abbrev pub decreases-loop-at : goal.decreases-loop-at
decreases-loop-at g l = length l.initial.written - l.at
