use Rattle.std.proofs.Common.{ℕ, ◌<◌, get_or}
use Rattle.heesch_cert.specs.declared.entry.TripleProof.{TripleProof}
use Rattle.heesch_logs.specs.Near.{IsNearProof}
use Rattle.heesch_audit.proofs.near.are_near_triples.Given as goal

abbrev pub invariant-loop-triple : goal.invariant-loop-triple
invariant-loop-triple l = (k : ℕ) (d : TripleProof) → k < l.triple-index → IsNearProof (get_or l.triples k d).proof
