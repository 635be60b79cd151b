use Rattle.std.proofs.Common.{◌≡◌, map, take}
use Rattle.heesch_cert.specs.declared.entry.TripleProof.{TripleProof}
use Rattle.heesch_audit.proofs.triples.are_triples_of.Given as goal

abbrev pub invariant-loop-i : goal.invariant-loop-i
invariant-loop-i l = map (λ (x : TripleProof). x.triple) (take l.i l.written) ≡ take l.i l.all
