use Rattle.std.specs.List.{AllByRecursion}
use Rattle.heesch_cert.specs.declared.entry.TripleProof.{TripleProof}
use Rattle.heesch_text.specs.Naturals.{HasNaturals}
use Rattle.heesch_text.specs.Catalogue.{triple_lines}
use Rattle.heesch_text.proofs.Items.{all_flat_map, all_of_all}
use Rattle.heesch_text.proofs.Kept.{kept_through}
use Rattle.heesch_text.proofs.evidence.append_triples.Goals as goal

pub returns-in_err-append_triple_line-clause-kept : goal.returns-in_err-append_triple_line-clause-kept
returns-in_err-append_triple_line-clause-kept c = kept_through _ _ _ _ c.loop-triple.invariant.written c.append_triple_line.ensures.kept

pub returns-in_err-append_proof-clause-kept : goal.returns-in_err-append_proof-clause-kept
returns-in_err-append_proof-clause-kept c =
    kept_through _ _ _ _ c.loop-triple.invariant.written (kept_through _ _ _ _ c.in_ok-append_triple_line.ensures.ok c.append_proof.ensures.kept)

pub returns-clause-naturals : goal.returns-clause-naturals
returns-clause-naturals c =
    let triples = c.args.triples.now in
    all_flat_map HasNaturals triple_lines triples
    (all_of_all (λ (triple : TripleProof). AllByRecursion HasNaturals (triple_lines triple)) triples c.loop-triple.triple-index c.loop-triple-test.false c.loop-triple.invariant.naturals)
