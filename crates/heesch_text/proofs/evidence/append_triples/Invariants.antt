use Rattle.std.proofs.Common.{◌≡◌, ◌++◌, flat_map, take}
use Rattle.std.specs.List.{AllByRecursion}
use Rattle.heesch_text.specs.Lines.{text_of}
use Rattle.heesch_text.specs.Naturals.{HasNaturals}
use Rattle.heesch_text.specs.Catalogue.{triple_lines}
use Rattle.heesch_text.proofs.evidence.append_triples.Given as goal

abbrev pub invariant-loop-triple : goal.invariant-loop-triple
invariant-loop-triple l = record {
  written : l.out.items ≡ l.fn.out.items ++ text_of (flat_map triple_lines (take l.triple-index l.triples));
  naturals : AllByRecursion (λ t. AllByRecursion HasNaturals (triple_lines t)) (take l.triple-index l.triples);
}
