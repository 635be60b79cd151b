use Rattle.std.proofs.Common.{false, subst}
use Rattle.heesch_cert.specs.declared.verdict.Verdict.{Verdict}
use Rattle.heesch_grammar.specs.Grammar.{judged}
use Rattle.heesch_grammar.specs.Entries.{Lead}
use Rattle.heesch_grammar.proofs.Tails.{has_lattice, has_coronas, cover_read, cover_holds, search_read, search_holds}
use Rattle.heesch_grammar.proofs.entries.take_evidence.Goals as goal

pub take_cover-requires : goal.take_cover-requires
take_cover-requires c = has_lattice _ (subst (λ (v : Verdict). Lead (judged false v) c.args.lines.now.items) c.in-Tiles.is c.requires)

pub take_search-requires : goal.take_search-requires
take_search-requires c = has_coronas _ _ c.in_default.not-Tiles c.requires

pub returns-in-Tiles-clause-lines : goal.returns-in-Tiles-clause-lines
returns-in-Tiles-clause-lines c = cover_read _ _ _ _ _ _ c.in-Tiles.is c.requires c.take_cover.ensures

pub returns-in-Tiles-clause-holds : goal.returns-in-Tiles-clause-holds
returns-in-Tiles-clause-holds c = cover_holds _ _ _ _ _ _ c.in-Tiles.is c.requires c.take_cover.ensures

pub returns-in_default : goal.returns-in_default
returns-in_default c = record { lines = search_read _ _ _ c.requires c.take_search.ensures; holds = search_holds _ _ _ c.requires c.take_search.ensures }
