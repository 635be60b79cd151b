use Rattle.heesch_text.proofs.Kept.{kept_through}
use Rattle.heesch_exchange.proofs.clauses.append_flat.Goals as goal

pub returns-in_err-append_clause-clause-kept : goal.returns-in_err-append_clause-clause-kept
returns-in_err-append_clause-clause-kept c = kept_through _ _ _ _ c.loop-index.invariant c.append_clause.ensures.kept
