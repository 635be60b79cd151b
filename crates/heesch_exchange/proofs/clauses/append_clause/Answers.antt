use Rattle.heesch_text.proofs.Kept.{kept_through}
use Rattle.heesch_exchange.proofs.clauses.append_clause.Goals as goal

pub returns-in_err-append_byte-clause-kept : goal.returns-in_err-append_byte-clause-kept
returns-in_err-append_byte-clause-kept g c =
    kept_through _ _ _ _ c.loop-literal.invariant (kept_through _ _ _ _ c.in_ok-append_word.ensures.ok c.append_byte.ensures.kept)
