use Rattle.heesch_text.proofs.Kept.{kept_through}
use Rattle.heesch_text.proofs.fields.append_spaced.Goals as goal

pub returns-in_err-append_word-clause-kept : goal.returns-in_err-append_word-clause-kept
returns-in_err-append_word-clause-kept g c =
    kept_through _ _ _ _ c.loop-item.invariant.written (kept_through _ _ _ _ c.in_ok-append_byte.ensures.ok c.append_word.ensures.kept)
