use Rattle.std.proofs.Common.{sym, ◌∙◌}
use Rattle.heesch_grammar.proofs.Taking.{triples_more, triples_shorter}
use Rattle.heesch_grammar.proofs.parts.take_triples.Goals as goal

pub loop-line-preserved : goal.loop-line-preserved
loop-line-preserved c =
    triples_more _ _ _ _ _ _ _ _ _ c.in-Some.ensures.items (sym c.triple_of.ensures ∙ c.in-Some-triple_of.is) c.in_ok-proof.ensures.proof c.in_ok-proof.ensures.rest c.in_ok-push.ensures.ok c.loop-line.invariant

pub loop-line-smaller : goal.loop-line-smaller
loop-line-smaller c = triples_shorter _ _ _ _ c.in-Some.ensures.items c.in_ok-proof.ensures.rest
