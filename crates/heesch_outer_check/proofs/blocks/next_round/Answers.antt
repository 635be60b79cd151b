use Rattle.std.proofs.Common.{[], ◌∷◌, ◌∙◌, ◌+◌, ap, arith, drop, length, length-append, subst, sym}
use Rattle.heesch_outer_check.specs.Rounds.{AreBlocks}
use Rattle.heesch_outer_check.proofs.Cutting.{next_block}
use Rattle.heesch_outer_check.proofs.AnswerBehind.{further_within}
use Rattle.heesch_outer_check.proofs.blocks.next_round.Goals as goal

pub loop-count-preserved : goal.loop-count-preserved
loop-count-preserved c =
    let bytes = c.args.bytes.now in
    let l = c.loop-count in
    let rest = c.from_place-rest.result.now in
    let block = c.block_length-block.result in
    let copy = c.in_ok-copy.copy in
    let pushed = c.in_ok-push.ensures.ok in
    let many = ap length pushed ∙ length-append l.blocks (copy ∷ []) in
    record {
      within = further_within bytes rest l.length block c.from_place-rest.ensures c.block_length-block.ensures.most l.invariant.within;
      many = omega (arith, many, l.invariant.many);
      blocks = subst (λ bs. AreBlocks bytes bs (drop (l.length + block) bytes)) (sym pushed)
          (next_block bytes l.blocks l.length block rest copy l.invariant.blocks c.from_place-rest.ensures (sym c.begins_shape.ensures ∙ c.if-not-begins_shape.false) c.block_length-block.ensures.block (c.in_ok-copy.ensures ∙ c.up_to_place.ensures));
    }
