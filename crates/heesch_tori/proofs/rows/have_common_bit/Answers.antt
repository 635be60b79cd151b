use Rattle.std.proofs.Common.{◌+◌, ◌*◌, refl}
use Rattle.heesch_tori.proofs.Bits.{one_found, none_more}
use Rattle.heesch_tori.proofs.rows.have_common_bit.Goals as goal

pub returns-then-words-first-ne0 : goal.returns-then-words-first-ne0
returns-then-words-first-ne0 c = (λ t. one_found c.args.words.now c.args.width c.args.at c.args.other c.loop-k.k c.loop-k-test.true (c.type_inv.words (c.args.at * c.args.width + c.loop-k.k)).fits c.if-words-first-ne0.true, λ h. refl)

pub loop-k-preserved : goal.loop-k-preserved
loop-k-preserved c = none_more c.args.words.now c.args.width c.args.at c.args.other c.loop-k.k c.if-words-first-ne0.false c.loop-k.invariant
