use Rattle.heesch_region.proofs.Rows.{narrowed_here, unchanged_here}
use Rattle.heesch_region.proofs.bits.narrow_word.Goals as goal

pub returns-then-new-old-clause-here : goal.returns-then-new-old-clause-here
returns-then-new-old-clause-here c j l =
    unchanged_here c.args.words.now c.args.allowed c.word_from.result c.args.at c.args.from j c.if-new-old.true l (c.word_from.ensures j l)

pub returns-clause-here : goal.returns-clause-here
returns-clause-here c j l =
    narrowed_here c.args.words.now c.args.allowed c.word_from.result c.args.at c.args.from j c.requires.at l (c.word_from.ensures j l)
