use Rattle.std.proofs.Common.{length}
use Rattle.heesch_exchange.proofs.WordLists.{HasReadWords}
use Rattle.heesch_exchange.proofs.lines.read_words.Given as goal

abbrev pub invariant-loop-bytes : goal.invariant-loop-bytes
invariant-loop-bytes l = HasReadWords l.words l.fn.literals l.literals l.rest

abbrev pub decreases-loop-bytes : goal.decreases-loop-bytes
decreases-loop-bytes l = length l.rest
