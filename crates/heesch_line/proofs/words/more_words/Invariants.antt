use Rattle.std.proofs.Common.{length}
use Rattle.heesch_line.specs.Reading.{more_words_at}
use Rattle.heesch_line.proofs.WordLoop.{Reads}
use Rattle.heesch_line.proofs.words.more_words.Given as goal

abbrev pub invariant-loop : goal.invariant-loop
invariant-loop g l = Reads g.W.Word.read l.items (length l.bytes) l.counter l.rest (more_words_at g.W.Word.read l.fn.items l.bytes)
