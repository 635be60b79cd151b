use Rattle.std.proofs.Common.{map, string_bytes, length}
use Rattle.heesch_words.proofs.Settings.{AreRead}
use Rattle.heesch_words.proofs.options.Options.read.Given as goal

abbrev pub invariant-loop-rest : goal.invariant-loop-rest
invariant-loop-rest l = AreRead (map string_bytes l.words) l.options (map string_bytes l.rest)

abbrev pub decreases-loop-rest : goal.decreases-loop-rest
decreases-loop-rest l = length l.rest
