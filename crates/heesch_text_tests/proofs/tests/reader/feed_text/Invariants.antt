use Rattle.std.proofs.Common.{◌+◌, ◌≤◌, length}
use Rattle.heesch_text_tests.proofs.tests.reader.feed_text.Given as goal

abbrev pub invariant-loop-piece : goal.invariant-loop-piece
invariant-loop-piece l =
    (goal.iterator-loop-piece).can_next l.piece-iterator ×
    (goal.iterator-loop-piece).is_finite l.piece-iterator × (l.reader.appended.lines + length l.reader.rest ≤ l.now)
