use Rattle.std.proofs.Common.{◌≡◌, ◌*◌, length}
use Rattle.heesch_tori.specs.Rows.{AreRowsTo}
use Rattle.heesch_tori.proofs.rows.rows_of.Given as goal

abbrev pub invariant-loop-cell : goal.invariant-loop-cell
invariant-loop-cell l = record {
  long : length l.words.items ≡ l.count * l.width;
  bits : AreRowsTo l.cell l.lists l.width l.words.items;
}
