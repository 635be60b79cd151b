use Rattle.std.proofs.Common.{ℕ, List, ◌++◌, take}
use Rattle.heesch_reader.specs.declared.item.Item.{Item}
use Rattle.heesch_parts.specs.Joining.{IsFed, GoesTo, HasRoom, LeavesRoom, kept_of}
use Rattle.heesch_parts.proofs.scan.Scan.take_bytes.Given as goal

abbrev pub invariant-loop-byte : goal.invariant-loop-byte
invariant-loop-byte l = record {
  goes : (before : List ℕ) (given : List Item) → IsFed before given (kept_of l.fn.self) → GoesTo (before ++ take l.byte-index l.piece) given l.fn.items l.items (kept_of l.self);
  room : LeavesRoom (kept_of l.fn.self) (kept_of l.self) l.byte-index;
  has_room : HasRoom (kept_of l.self);
}
