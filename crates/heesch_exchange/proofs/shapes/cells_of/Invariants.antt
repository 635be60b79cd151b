use Rattle.std.proofs.Common.{take}
use Rattle.heesch_line.specs.Scanning.{IsScanned}
use Rattle.heesch_exchange.proofs.shapes.cells_of.Given as goal

abbrev pub invariant-loop-byte : goal.invariant-loop-byte
invariant-loop-byte l = IsScanned (take l.byte-index l.line) l.read
