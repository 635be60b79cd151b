use Rattle.std.proofs.Common.{ℕ, List, ◌++◌, take}
use Rattle.heesch_given.specs.Steps.{IsRead}
use Rattle.heesch_given.proofs.lines.GivenLines.take.Given as goal

abbrev pub invariant-loop-byte : goal.invariant-loop-byte
invariant-loop-byte g l = (before : List ℕ) → IsRead g.G.Grid.geometry before l.fn.self.shapes.items l.fn.self.line → IsRead g.G.Grid.geometry (before ++ take l.byte-index l.bytes) l.self.shapes.items l.self.line
