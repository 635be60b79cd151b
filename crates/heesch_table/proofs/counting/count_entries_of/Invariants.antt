use Rattle.std.proofs.Common.{take}
use Rattle.heesch_table.specs.TableSteps.{CountsAll}
use Rattle.heesch_table.proofs.counting.count_entries_of.Given as goal

abbrev pub invariant-loop-item : goal.invariant-loop-item
invariant-loop-item g l = CountsAll g.G.Grid.geometry l.fn.tally l.tally (take l.item-index l.items)
