use Rattle.std.proofs.Common.{◌≡◌, ◌++◌, take}
use Rattle.std.specs.List.{flat_map}
use Rattle.heesch_table.specs.Texts.{count_line}
use Rattle.heesch_table.proofs.fields.append_counts.Given as goal

abbrev pub invariant-loop-label : goal.invariant-loop-label
invariant-loop-label l = l.out.items ≡ l.fn.out.items ++ flat_map (λ row. count_line row.0.now row.1) (take l.label-index l.counts)
