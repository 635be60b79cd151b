use Rattle.std.proofs.Common.{◌≡◌, map, take}
use Rattle.heesch_cdcl.specs.declared.covers.Cover.{Cover}
use Rattle.heesch_cdcl.proofs.covers.numbers_of.Given as goal

abbrev pub invariant-loop-cover : goal.invariant-loop-cover
invariant-loop-cover l = l.numbers.items ≡ map (λ (c : Cover). c.number) (take l.cover-index l.covers)
