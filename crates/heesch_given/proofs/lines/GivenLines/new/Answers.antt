use Rattle.std.proofs.Common.{[], sym, subst}
use Rattle.heesch_given.specs.Steps.{IsRead}
use Rattle.heesch_given.proofs.Reading.{nothing_read}
use Rattle.heesch_given.proofs.lines.GivenLines.new.Goals as goal

pub returns : goal.returns
returns g c = subst (λ shapes. IsRead g.G.Grid.geometry [] shapes c.new-2.result) (sym c.new.ensures.items) (nothing_read g.G.Grid.geometry c.new-2.result c.new-2.ensures)
