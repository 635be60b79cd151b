use Rattle.std.proofs.Common.{sym, ◌∙◌, subst}
use Rattle.heesch_grid.proofs.OrderFacts.{cell_less}
use Rattle.heesch_corona.specs.Searches.{IsLeastWith}
use Rattle.heesch_corona.proofs.Leasts.{least_stays, least_taken}
use Rattle.heesch_corona.proofs.gaps.lesser.Goals as goal

pub returns-then-lt : goal.returns-then-lt
returns-then-lt c test p =
    least_stays test c.in-Some.d c.args.c (sym (cell_less c.in-Some.d c.args.c) ∙ sym c.lt.ensures ∙ c.if-lt.true) (subst (IsLeastWith test) c.in-Some.is p)

pub returns-else-lt : goal.returns-else-lt
returns-else-lt c test p =
    least_taken test c.in-Some.d c.args.c (sym (cell_less c.in-Some.d c.args.c) ∙ sym c.lt.ensures ∙ c.if-lt.false) (subst (IsLeastWith test) c.in-Some.is p)
