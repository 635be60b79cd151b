use Rattle.std.proofs.Common.{◌≡◌, true, rules}
use Rattle.heesch_periods.proofs.Saying.{refutation, spent_search}
use Rattle.heesch_periods.proofs.answer.judged_answer.Goals as goal

pub returns-then-refuted : goal.returns-then-refuted
returns-then-refuted g c =
    let f = c.in_ok-source.source.formula in
    let refuted : c.in_ok-refuted.refuted ≡ true = search rules in
    refutation g.G.Grid.geometry c.args.shape.now c.args.triple f.vars f.clauses c.in_ok-source.ensures.formula c.in-Some.log
    g.met.G.Grid.laws c.cells-cells.ensures.shape.polyform c.requires.domain.of_domain.is_triple (c.in_ok-refuted.ensures.0 refuted)

pub returns-then-is_none : goal.returns-then-is_none
returns-then-is_none g c =
    let f = c.in_ok-source.source.formula in
    let spent : c.in_ok-spent.spent ≡ true = search rules in
    spent_search g.G.Grid.geometry c.args.shape.now c.args.triple f.vars f.clauses c.in_ok-source.ensures.formula c.in-Some.log c.args.turns (c.in_ok-spent.ensures.0 spent)
