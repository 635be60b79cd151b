use Rattle.std.proofs.Common.{◌++◌, ◌≡◌, true, false, ap, ◌∙◌, sym}
use Rattle.heesch_cnf.specs.Literals.{Values}
use Rattle.heesch_cnf.specs.Lines.{reaches_conflict}
use Rattle.heesch_rup.proofs.Hinted.{numbers_of_all, numbers_up_to, shown_by_front}
use Rattle.heesch_rup.proofs.check.is_shown.Goals as goal

pub returns-then-not-are_numbers-clause-shown : goal.returns-then-not-are_numbers-clause-shown
returns-then-not-are_numbers-clause-shown g c = (
  λ e. absurd (let bad : false ≡ true = e in cc),
  λ s. absurd (let bad : false ≡ true = sym c.if-not-are_numbers.true ∙ c.are_numbers.ensures.1 (numbers_up_to ((g.C.ClauseSource.listed c.args.formula.now).clauses ++ c.args.added.now.clauses) c.args.count c.requires.count c.args.hints.now s.numbers) in cc),
)

pub reaches_conflict-requires-clause-numbers : goal.reaches_conflict-requires-clause-numbers
reaches_conflict-requires-clause-numbers g c =
    numbers_of_all ((g.C.ClauseSource.listed c.args.formula.now).clauses ++ c.args.added.now.clauses) c.args.count c.requires.count c.args.hints.now (c.are_numbers.ensures.0 c.if-not-are_numbers.false)

pub returns-clause-shown : goal.returns-clause-shown
returns-clause-shown g c =
    let clauses = (g.C.ClauseSource.listed c.args.formula.now).clauses ++ c.args.added.now.clauses in
    let same = c.in_ok-shown.ensures.ok ∙ ap (λ (v : Values). reaches_conflict clauses v c.args.hints.now) c.in_ok-refute.ensures.ok in
    shown_by_front clauses c.args.count c.requires.count c.args.hints.now c.args.clause.now c.in_ok-shown.shown (c.are_numbers.ensures.0 c.if-not-are_numbers.false) same
