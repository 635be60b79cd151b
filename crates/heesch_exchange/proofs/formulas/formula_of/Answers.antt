use Rattle.std.proofs.Common.{◌∙◌, ℕ, List, ◌++◌, ap, refl, inr}
use Rattle.heesch_exchange.specs.ClauseTexts.{clause_text}
use Rattle.heesch_exchange.specs.Formulas.{IsFormulaStop}
use Rattle.heesch_exchange.proofs.Told.{not_empty, empty_is, as_error, formula_late, formula_stop, encoded_as, second_line, is_formula}
use Rattle.heesch_exchange.proofs.formulas.formula_of.Goals as goal

pub returns-then-is_late-clause-stop : goal.returns-then-is_late-clause-stop
returns-then-is_late-clause-stop g c =
    let a = c.args.asked in
    formula_late a.most a.version g.G.Grid.geometry a.level a.size c.args.input.now c.first_line.result.0.now c.first_line.result.1.now c.first_line.ensures (c.is_late.ensures.late c.if-is_late.true)

pub returns-in_err-encoded-clause-stop : goal.returns-in_err-encoded-clause-stop
returns-in_err-encoded-clause-stop g c =
    let a = c.args.asked in
    let input = c.args.input.now in
    let some = not_empty input c.is_empty.result c.is_empty.ensures c.if-is_empty.false in
    let stop = c.in_err-encoded.field-0.0 in
    as_error c.from_residual.result stop (IsFormulaStop a.most a.version g.G.Grid.geometry a.level a.size input) c.from_residual.ensures.1
    (formula_stop a.version g.G.Grid.geometry a.level a.size c.first_line.result.0.now a.most input c.first_line.result.1.now some c.first_line.ensures (c.is_late.ensures.in_time c.if-is_late.false) stop c.in_err-encoded.ensures.stop)

pub returns-then-not-is_empty-clause-stop : goal.returns-then-not-is_empty-clause-stop
returns-then-not-is_empty-clause-stop g c =
    let a = c.args.asked in
    let e = c.in_ok-encoded.encoded in
    let encoded = encoded_as a.version g.G.Grid.geometry a.level a.size c.first_line.result.0.now e.universe e.formula.vars e.formula.clauses c.in_ok-encoded.ensures.ok in
    let more = not_empty c.first_line.result.1.now c.is_empty-2.result c.is_empty-2.ensures c.if-not-is_empty.true in
    inr (inr (inr (
      second_line a.most a.version g.G.Grid.geometry a.level a.size c.args.input.now c.first_line.result.0.now c.first_line.result.1.now c.first_line.ensures (c.is_late.ensures.in_time c.if-is_late.false) encoded more,
      refl,
      refl,
    )))

pub returns-clause-ok : goal.returns-clause-ok
returns-clause-ok g c =
    let a = c.args.asked in
    let input = c.args.input.now in
    let e = c.in_ok-encoded.encoded in
    let encoded = encoded_as a.version g.G.Grid.geometry a.level a.size c.first_line.result.0.now e.universe e.formula.vars e.formula.clauses c.in_ok-encoded.ensures.ok in
    let some = not_empty input c.is_empty.result c.is_empty.ensures c.if-is_empty.false in
    let none = empty_is c.first_line.result.1.now c.is_empty-2.result c.is_empty-2.ensures c.if-not-is_empty.false in
    let written = c.in_ok-write_flat_cnf.ensures.ok in
    let from_nothing = c.new-text.ensures.items in
    is_formula a.most a.version g.G.Grid.geometry a.level a.size input c.first_line.result.0.now c.first_line.result.1.now c.first_line.ensures (c.is_late.ensures.in_time c.if-is_late.false) encoded some none c.write_flat_cnf.new.out.items
    (written ∙ ap (λ (xs : List ℕ). xs ++ clause_text e.formula.vars e.formula.clauses) from_nothing) c.in_ok-encoded.ensures.ok.satisfiable
