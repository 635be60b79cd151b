use Rattle.std.proofs.Common.{◌≤◌, length, arith}
use Rattle.heesch_grid.specs.Names.{geometry_of}
use Rattle.heesch_exchange.specs.Answers.{IsAnswer, IsAnswerStop}
use Rattle.heesch_exchange.specs.Formulas.{IsFormula, IsFormulaStop}
use Rattle.heesch_reader.specs.Taking.{input_max}
use Rattle.heesch_app.proofs.ToldExchanges.{bad_not_done, done_anyhow, told_endless, told_of_input}
use Rattle.heesch_app.proofs.exchanges.exchange_reply.Goals as goal

pub returns-then-len-gt-INPUT_MAX-clause-ok : goal.returns-then-len-gt-INPUT_MAX-clause-ok
returns-then-len-gt-INPUT_MAX-clause-ok g c =
    let a = c.args in
    told_endless a.asked a.version (geometry_of a.grid) a.level a.size (g.R.Source.left a.source.now) c.in_ok-input.input.items c.deref.result.now c.bad_input.result c.in_ok-input.ensures.ok c.deref.ensures.value
    (c.is_endless.ensures.endless c.if-not-is_endless.false) c.bad_input.ensures.status c.bad_input.ensures.text

pub returns-then-len-gt-INPUT_MAX-clause-ended : goal.returns-then-len-gt-INPUT_MAX-clause-ended
returns-then-len-gt-INPUT_MAX-clause-ended g c = bad_not_done _ c.bad_input.result c.bad_input.ensures.status

pub returns-in-Formula-clause-ok : goal.returns-in-Formula-clause-ok
returns-in-Formula-clause-ok g c =
    let a = c.args in
    let few : length c.in_ok-input.input.items ≤ input_max = omega (arith, c.len.ensures, c.if-len-gt-INPUT_MAX.false) in
    rw c.in-Formula.is (told_of_input (IsFormula input_max a.version (geometry_of a.grid) a.level a.size) (IsFormulaStop input_max a.version (geometry_of a.grid) a.level a.size) (g.R.Source.left a.source.now) c.in_ok-input.input.items c.deref-in-Formula.result.now c.formula-text.result c.told.result c.in_ok-input.ensures.ok c.deref-in-Formula.ensures.value few c.formula-text.ensures.ok c.formula-text.ensures.stop c.told.ensures.ok)

pub returns-in-Formula-clause-ended : goal.returns-in-Formula-clause-ended
returns-in-Formula-clause-ended g c =
    let few : length c.in_ok-input.input.items ≤ input_max = omega (arith, c.len.ensures, c.if-len-gt-INPUT_MAX.false) in
    done_anyhow _ c.told.result (c.in_ok-input.ensures.ended few)

pub returns-clause-ok : goal.returns-clause-ok
returns-clause-ok g c =
    let a = c.args in
    let few : length c.in_ok-input.input.items ≤ input_max = omega (arith, c.len.ensures, c.if-len-gt-INPUT_MAX.false) in
    rw c.in-Answer.is (told_of_input (IsAnswer input_max a.version (geometry_of a.grid) a.level a.size) (IsAnswerStop input_max a.version (geometry_of a.grid) a.level a.size) (g.R.Source.left a.source.now) c.in_ok-input.input.items c.deref-in-Answer.result.now c.answer-text.result c.told-in-Answer.result c.in_ok-input.ensures.ok c.deref-in-Answer.ensures.value few c.answer-text.ensures.ok c.answer-text.ensures.stop c.told-in-Answer.ensures.ok)

pub returns-clause-ended : goal.returns-clause-ended
returns-clause-ended g c =
    let few : length c.in_ok-input.input.items ≤ input_max = omega (arith, c.len.ensures, c.if-len-gt-INPUT_MAX.false) in
    done_anyhow _ c.told-in-Answer.result (c.in_ok-input.ensures.ended few)
