use Rattle.std.proofs.Common.{◌≡◌, ◌∙◌, ℕ, List, [], ◌++◌, ap, sym, subst, inl, inr}
use Rattle.heesch_cnf.specs.Clauses.{assignment_of}
use Rattle.heesch_exchange.specs.Models.{IsModel}
use Rattle.heesch_text.specs.Catalogue.{coronas_text}
use Rattle.heesch_exchange.specs.Answers.{HasEndedLine, IsAnswerStop, IsModelStop, false_text}
use Rattle.heesch_exchange.proofs.FirstLines.{alone, as_line, in_time_of}
use Rattle.heesch_exchange.proofs.Told.{as_error, encoded_as, answer_late, answer_stop, model_stop, not_empty, is_answer, spelled_of, tells_coronas, unended}
use Rattle.heesch_exchange.proofs.answers.answer_of.Goals as goal
use Rattle.heesch_exchange.proofs.answers.answer_of.Goals.{in-Some-first_false+in_ok-append_false-in-Some-first_false, in-None+in_ok-layers-in-None+in_ok-write_coronas-in-None}

pub returns-then-is_late-clause-stop : goal.returns-then-is_late-clause-stop
returns-then-is_late-clause-stop g c =
    let a = c.args.asked in
    answer_late a.most a.version g.G.Grid.geometry a.level a.size c.args.input.now c.first_line.result.0.now c.first_line.result.1.now c.first_line.ensures (c.is_late.ensures.late c.if-is_late.true)

pub returns-in_default-clause-stop : goal.returns-in_default-clause-stop
returns-in_default-clause-stop g c =
    let a = c.args.asked in
    let input = c.args.input.now in
    let some = not_empty input c.is_empty.result c.is_empty.ensures c.if-is_empty.false in
    let in_time = in_time_of a.most input c.first_line.result.0.now c.first_line.result.1.now input [] c.first_line.ensures (alone input c.in_default.ensures) (c.is_late.ensures.in_time c.if-is_late.false) in
    unended a.most a.version g.G.Grid.geometry a.level a.size input some c.in_default.ensures in_time

pub returns-in_err-encoded-clause-stop : goal.returns-in_err-encoded-clause-stop
returns-in_err-encoded-clause-stop g c =
    let a = c.args.asked in
    let input = c.args.input.now in
    let geometry = g.G.Grid.geometry in
    let ended : HasEndedLine c.args.input.now c.in-Some.line.now c.in-Some.model.now = record { whole = c.in-Some.ensures.1; text = c.in-Some.ensures.0 } in
    let in_time = in_time_of a.most c.args.input.now c.first_line.result.0.now c.first_line.result.1.now c.in-Some.line.now c.in-Some.model.now c.first_line.ensures (as_line c.args.input.now c.in-Some.line.now c.in-Some.model.now ended) (c.is_late.ensures.in_time c.if-is_late.false) in
    let stop = c.in_err-encoded.field-0.0 in
    as_error c.from_residual.result stop (IsAnswerStop a.most a.version geometry a.level a.size input) c.from_residual.ensures.1
    (answer_stop a.version geometry a.level a.size c.in-Some.line.now a.most input c.in-Some.model.now ended in_time stop c.in_err-encoded.ensures.stop)

pub returns-in_err-values-clause-stop : goal.returns-in_err-values-clause-stop
returns-in_err-values-clause-stop g c =
    let a = c.args.asked in
    let input = c.args.input.now in
    let geometry = g.G.Grid.geometry in
    let ended : HasEndedLine c.args.input.now c.in-Some.line.now c.in-Some.model.now = record { whole = c.in-Some.ensures.1; text = c.in-Some.ensures.0 } in
    let in_time = in_time_of a.most c.args.input.now c.first_line.result.0.now c.first_line.result.1.now c.in-Some.line.now c.in-Some.model.now c.first_line.ensures (as_line c.args.input.now c.in-Some.line.now c.in-Some.model.now ended) (c.is_late.ensures.in_time c.if-is_late.false) in
    let e = c.in_ok-encoded.encoded in
    let whole = encoded_as a.version geometry a.level a.size c.in-Some.line.now e.universe e.formula.vars e.formula.clauses c.in_ok-encoded.ensures.ok in
    let stop = c.in_err-values.field-0.0 in
    let stops : IsModelStop e.formula.vars c.in-Some.model.now stop = subst (λ (n : ℕ). IsModelStop n c.in-Some.model.now stop) c.vars.ensures.vars c.in_err-values.ensures.stop in
    as_error c.from_residual-in_err-values.result stop (IsAnswerStop a.most a.version geometry a.level a.size input) c.from_residual-in_err-values.ensures.1
    (model_stop a.most a.version geometry a.level a.size input c.in-Some.line.now c.in-Some.model.now ended in_time whole stop stops)

pub returns-clause-ok : goal.returns-clause-ok
returns-clause-ok g c =
    let a = c.args.asked in
    let geometry = g.G.Grid.geometry in
    let ended : HasEndedLine c.args.input.now c.in-Some.line.now c.in-Some.model.now = record { whole = c.in-Some.ensures.1; text = c.in-Some.ensures.0 } in
    let in_time = in_time_of a.most c.args.input.now c.first_line.result.0.now c.first_line.result.1.now c.in-Some.line.now c.in-Some.model.now c.first_line.ensures (as_line c.args.input.now c.in-Some.line.now c.in-Some.model.now ended) (c.is_late.ensures.in_time c.if-is_late.false) in
    let encodes = c.in_ok-encoded.ensures.ok in
    let e = c.in_ok-encoded.encoded in
    let whole = encoded_as a.version geometry a.level a.size c.in-Some.line.now e.universe e.formula.vars e.formula.clauses encodes in
    let values = c.as_slice.result.now in
    let same : c.vars.result ≡ e.formula.vars = c.vars.ensures.vars in
    let model : IsModel e.formula.vars c.in-Some.model.now values =
    subst (λ (n : ℕ). IsModel n c.in-Some.model.now values) same (subst (IsModel c.vars.result c.in-Some.model.now) (sym c.as_slice.ensures) c.in_ok-values.ensures.ok) in
    is_answer a.most a.version geometry a.level a.size c.args.input.now c.in-Some.line.now c.in-Some.model.now ended in_time whole values model c.match-first_false.text.items
    (elim c.match-first_false.branch [
      | in-Some-first_false+in_ok-append_false-in-Some-first_false w ↦
          let number = w.in-Some-first_false.number in
          let same_text = w.text-is in
          let written : w.append_false.new.text.items ≡ false_text number =
          w.in_ok-append_false-in-Some-first_false.ensures ∙ ap (λ (xs : List ℕ). xs ++ false_text number) c.new-text.ensures.items in
          let is : c.match-first_false.text.items ≡ false_text number = cc in
          inr (record { number = number; first = w.in-Some-first_false.ensures; text_is = is })
      | in-None+in_ok-layers-in-None+in_ok-write_coronas-in-None w ↦
          let layers = w.in_ok-layers-in-None.layers.layers in
          let same_text = w.text-is in
          let written : w.write_coronas.new.out.items ≡ coronas_text layers =
          w.in_ok-write_coronas-in-None.ensures.ok ∙ ap (λ (xs : List ℕ). xs ++ coronas_text layers) c.new-text.ensures.items in
          let is : c.match-first_false.text.items ≡ coronas_text layers = cc in
          let same_values : w.as_slice-in-None.result.now ≡ values = w.as_slice-in-None.ensures ∙ sym c.as_slice.ensures in
          let spelled = spelled_of geometry e.universe a.level values w.as_slice-in-None.result.now layers encodes.level_is same_values w.in_ok-layers-in-None.ensures in
          inl (tells_coronas geometry e.universe.shape a.level e.universe.vars (assignment_of values) e.formula.clauses layers c.match-first_false.text.items
          w.in-None.ensures spelled (encodes.models (assignment_of values) w.in-None.ensures) is)
    ])
