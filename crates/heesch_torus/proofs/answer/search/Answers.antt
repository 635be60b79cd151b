use Rattle.std.proofs.Common.{◌≡◌, length, sym, ap, ◌∙◌, subst}
use Rattle.heesch_torus.specs.Answer.{IsChosenCover}
use Rattle.heesch_torus.specs.Chosen.{chosen_tiling}
use Rattle.heesch_torus.specs.Outcome.{IsOutcome}
use Rattle.heesch_torus.specs.declared.outcome.Outcome.TheVariants.{Model, Refuted, Spent}
use Rattle.heesch_torus.proofs.Formulas.{refuted_answer, spent_answer}
use Rattle.heesch_torus.proofs.Modelled.{tiles_by_model}
use Rattle.heesch_torus.proofs.answer.search.Goals as goal

pub chosen_tiling-requires : goal.chosen_tiling-requires
chosen_tiling-requires g c =
    let made = c.in_ok-formula in
    let outcome : IsOutcome made.formula.vars made.formula.clauses c.args.turns (Model c.in-Model.values) = subst (IsOutcome made.formula.vars made.formula.clauses c.args.turns) c.in-Model.is c.in_ok-outcome.ensures in
    ap length c.as_slice-in-Model.ensures ∙ outcome.0 ∙ made.ensures.vars ∙ ap length (sym c.as_slice.ensures.value)

pub returns-in-Model : goal.returns-in-Model
returns-in-Model g c =
    let geometry = g.G.Grid.geometry in
    let made = c.in_ok-formula in
    let triple = c.requires.domain.of_domain.is_triple in
    let outcome : IsOutcome made.formula.vars made.formula.clauses c.args.turns (Model c.in-Model.values) = subst (IsOutcome made.formula.vars made.formula.clauses c.args.turns) c.in-Model.is c.in_ok-outcome.ensures in
    let tiling : c.in_ok-tiling-in-Model.tiling ≡ chosen_tiling c.args.triple c.in-Model.values made.variables.items =
    c.in_ok-tiling-in-Model.ensures ∙ (λ i. chosen_tiling c.args.triple (c.as_slice-in-Model.ensures i) (c.as_slice.ensures.value i)) in
    subst (IsChosenCover geometry c.args.shape.now c.args.triple) (sym tiling)
    (tiles_by_model geometry g.met.G.Grid.laws c.args.shape.now made.ensures.form c.args.triple triple made.variables.items made.ensures.variables c.in-Model.values made.formula.clauses made.ensures.clauses outcome.1)

pub returns-in-Refuted : goal.returns-in-Refuted
returns-in-Refuted g c =
    let made = c.in_ok-formula in
    let outcome : IsOutcome made.formula.vars made.formula.clauses c.args.turns (Refuted c.in-Refuted.log) = subst (IsOutcome made.formula.vars made.formula.clauses c.args.turns) c.in-Refuted.is c.in_ok-outcome.ensures in
    refuted_answer g.G.Grid.geometry g.met.G.Grid.laws c.args.shape.now made.ensures.form c.args.triple c.requires.domain.of_domain.is_triple made.variables.items made.ensures.variables made.formula.vars made.formula.clauses made.ensures.vars made.ensures.clauses c.in-Refuted.log outcome

pub returns : goal.returns
returns g c =
    let made = c.in_ok-formula in
    let outcome : IsOutcome made.formula.vars made.formula.clauses c.args.turns (Spent c.in-Spent.log) = subst (IsOutcome made.formula.vars made.formula.clauses c.args.turns) c.in-Spent.is c.in_ok-outcome.ensures in
    spent_answer g.G.Grid.geometry g.met.G.Grid.laws c.args.shape.now c.args.triple c.requires.domain.of_domain.is_triple made.variables.items made.ensures.variables made.formula.vars made.formula.clauses made.ensures.vars made.ensures.clauses c.args.turns c.in-Spent.log outcome
