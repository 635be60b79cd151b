use Rattle.std.proofs.Common.{All, ◌<◌, ◌≡◌, ◌∷◌, [], Err, length, get_or, take, sym, ap, ◌∙◌, subst, arith}
use Rattle.std.specs.Prelude.{flat_map}
use Rattle.std.proofs.lemmas.List.{take_all}
use Rattle.std.proofs.lemmas.Result.{err_from_is_err_and}
use Rattle.heesch_cnf.specs.Clauses.{IsClause}
use Rattle.heesch_grid.specs.Clauses.{clause_of, no_variable}
use Rattle.heesch_grid.specs.CoronaFormula.{covers}
use Rattle.heesch_cert.specs.Literals.{literals}
use Rattle.heesch_encode.specs.Taking.{Takes, IsTaken}
use Rattle.heesch_grid.specs.Cells.{origin}
use Rattle.heesch_encode.proofs.ClauseLists.{clause_form}
use Rattle.heesch_encode.proofs.Takings.{takes_none, clause_after}
use Rattle.heesch_encode.proofs.Rings.{covering_small}
use Rattle.heesch_encode.proofs.Pieces.{first_piece, first_is, piece_taken, piece_stopped, choice_clause}
use Rattle.heesch_encode.proofs.families.take_first.Given as given
use Rattle.heesch_encode.proofs.families.take_first.Goals as goal
use Rattle.heesch_encode.proofs.families.take_first.Goals.{After-as_slice}

pub loop-c-init : goal.loop-c-init
loop-c-init g c = takes_none c.args.collector.now

-- the clause that is written for a cell
written : (g : given.Over) (c : After-as_slice g) → c.as_slice.result.now ≡ clause_of literals no_variable (covers 1 (get_or c.as_slice-c-items.result.now c.loop-c.c-index origin)) c.args.plan.now.universe.now.vars
written g c =
    choice_clause c.args.plan.now.universe.now.vars (get_or c.as_slice-c-items.result.now c.loop-c.c-index origin) c.covered_by.result.now c.write_choice.new.clause.items c.as_slice.result.now c.covered_by.ensures c.in_ok-write_choice.ensures c.as_slice.ensures.value

pub take-requires : goal.take-requires
take-requires g c =
    let vars = c.args.plan.now.universe.now.vars in
    let is = written g (goal.at.take-requires g c).After-as_slice in
    clause_after (length vars) c.args.collector.now c.loop-c.collector (flat_map (first_piece vars) (take c.loop-c.c-index c.as_slice-c-items.result.now)) c.as_slice.result.now c.requires.vars c.loop-c.invariant
    (subst (IsClause (length vars)) (sym is) (clause_form vars no_variable (covers 1 (get_or c.as_slice-c-items.result.now c.loop-c.c-index origin))))

pub returns-in_err-take : goal.returns-in_err-take
returns-in_err-take g c =
    let vars = c.args.plan.now.universe.now.vars in
    let items = c.as_slice-c-items.result.now in
    let is = written g (goal.at.returns-in_err-take g c).After-as_slice in
    let p = err_from_is_err_and c.from_residual-in_err-take.result c.from_residual-in_err-take.ensures.1 in
    let e = c.in_err-take.field-0.0 in
    let stopped : IsTaken (Err e) c.args.collector.now c.take.new.self (flat_map (first_piece vars) items) =
    piece_stopped (first_piece vars) items e c.args.collector.now c.loop-c.collector c.take.new.self c.loop-c.c-index origin c.loop-c-test.true c.loop-c.invariant (subst (λ z. IsTaken (Err e) c.loop-c.collector c.take.new.self (z ∷ [])) is c.in_err-take.ensures)
    in
    λ around gives. rw (p.1, p.2) (subst (IsTaken (Err e) c.args.collector.now c.take.new.self) (first_is around c.args.plan.now.shape.now vars items (c.as_slice-c-items.ensures.value ∙ c.in_ok-write_ring.ensures.given around gives)) stopped)

pub loop-c-preserved : goal.loop-c-preserved
loop-c-preserved g c =
    let is = written g (goal.at.loop-c-preserved g c).After-as_slice in
    piece_taken (first_piece c.args.plan.now.universe.now.vars) c.as_slice-c-items.result.now c.args.collector.now c.loop-c.collector c.take.new.self c.loop-c.c-index origin c.loop-c-test.true c.loop-c.invariant (subst (λ z. Takes c.loop-c.collector c.take.new.self (z ∷ [])) is c.in_ok-take.ensures)

pub returns : goal.returns
returns g c =
    let vars = c.args.plan.now.universe.now.vars in
    let items = c.as_slice-c-items.result.now in
    let i = c.loop-c.c-index in
    let whole : take i items ≡ items = take_all i items (omega (arith, c.loop-c-test.false)) in
    λ around gives.
    subst (Takes c.args.collector.now c.loop-c.collector) (ap (flat_map (first_piece vars)) whole ∙ first_is around c.args.plan.now.shape.now vars items (c.as_slice-c-items.ensures.value ∙ c.in_ok-write_ring.ensures.given around gives)) c.loop-c.invariant

pub write_choice-requires : goal.write_choice-requires
write_choice-requires g c =
    subst (All (λ n. n < 2147483648)) (sym c.covered_by.ensures) (covering_small c.args.plan.now.universe.now.vars 1 (get_or c.as_slice-c-items.result.now c.loop-c.c-index origin) 2147483648 c.requires.plan.few)
