use Rattle.std.proofs.Common.{All, ◌<◌, ◌≡◌, ◌-◌, ◌∷◌, [], ◌||◌, Err, length, get_or, take, sym, ap, ◌∙◌, subst, arith}
use Rattle.std.specs.Prelude.{flat_map}
use Rattle.std.proofs.lemmas.List.{take_all}
use Rattle.std.proofs.lemmas.Result.{err_from_is_err_and}
use Rattle.heesch_cnf.specs.Clauses.{IsClause}
use Rattle.heesch_grid.specs.Clauses.{clause_of, is_numbered, no_variable}
use Rattle.heesch_grid.specs.CoronaFormula.{Variable, IsUniverse, IsNumbered}
use Rattle.heesch_cert.specs.Literals.{literals}
use Rattle.heesch_encode.specs.Families.{apart_at}
use Rattle.heesch_encode.specs.Meeting.{meeting_after}
use Rattle.heesch_encode.specs.Taking.{Takes, IsTaken}
use Rattle.heesch_encode.proofs.ClauseLists.{clause_form}
use Rattle.heesch_encode.proofs.Numbered.{no_entry}
use Rattle.heesch_encode.proofs.Takings.{clause_after}
use Rattle.heesch_encode.proofs.Pieces.{apart_piece, apart_is, apart_clause, meeting_small, piece_taken, piece_stopped, some_at}
use Rattle.heesch_encode.proofs.families.take_apart.Given as given
use Rattle.heesch_encode.proofs.families.take_apart.Goals as goal
use Rattle.heesch_encode.proofs.families.take_apart.Goals.{After-as_slice-other-items, After-minus-in-loop-other}

-- the numbers that were listed
listed : (g : given.Over) (c : After-as_slice-other-items g) → c.as_slice-other-items.result.now ≡ meeting_after c.args.plan.now.universe.now.vars c.args.var c.args.plan.now.level c.cells-cells.result.now
listed g c = c.as_slice-other-items.ensures.value ∙ c.in_ok-list_meeting.ensures.listed

-- the clause with one of them
written : (g : given.Over) (c : After-minus-in-loop-other g) → c.minus.result ∷ c.minus-in-loop-other.result ∷ [] ≡ clause_of literals (λ x. is_numbered c.args.var x || is_numbered (get_or c.as_slice-other-items.result.now c.loop-other.other-index 0) x) no_variable c.args.plan.now.universe.now.vars
written g c =
    let vars = c.args.plan.now.universe.now.vars in
    let n = c.args.var in
    (λ k. c.minus.ensures k ∷ c.minus-in-loop-other.ensures k ∷ [])
    ∙ apart_clause vars c.args.plan.now.level c.cells-cells.result.now n (get_or vars (n - 1) no_entry.1) c.as_slice-other-items.result.now c.loop-other.other-index (some_at vars n c.requires.number.0 c.requires.number.1) (c.as_slice-other-items.ensures.value ∙ c.in_ok-list_meeting.ensures.listed) c.loop-other-test.true

-- the clauses with each of them are all
each : (g : given.Over) (c : After-as_slice-other-items g) (v : Variable) → IsNumbered c.args.plan.now.universe.now.vars c.args.var v → flat_map (apart_piece c.args.plan.now.universe.now.vars c.args.var) c.as_slice-other-items.result.now ≡ apart_at c.args.plan.now.universe.now.vars (c.args.var, v)
each g c v number =
    let u = c.args.plan.now.universe.now in
    apart_is g.G.Grid.geometry u.shape c.args.plan.now.level u.vars c.args.var v c.cells-cells.result.now c.as_slice-other-items.result.now (subst (λ j. IsUniverse g.G.Grid.geometry u.shape j u.vars) c.requires.plan.level_is c.requires.plan.universe) (c.cells-cells.ensures.cells ∙ c.shape.ensures ∙ c.placement_of.ensures.tile v number) (listed g c)

pub take-requires : goal.take-requires
take-requires g c =
    let vars = c.args.plan.now.universe.now.vars in
    let n = c.args.var in
    let other = get_or c.as_slice-other-items.result.now c.loop-other.other-index 0 in
    clause_after (length vars) c.args.collector.now c.loop-other.collector (flat_map (apart_piece vars n) (take c.loop-other.other-index c.as_slice-other-items.result.now)) (c.minus.result ∷ c.minus-in-loop-other.result ∷ []) c.requires.vars c.loop-other.invariant
    (subst (IsClause (length vars)) (sym (written g (goal.at.take-requires g c).After-minus-in-loop-other)) (clause_form vars (λ x. is_numbered n x || is_numbered other x) no_variable))

pub minus-requires-in-loop-other : goal.minus-requires-in-loop-other
minus-requires-in-loop-other g c =
    let small : All (λ m. m < 2147483648) c.as_slice-other-items.result.now = subst (All (λ m. m < 2147483648)) (sym (listed g (goal.at.minus-requires-in-loop-other g c).After-as_slice-other-items)) (meeting_small c.args.plan.now.universe.now.vars c.args.var c.args.plan.now.level c.cells-cells.result.now 2147483648 c.requires.plan.few) in
    small c.loop-other.other-index 0 c.loop-other-test.true

pub returns-in_err-take-clause-taken : goal.returns-in_err-take-clause-taken
returns-in_err-take-clause-taken g c =
    let at = goal.at.returns-in_err-take-clause-taken g c in
    let piece = apart_piece c.args.plan.now.universe.now.vars c.args.var in
    let items = c.as_slice-other-items.result.now in
    let p = err_from_is_err_and c.from_residual-in_err-take.result c.from_residual-in_err-take.ensures.1 in
    let e = c.in_err-take.field-0.0 in
    let stopped : IsTaken (Err e) c.args.collector.now c.take.new.self (flat_map piece items) =
    piece_stopped piece items e c.args.collector.now c.loop-other.collector c.take.new.self c.loop-other.other-index 0 c.loop-other-test.true c.loop-other.invariant (subst (λ z. IsTaken (Err e) c.loop-other.collector c.take.new.self (z ∷ [])) (written g at.After-minus-in-loop-other) c.in_err-take.ensures)
    in
    λ v number. rw (p.1, p.2) (subst (IsTaken (Err e) c.args.collector.now c.take.new.self) (each g at.After-as_slice-other-items v number) stopped)

pub loop-other-preserved : goal.loop-other-preserved
loop-other-preserved g c =
    piece_taken (apart_piece c.args.plan.now.universe.now.vars c.args.var) c.as_slice-other-items.result.now c.args.collector.now c.loop-other.collector c.take.new.self c.loop-other.other-index 0 c.loop-other-test.true c.loop-other.invariant
    (subst (λ z. Takes c.loop-other.collector c.take.new.self (z ∷ [])) (written g (goal.at.loop-other-preserved g c).After-minus-in-loop-other) c.in_ok-take.ensures)

pub returns-clause-taken : goal.returns-clause-taken
returns-clause-taken g c =
    let items = c.as_slice-other-items.result.now in
    let whole : take c.loop-other.other-index items ≡ items = take_all c.loop-other.other-index items (omega (arith, c.loop-other-test.false)) in
    λ v number.
    subst (Takes c.args.collector.now c.loop-other.collector) (ap (flat_map (apart_piece c.args.plan.now.universe.now.vars c.args.var)) whole ∙ each g (goal.at.returns-clause-taken g c).After-as_slice-other-items v number) c.loop-other.invariant
