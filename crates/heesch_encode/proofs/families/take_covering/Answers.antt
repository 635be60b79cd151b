use Rattle.std.proofs.Common.{All, ◌<◌, refl, ◌≡◌, ◌+◌, ◌-◌, Err, false, not, length, get_or, take, sym, ap, ◌∙◌, subst, arith}
use Rattle.std.specs.Prelude.{flat_map}
use Rattle.std.proofs.lemmas.List.{take_all}
use Rattle.std.proofs.lemmas.Result.{err_from_is_err_and}
use Rattle.std.specs.Prelude.{nat_lt, Contains}
use Rattle.heesch_cnf.specs.Clauses.{IsClause}
use Rattle.heesch_grid.specs.declared.Cell.{Cell}
use Rattle.heesch_grid.specs.Listing.{IsRising}
use Rattle.heesch_grid.specs.Cells.{has}
use Rattle.heesch_grid.specs.Clauses.{clause_of, is_numbered}
use Rattle.heesch_grid.specs.CoronaFormula.{Variable, covers, IsNumbered}
use Rattle.heesch_grid.specs.Cells.{origin}
use Rattle.heesch_cert.specs.Literals.{literals}
use Rattle.heesch_encode.specs.Taking.{Takes, IsTaken}
use Rattle.heesch_encode.proofs.ClauseLists.{clause_form}
use Rattle.heesch_encode.proofs.Numbered.{no_entry}
use Rattle.heesch_encode.proofs.Takings.{takes_none, clause_after}
use Rattle.heesch_encode.proofs.Rings.{covering_small}
use Rattle.heesch_encode.proofs.Pieces.{covering_piece, covering_is, no_covering, piece_taken, piece_stopped, implication_clause, not_covering, covering_rising, around_outside, piece_written, without_clause, some_at}
use Rattle.heesch_encode.proofs.families.take_covering.Given as given
use Rattle.heesch_encode.proofs.families.take_covering.Goals as goal
use Rattle.heesch_encode.proofs.families.take_covering.Goals.{After-has, then-not-has+in_ok-write_implication+in_ok-take, else-not-has}

pub returns-then-of-plan : goal.returns-then-of-plan
returns-then-of-plan g c =
    λ around v gives number.
    subst (Takes c.args.collector.now c.args.collector.now) (no_covering around c.args.plan.now.shape.now c.args.plan.now.level c.args.plan.now.universe.now.vars c.args.var c.level_of-of.result v (c.level_of-of.ensures v number) c.if-of-plan.true) (takes_none c.args.collector.now)

pub write_implication-requires-clause-rising : goal.write_implication-requires-clause-rising
write_implication-requires-clause-rising g c =
    subst (IsRising nat_lt) (sym c.covered_by.ensures) (covering_rising c.args.plan.now.universe.now.vars (c.level_of-of.result + 1) (get_or c.as_slice-c-items.result.now c.loop-c.c-index origin))

-- the cell is none of the variable's tile
outside : (g : given.Over) (c : After-has g) (v : Variable) → IsNumbered c.args.plan.now.universe.now.vars c.args.var v → has v.tile (get_or c.as_slice-c-items.result.now c.loop-c.c-index origin) ≡ false
outside g c v number =
    around_outside g.G.Grid.geometry v.tile v.tile c.write_moved.new.ring.items c.as_slice-c-items.result.now c.loop-c.c-index origin (c.in_ok-write_moved.ensures.listed v number) c.as_slice-c-items.ensures.value refl c.loop-c-test.true

pub write_implication-requires-clause-absent : goal.write_implication-requires-clause-absent
write_implication-requires-clause-absent g c =
    let vars = c.args.plan.now.universe.now.vars in
    let n = c.args.var in
    let number = some_at vars n c.requires.number.0 c.requires.number.1 in
    let out = outside g (goal.at.write_implication-requires-clause-absent g c).After-has (get_or vars (n - 1) no_entry.1) number in
    λ m. not_covering vars (c.level_of-of.result + 1) n (get_or vars (n - 1) no_entry.1) (get_or c.as_slice-c-items.result.now c.loop-c.c-index origin) number out (subst (λ ns. Contains ns n) c.covered_by.ensures m)

pub take-requires : goal.take-requires
take-requires g c =
    let vars = c.args.plan.now.universe.now.vars in
    let at : Cell = get_or c.as_slice-c-items.result.now c.loop-c.c-index origin in
    let v = get_or vars (c.args.var - 1) no_entry.1 in
    let number = some_at vars c.args.var c.requires.number.0 c.requires.number.1 in
    let out = outside g (goal.at.take-requires g c).After-has v number in
    let is = implication_clause vars (c.level_of-of.result + 1) c.args.var v at c.covered_by.result.now c.write_implication.new.clause.items c.as_slice.result.now number out c.covered_by.ensures c.in_ok-write_implication.ensures c.as_slice.ensures.value in
    clause_after (length vars) c.args.collector.now c.loop-c.collector (flat_map (covering_piece c.args.plan.now.shape.now vars c.args.var c.level_of-of.result) (take c.loop-c.c-index c.as_slice-c-items.result.now)) c.as_slice.result.now c.requires.vars c.loop-c.invariant (subst (IsClause (length vars)) (sym is) (clause_form vars (is_numbered c.args.var) (covers (c.level_of-of.result + 1) at)))

pub returns-in_err-take : goal.returns-in_err-take
returns-in_err-take g c =
    let vars = c.args.plan.now.universe.now.vars in
    let n = c.args.var in
    let of = c.level_of-of.result in
    let items = c.as_slice-c-items.result.now in
    let p = err_from_is_err_and c.from_residual-in_err-take.result c.from_residual-in_err-take.ensures.1 in
    let e = c.in_err-take.field-0.0 in
    λ around v gives number.
    let here = piece_written c.args.plan.now.shape.now vars n of v (get_or items c.loop-c.c-index origin) number (outside g (goal.at.returns-in_err-take g c).After-has v number) (sym c.has.ensures ∙ c.if-not-has.true)
    c.covered_by.result.now c.write_implication.new.clause.items c.as_slice.result.now c.covered_by.ensures c.in_ok-write_implication.ensures c.as_slice.ensures.value (IsTaken (Err e) c.loop-c.collector c.take.new.self) c.in_err-take.ensures in
    let stopped : IsTaken (Err e) c.args.collector.now c.take.new.self (flat_map (covering_piece c.args.plan.now.shape.now vars n of) items) =
    piece_stopped (covering_piece c.args.plan.now.shape.now vars n of) items e c.args.collector.now c.loop-c.collector c.take.new.self c.loop-c.c-index origin c.loop-c-test.true c.loop-c.invariant here
    in
    rw (p.1, p.2) (subst (IsTaken (Err e) c.args.collector.now c.take.new.self) (covering_is around c.args.plan.now.shape.now c.args.plan.now.level vars n of v items (c.level_of-of.ensures v number) c.if-of-plan.false (c.as_slice-c-items.ensures.value ∙ c.in_ok-write_moved.ensures.given v around number gives)) stopped)

pub loop-c-preserved : goal.loop-c-preserved
loop-c-preserved g c =
    let shape = c.args.plan.now.shape.now in
    let vars = c.args.plan.now.universe.now.vars in
    let n = c.args.var in
    let of = c.level_of-of.result in
    let at : Cell = get_or c.as_slice-c-items.result.now c.loop-c.c-index origin in
    let v = get_or vars (n - 1) no_entry.1 in
    let number = some_at vars n c.requires.number.0 c.requires.number.1 in
    piece_taken (covering_piece shape vars n of) c.as_slice-c-items.result.now c.args.collector.now c.loop-c.collector c.if-not-has.collector c.loop-c.c-index origin c.loop-c-test.true c.loop-c.invariant
    (elim c.if-not-has.branch [
      | then-not-has+in_ok-write_implication+in_ok-take w ↦
          subst (λ z. Takes c.loop-c.collector z (covering_piece shape vars n of at)) (sym w.collector-is) (piece_written shape vars n of v at number (outside g (goal.at.loop-c-preserved g c).After-has v number) (sym c.has.ensures ∙ w.if-not-has.true)
          w.covered_by.result.now w.write_implication.new.clause.items w.as_slice.result.now w.covered_by.ensures w.in_ok-write_implication.ensures w.as_slice.ensures.value (Takes c.loop-c.collector w.take.new.self) w.in_ok-take.ensures)
      | else-not-has w ↦ without_clause (not (has shape at)) (clause_of literals (is_numbered n) (covers (of + 1) at) vars) c.loop-c.collector c.if-not-has.collector (ap not (sym c.has.ensures ∙ w.if-not-has.false)) w.collector-is
    ])

pub returns : goal.returns
returns g c =
    let vars = c.args.plan.now.universe.now.vars in
    let n = c.args.var in
    let of = c.level_of-of.result in
    let items = c.as_slice-c-items.result.now in
    let whole : take c.loop-c.c-index items ≡ items = take_all c.loop-c.c-index items (omega (arith, c.loop-c-test.false)) in
    λ around v gives number.
    subst (Takes c.args.collector.now c.loop-c.collector) (ap (flat_map (covering_piece c.args.plan.now.shape.now vars n of)) whole ∙ covering_is around c.args.plan.now.shape.now c.args.plan.now.level vars n of v items (c.level_of-of.ensures v number) c.if-of-plan.false (c.as_slice-c-items.ensures.value ∙ c.in_ok-write_moved.ensures.given v around number gives)) c.loop-c.invariant

pub write_implication-requires-clause-others : goal.write_implication-requires-clause-others
write_implication-requires-clause-others g c =
    subst (All (λ n. n < 2147483648)) (sym c.covered_by.ensures) (covering_small c.args.plan.now.universe.now.vars (c.level_of-of.result + 1) (get_or c.as_slice-c-items.result.now c.loop-c.c-index origin) 2147483648 c.requires.plan.few)
