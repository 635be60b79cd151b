use Rattle.std.proofs.Common.{refl, ◌-◌, ◌<◌, List, length, get_or, sym, ap, ◌∙◌, subst, arith}
use Rattle.std.specs.Prelude.{MatchBool}
use Rattle.heesch_cnf.specs.declared.literal.Lit.{Lit}
use Rattle.heesch_cnf.specs.Literals.{held}
use Rattle.heesch_grid.specs.declared.Cell.{Cell}
use Rattle.heesch_grid.specs.Cells.{has, origin}
use Rattle.heesch_grid.specs.CoronaFormula.{Variable, IsNumbered}
use Rattle.heesch_encode.proofs.Numbered.{no_entry}
use Rattle.heesch_encode.proofs.Pieces.{covering_piece, covering_is, no_covering, around_outside, some_at}
use Rattle.heesch_numbers.specs.Common.{AllRemain}
use Rattle.heesch_numbers.specs.Moves.{moved_by}
use Rattle.heesch_numbers.proofs.Remaining.{none_to_remain, piece_remains, piece_fails, pieces_remain, when_true, when_false}
use Rattle.heesch_numbers.proofs.remain.covering_remain.Given as given
use Rattle.heesch_numbers.proofs.remain.covering_remain.Goals as goal
use Rattle.heesch_numbers.proofs.remain.covering_remain.Goals.{After-cell_remains}

pub returns-then-of-plan : goal.returns-then-of-plan
returns-then-of-plan g c = λ around x gives number.
    let v = held c.args.values.now in
    subst (AllRemain v) (no_covering around c.args.plan.now.shape.now c.args.plan.now.level c.args.plan.now.universe.now.vars c.args.var c.level_of-of.result x (c.level_of-of.ensures x number) c.if-of-plan.true) (none_to_remain v)

pub loop-i-init : goal.loop-i-init
loop-i-init g c = none_to_remain (held c.args.values.now)

-- the answer on a cell
answered : (g : given.Over) (c : After-cell_remains g) (x : Variable) → IsNumbered c.args.plan.now.universe.now.vars c.args.var x →
    let cell : Cell = get_or (moved_by c.surround_of-cells.result.step c.surround_of-cells.result.ring.now) c.loop-i.i origin in
    let clauses : List (List Lit) = covering_piece c.args.plan.now.shape.now c.args.plan.now.universe.now.vars c.args.var c.level_of-of.result cell in
    MatchBool c.cell_remains.result (AllRemain (held c.args.values.now) clauses) (¬ AllRemain (held c.args.values.now) clauses)
answered g c x number =
    let v = held c.args.values.now in
    let vars = c.args.plan.now.universe.now.vars in
    let cells : List Cell = moved_by c.surround_of-cells.result.step c.surround_of-cells.result.ring.now in
    let i = c.loop-i.i in
    let less : i < length cells = omega (arith, c.loop-i-test.true, c.len-i-end.ensures.count) in
    let is = c.at-c.ensures origin in
    let out = around_outside g.G.Grid.geometry x.tile x.tile cells cells i origin (c.surround_of-cells.ensures.listed x number) refl refl less in
    let f = covering_piece c.args.plan.now.shape.now vars c.args.var c.level_of-of.result in
    subst (λ d. MatchBool c.cell_remains.result (AllRemain v (f d)) (¬ AllRemain v (f d))) is (c.cell_remains.ensures x number (ap (has x.tile) is ∙ out))

pub loop-i-preserved : goal.loop-i-preserved
loop-i-preserved g c =
    let v = held c.args.values.now in
    let vars = c.args.plan.now.universe.now.vars in
    let x = get_or vars (c.args.var - 1) no_entry.1 in
    let number = some_at vars c.args.var c.requires.number.0 c.requires.number.1 in
    let cells : List Cell = moved_by c.surround_of-cells.result.step c.surround_of-cells.result.ring.now in
    piece_remains v (covering_piece c.args.plan.now.shape.now vars c.args.var c.level_of-of.result) cells c.loop-i.i origin (omega (arith, c.loop-i-test.true, c.len-i-end.ensures.count)) c.loop-i.invariant
    (when_true c.cell_remains.result _ _ c.if-not-cell_remains.false (answered g (goal.at.loop-i-preserved g c).After-cell_remains x number))

pub returns-then-not-cell_remains : goal.returns-then-not-cell_remains
returns-then-not-cell_remains g c = λ around x gives number all.
    let v = held c.args.values.now in
    let shape = c.args.plan.now.shape.now in
    let vars = c.args.plan.now.universe.now.vars in
    let of = c.level_of-of.result in
    let cells : List Cell = moved_by c.surround_of-cells.result.step c.surround_of-cells.result.ring.now in
    piece_fails v (covering_piece shape vars c.args.var of) cells c.loop-i.i origin (omega (arith, c.loop-i-test.true, c.len-i-end.ensures.count))
    (when_false c.cell_remains.result _ _ c.if-not-cell_remains.true (answered g (goal.at.returns-then-not-cell_remains g c).After-cell_remains x number))
    (subst (AllRemain v) (sym (covering_is around shape c.args.plan.now.level vars c.args.var of x cells (c.level_of-of.ensures x number) c.if-of-plan.false (c.surround_of-cells.ensures.given x around number gives))) all)

pub returns : goal.returns
returns g c = λ around x gives number.
    let v = held c.args.values.now in
    let shape = c.args.plan.now.shape.now in
    let vars = c.args.plan.now.universe.now.vars in
    let of = c.level_of-of.result in
    let cells : List Cell = moved_by c.surround_of-cells.result.step c.surround_of-cells.result.ring.now in
    subst (AllRemain v) (covering_is around shape c.args.plan.now.level vars c.args.var of x cells (c.level_of-of.ensures x number) c.if-of-plan.false (c.surround_of-cells.ensures.given x around number gives))
    (pieces_remain v (covering_piece shape vars c.args.var of) cells c.loop-i.i (omega (arith, c.loop-i-test.false, c.len-i-end.ensures.count)) c.loop-i.invariant)
