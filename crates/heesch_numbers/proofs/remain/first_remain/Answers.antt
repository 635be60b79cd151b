use Rattle.std.proofs.Common.{List, get_or, sym, subst, arith}
use Rattle.std.proofs.lemmas.List.Concat.{flat_map_single}
use Rattle.heesch_cnf.specs.declared.literal.Lit.{Lit}
use Rattle.heesch_cnf.specs.Literals.{held}
use Rattle.heesch_grid.specs.declared.Cell.{Cell}
use Rattle.heesch_grid.specs.Cells.{origin}
use Rattle.heesch_grid.specs.Clauses.{clause_of, no_variable}
use Rattle.heesch_grid.specs.CoronaFormula.{covers}
use Rattle.heesch_cert.specs.Literals.{literals}
use Rattle.heesch_encode.proofs.Pieces.{first_piece}
use Rattle.heesch_numbers.specs.Common.{AllRemain}
use Rattle.heesch_numbers.proofs.Remaining.{none_to_remain, one_remains, one_fails, piece_remains, piece_fails, pieces_remain, when_true, when_false}
use Rattle.heesch_numbers.proofs.remain.first_remain.Goals as goal

pub loop-c-init : goal.loop-c-init
loop-c-init g c = none_to_remain (held c.args.values.now)

pub loop-c-preserved : goal.loop-c-preserved
loop-c-preserved g c =
    let v = held c.args.values.now in
    let vars = c.args.plan.now.universe.now.vars in
    let at : Cell = get_or c.args.cells.now c.loop-c.c-index origin in
    let clause : List Lit = clause_of literals no_variable (covers 1 at) vars in
    piece_remains v (first_piece vars) c.args.cells.now c.loop-c.c-index origin c.loop-c-test.true c.loop-c.invariant
    (one_remains v clause (when_true c.remains.result _ _ c.if-not-remains.false (c.remains.ensures v clause c.left_of_first.ensures)))

pub returns-then-not-remains : goal.returns-then-not-remains
returns-then-not-remains g c =
    let v = held c.args.values.now in
    let vars = c.args.plan.now.universe.now.vars in
    let at : Cell = get_or c.args.cells.now c.loop-c.c-index origin in
    let clause : List Lit = clause_of literals no_variable (covers 1 at) vars in
    λ h.
    piece_fails v (first_piece vars) c.args.cells.now c.loop-c.c-index origin c.loop-c-test.true (one_fails v clause (when_false c.remains.result _ _ c.if-not-remains.true (c.remains.ensures v clause c.left_of_first.ensures)))
    (subst (AllRemain v) (sym (flat_map_single (λ (d : Cell). clause_of literals no_variable (covers 1 d) vars) c.args.cells.now)) h)

pub returns : goal.returns
returns g c =
    let v = held c.args.values.now in
    let vars = c.args.plan.now.universe.now.vars in
    subst (AllRemain v) (flat_map_single (λ (d : Cell). clause_of literals no_variable (covers 1 d) vars) c.args.cells.now) (pieces_remain v (first_piece vars) c.args.cells.now c.loop-c.c-index (omega (arith, c.loop-c-test.false)) c.loop-c.invariant)
