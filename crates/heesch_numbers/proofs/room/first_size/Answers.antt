use Rattle.std.proofs.Common.{length, get_or, sym, ap, ◌∙◌, arith}
use Rattle.std.specs.Prelude.{min}
use Rattle.heesch_grid.specs.declared.Cell.{Cell}
use Rattle.heesch_grid.specs.Cells.{origin}
use Rattle.heesch_grid.specs.Clauses.{clause_of, no_variable}
use Rattle.heesch_grid.specs.CoronaFormula.{covers}
use Rattle.heesch_cert.specs.Literals.{literals}
use Rattle.heesch_numbers.proofs.Rooms.{min_more, min_whole, size_map}
use Rattle.heesch_numbers.proofs.Sizes.{choice_size}
use Rattle.heesch_numbers.proofs.room.first_size.Goals as goal

pub loop-c-preserved : goal.loop-c-preserved
loop-c-preserved g c =
    let vars = c.args.plan.now.universe.now.vars in
    let f = λ (d : Cell). length (clause_of literals no_variable (covers 1 d) vars) in
    let at : Cell = get_or c.args.cells.now c.loop-c.c-index origin in
    min_more f c.args.cells.now c.loop-c.c-index origin c.loop-c-test.true c.args.most c.loop-c.size c.loop-c.invariant (length c.covered_by.result.now) c.min-size.result (ap length c.covered_by.ensures ∙ sym (choice_size vars at)) c.min-size.ensures

pub returns : goal.returns
returns g c =
    let vars = c.args.plan.now.universe.now.vars in
    let f = λ (d : Cell). length (clause_of literals no_variable (covers 1 d) vars) in
    min_whole f c.args.cells.now c.loop-c.c-index c.args.most c.loop-c.size (omega (arith, c.loop-c-test.false)) c.loop-c.invariant
    ∙ ap (λ n. min n c.args.most) (sym (size_map (λ (d : Cell). clause_of literals no_variable (covers 1 d) vars) c.args.cells.now))
