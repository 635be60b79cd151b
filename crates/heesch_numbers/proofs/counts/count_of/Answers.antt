use Rattle.std.proofs.Common.{List, length, sym, ap, ◌∙◌, arith}
use Rattle.heesch_grid.specs.declared.Cell.{Cell}
use Rattle.heesch_encode.proofs.Pieces.{no_covering}
use Rattle.heesch_numbers.specs.Common.{outside}
use Rattle.heesch_numbers.proofs.Members.{covering_length}
use Rattle.heesch_numbers.proofs.counts.count_of.Goals as goal

pub returns-then-of-plan : goal.returns-then-of-plan
returns-then-of-plan g c = λ around x gives number.
    ap length (no_covering around c.args.plan.now.shape.now c.args.plan.now.level c.args.plan.now.universe.now.vars c.args.var c.level_of-of.result x (c.level_of-of.ensures x number) c.if-of-plan.true)

pub returns : goal.returns
returns g c = λ around x gives number.
    let at = c.level_of-of.ensures x number in
    c.count_outside.ensures.count ∙ ap (λ (cells : List Cell). length (outside c.args.plan.now.shape.now cells)) (c.surround_of-cells.ensures.given x around number gives)
    ∙ sym (covering_length around c.args.plan.now.shape.now c.args.plan.now.level c.args.plan.now.universe.now.vars c.args.var x (omega (arith, at, c.if-of-plan.false)))
