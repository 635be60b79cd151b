use Rattle.std.proofs.Common.{◌≡◌, refl, ◌+◌, ◌-◌, ◌<◌, List, length, get_or, sym, ap, ◌∙◌, arith}
use Rattle.std.specs.Prelude.{min}
use Rattle.heesch_grid.specs.declared.Cell.{Cell}
use Rattle.heesch_grid.specs.Cells.{has, origin}
use Rattle.heesch_grid.specs.Clauses.{formula_size}
use Rattle.heesch_place.specs.Universes.{covering}
use Rattle.heesch_encode.proofs.Numbered.{no_entry}
use Rattle.heesch_encode.proofs.Pieces.{covering_piece, covering_is, no_covering, around_outside, some_at}
use Rattle.heesch_numbers.specs.Moves.{moved_by}
use Rattle.heesch_numbers.proofs.Rooms.{min_more, min_none, min_whole, size_pieces}
use Rattle.heesch_numbers.proofs.Sizes.{covering_none, covering_one}
use Rattle.heesch_numbers.proofs.room.covering_size.Goals as goal
use Rattle.heesch_numbers.proofs.room.covering_size.Goals.{then-not-has, else-not-has}

pub returns-then-of-plan : goal.returns-then-of-plan
returns-then-of-plan g c = λ around x gives number.
    let none = ap formula_size (no_covering around c.args.plan.now.shape.now c.args.plan.now.level c.args.plan.now.universe.now.vars c.args.var c.level_of-of.result x (c.level_of-of.ensures x number) c.if-of-plan.true) in
    omega (arith, none)

pub loop-i-preserved : goal.loop-i-preserved
loop-i-preserved g c =
    let shape = c.args.plan.now.shape.now in
    let vars = c.args.plan.now.universe.now.vars in
    let n = c.args.var in
    let of = c.level_of-of.result in
    let x = get_or vars (n - 1) no_entry.1 in
    let number = some_at vars n c.requires.number.0 c.requires.number.1 in
    let cells : List Cell = moved_by c.surround_of-cells.result.step c.surround_of-cells.result.ring.now in
    let i = c.loop-i.i in
    let less : i < length cells = omega (arith, c.loop-i-test.true, c.len-i-end.ensures.count) in
    let is = c.at-c.ensures origin in
    let out = around_outside g.G.Grid.geometry x.tile x.tile cells cells i origin (c.surround_of-cells.ensures.listed x number) refl refl less in
    let d : Cell = get_or cells i origin in
    let f = λ (d : Cell). formula_size (covering_piece shape vars n of d) in
    elim c.if-not-has.branch [
      | then-not-has w ↦
          let count = length w.covered_by.result.now in
          let covered = ap length (w.covered_by.ensures ∙ ap (covering vars (of + 1)) is) in
          let one = covering_one vars n x number shape of d (ap (has shape) (sym is) ∙ sym c.has.ensures ∙ w.if-not-has.true) out in
          let sum : c.loop-i.size + count + 1 ≡ c.loop-i.size + (count + 1) = omega arith in
          w.size-is ∙ min_more f cells i origin less c.args.most c.loop-i.size c.loop-i.invariant (count + 1) w.min-size.result (omega (arith, covered, one)) (w.min-size.ensures ∙ ap (λ z. min z c.args.most) sum)
      | else-not-has w ↦
          w.size-is ∙ min_none f cells i origin less c.args.most c.loop-i.size c.loop-i.invariant (sym (covering_none vars n x number shape of d (ap (has shape) (sym is) ∙ sym c.has.ensures ∙ w.if-not-has.false)))
    ]

pub returns : goal.returns
returns g c = λ around x gives number.
    let shape = c.args.plan.now.shape.now in
    let vars = c.args.plan.now.universe.now.vars in
    let of = c.level_of-of.result in
    let cells : List Cell = moved_by c.surround_of-cells.result.step c.surround_of-cells.result.ring.now in
    min_whole (λ (d : Cell). formula_size (covering_piece shape vars c.args.var of d)) cells c.loop-i.i c.args.most c.loop-i.size (omega (arith, c.loop-i-test.false, c.len-i-end.ensures.count)) c.loop-i.invariant
    ∙ ap (λ n. min n c.args.most) (sym (size_pieces (covering_piece shape vars c.args.var of) cells) ∙ ap formula_size (covering_is around shape c.args.plan.now.level vars c.args.var of x cells (c.level_of-of.ensures x number) c.if-of-plan.false (c.surround_of-cells.ensures.given x around number gives)))
