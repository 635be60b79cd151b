use Rattle.std.proofs.Common.{◌∙◌, rules, sym}
use Rattle.heesch_outer_check.proofs.Places.{no_more}
use Rattle.heesch_outer_check.proofs.checking.answer_behind.Goals as goal

pub returns-then-begins_shape : goal.returns-then-begins_shape
returns-then-begins_shape g c =
    let a = c.args in
    let b = sym c.begins_shape.ensures ∙ c.if-begins_shape.true in
    (b, no_more a.header.now g.G.Grid.geometry c.requires.grid a.shapes.now c.requires.shapes a.count a.rest.now c.requires.stops b, search rules)
