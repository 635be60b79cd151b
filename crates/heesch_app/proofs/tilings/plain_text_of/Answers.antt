use Rattle.std.proofs.Common.{◌++◌, ap, ap₂, ◌∙◌}
use Rattle.heesch_app.specs.Plains.{plain_line, plain_list_text}
use Rattle.heesch_app.proofs.PlainLines.{lines_more, lines_end}
use Rattle.heesch_app.proofs.tilings.plain_text_of.Goals as goal

pub loop-i-preserved : goal.loop-i-preserved
loop-i-preserved g c =
    let shapes = c.args.shapes.now in
    let tilings = c.args.tilings.now in
    let l = c.loop-i in
    let shape = c.index-shapes-i in
    let tiling = c.index-tilings-i in
    let line = ap₂ plain_line (c.cells.ensures.cells ∙ shape.is) tiling.is in
    lines_more l.text.items c.write_plain.new.out.items (plain_list_text shapes tilings) l.i shapes tilings shape.result tiling.result c.loop-i-test.true c.requires l.invariant
    (c.in_ok-write_plain.ensures.ok ∙ ap (λ x. l.text.items ++ x) line)

pub returns : goal.returns
returns g c =
    lines_end c.loop-i.text.items (plain_list_text c.args.shapes.now c.args.tilings.now) c.loop-i.i c.args.shapes.now c.args.tilings.now c.loop-i-test.false c.loop-i.invariant
