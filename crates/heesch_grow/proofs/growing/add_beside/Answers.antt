use Rattle.std.proofs.Common.{Vec, Global, ◌+◌, ◌≡◌, false, List, sym, ap, ◌∙◌, subst, arith}
use Rattle.heesch_grid.specs.declared.Cell.{Cell}
use Rattle.heesch_grid.specs.Cells.{has}
use Rattle.heesch_grid.specs.Statements.{IsGrownFrom}
use Rattle.heesch_shape.proofs.Words.{form_of}
use Rattle.heesch_grow.specs.Adds.{Adds, IsChildBelow, IsWith}
use Rattle.heesch_grow.proofs.Adding.{near_added, adjacent_at, adds_none, adds_one, adds_no_more, adds_end}
use Rattle.heesch_grow.proofs.growing.add_beside.Goals as goal
use Rattle.heesch_grow.proofs.growing.add_beside.Goals.{then-is_new+in_ok-add, else-is_new}

pub loop-i-init : goal.loop-i-init
loop-i-init g c =
    let met = g.met.G.Grid in
    let geometry = g.G.Grid.geometry in
    let c_in = (form_of geometry c.args.parent.now c.cells-shape.ensures.shape.polyform).cells c.args.c c.requires.inside in
    adds_none geometry met.laws c.args.parent.now c.args.c c_in c.requires.inside c.args.all.now.items

pub adjacent-added-requires-clause-cell : goal.adjacent-added-requires-clause-cell
adjacent-added-requires-clause-cell g c =
    (form_of g.G.Grid.geometry c.args.parent.now c.cells-shape.ensures.shape.polyform).cells c.args.c c.requires.inside

pub with-requires-clause-within : goal.with-requires-clause-within
with-requires-clause-within g c =
    let met = g.met.G.Grid in
    let geometry = g.G.Grid.geometry in
    let c_in = (form_of geometry c.args.parent.now c.cells-shape.ensures.shape.polyform).cells c.args.c c.requires.inside in
    near_added geometry met.laws c.args.parent.now c.args.c c.adjacent-added.result c.requires.near (adjacent_at geometry met.laws c.args.parent.now c.args.c c.adjacent-added.result c.loop-i.i c_in c.adjacent-added.ensures)

pub with-requires-clause-adjacent : goal.with-requires-clause-adjacent
with-requires-clause-adjacent g c =
    let met = g.met.G.Grid in
    let geometry = g.G.Grid.geometry in
    let c_in = (form_of geometry c.args.parent.now c.cells-shape.ensures.shape.polyform).cells c.args.c c.requires.inside in
    (c.args.c, c.requires.inside, adjacent_at geometry met.laws c.args.parent.now c.args.c c.adjacent-added.result c.loop-i.i c_in c.adjacent-added.ensures)

pub loop-i-preserved : goal.loop-i-preserved
loop-i-preserved g c =
    let met = g.met.G.Grid in
    let geometry = g.G.Grid.geometry in
    let c_in = (form_of geometry c.args.parent.now c.cells-shape.ensures.shape.polyform).cells c.args.c c.requires.inside in
    let P : List Cell → Type 0 = IsGrownFrom geometry c.args.parent.now in
    let Q : List Cell → Type 0 = IsChildBelow geometry c.args.parent.now c.args.c (c.loop-i.i + 1) in
    elim c.if-is_new.branch [
      | then-is_new+in_ok-add w ↦
          let outside : has c.args.parent.now c.adjacent-added.result ≡ false = c.is_new.ensures.yes w.if-is_new.true in
          let is_with : IsWith geometry c.args.parent.now c.adjacent-added.result w.canonical.result = record { outside = outside; cells = w.with.result; is_list = w.with.ensures.list; canonical = w.canonical.ensures.canonical } in
          subst (Adds P Q c.args.all.now.items) (sym (ap (λ (v : Vec (List Cell) Global). v.items) w.all-is ∙ w.in_ok-add.ensures))
          (adds_one geometry met.laws c.args.parent.now c.args.c c_in c.requires.inside c.loop-i.i c.adjacent-added.result w.canonical.result c.args.all.now.items c.loop-i.all.items c.adjacent-added.ensures is_with c.loop-i.invariant)
      | else-is_new w ↦
          subst (Adds P Q c.args.all.now.items) (sym (ap (λ (v : Vec (List Cell) Global). v.items) w.all-is))
          (adds_no_more geometry met.laws c.args.parent.now c.args.c c_in c.requires.inside c.args.earlier.now c.loop-i.i c.adjacent-added.result c.args.all.now.items c.loop-i.all.items c.adjacent-added.ensures (c.is_new.ensures.no w.if-is_new.false) c.requires.done c.loop-i.invariant)
    ]

pub returns : goal.returns
returns g c =
    let met = g.met.G.Grid in
    let geometry = g.G.Grid.geometry in
    let c_in = (form_of geometry c.args.parent.now c.cells-shape.ensures.shape.polyform).cells c.args.c c.requires.inside in
    adds_end geometry met.laws c.args.parent.now c.args.c c_in c.requires.inside c.loop-i.i c.args.all.now.items c.loop-i.all.items (omega (arith, c.loop-i-test.false, c.ADJACENT-i-end.ensures, met.sizes.adjacent_is)) c.loop-i.invariant
