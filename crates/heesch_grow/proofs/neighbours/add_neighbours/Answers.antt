use Rattle.std.proofs.Common.{ℕ, ◌+◌, ◌≡◌, ◌≤◌, ◌⊎◌, [], ◌∷◌, ◌++◌, true, false, List, length, length-append, inl, inr, subst, sym, ap, ◌∙◌, arith}
use Rattle.arrayvec.specs.ArrayVec.{ArrayVec}
use Rattle.heesch_grid.specs.declared.Cell.{Cell}
use Rattle.heesch_grid.specs.Cells.{has}
use Rattle.heesch_grid.specs.Geometry.{Geometry, IsCell}
use Rattle.heesch_shape.proofs.Words.{form_of}
use Rattle.heesch_grow.specs.Collects.{Collects}
use Rattle.heesch_grow.proofs.Beside.{IsNeighbourBelow, told, collects_push, collects_skip, collects_end}
use Rattle.heesch_grow.proofs.neighbours.add_neighbours.Given as given
use Rattle.heesch_grow.proofs.neighbours.add_neighbours.Goals as goal
use Rattle.heesch_grow.proofs.neighbours.add_neighbours.Goals.{After-cells-shape, then-not-has+then-not-contains, else-not-has, else-not-has-via-then-not-has+else-not-contains, else-not-has-via-else-not-has}

-- c is a cell of the grid
own : (g : given.Over) (c : After-cells-shape g) → IsCell g.G.Grid.geometry c.args.c
own g c = (form_of g.G.Grid.geometry c.args.shape.now c.cells-shape.ensures.shape.polyform).cells c.args.c c.requires.inside

pub adjacent-d-requires-clause-cell : goal.adjacent-d-requires-clause-cell
adjacent-d-requires-clause-cell g c = own g (goal.at.adjacent-d-requires-clause-cell g c).After-cells-shape

-- what the loop keeps
abbrev Keeps : Geometry → List Cell → Cell → ℕ → List Cell → List Cell → Type 0
Keeps g shape c i old new = Collects g shape (IsNeighbourBelow g c i) old new × (length new ≤ length old + i)

pub loop-i-preserved : goal.loop-i-preserved
loop-i-preserved g c =
    let geometry = g.G.Grid.geometry in
    let shape = c.args.shape.now in
    let d = c.adjacent-d.result in
    let old = c.args.beside.now.items in
    let mid = c.loop-i.beside.items in
    let c_in = own g (goal.at.loop-i-preserved g c).After-cells-shape in
    let long : length mid ≤ length old + c.loop-i.i = c.loop-i.invariant.1 in
    let skipped : (has shape d ≡ true) ⊎ (has mid d ≡ true) → Keeps geometry shape c.args.c (c.loop-i.i + 1) old mid =
    λ why. (collects_skip geometry g.met.G.Grid.laws shape c.args.c c_in c.requires.inside c.loop-i.i d old mid c.adjacent-d.ensures why c.loop-i.invariant.0, omega arith)
    in
    elim c.if-not-has.branch [
      | then-not-has+then-not-contains w ↦
          let e : c.if-not-has.beside.items ≡ mid ++ d ∷ [] = ap (λ (v : ArrayVec Cell). v.items) w.beside-is ∙ w.push.ensures.items in
          let fresh : has mid d ≡ false = told mid w.as_slice.result.now d w.contains.result false w.as_slice.ensures.value w.contains.ensures w.if-not-contains.true in
          let outside : has shape d ≡ false = sym c.has.ensures ∙ w.if-not-has.true in
          subst (Keeps geometry shape c.args.c (c.loop-i.i + 1) old) (sym e)
          (collects_push geometry g.met.G.Grid.laws shape c.args.c c_in c.requires.inside c.loop-i.i d old mid c.adjacent-d.ensures outside fresh c.loop-i.invariant.0, omega (arith, length-append mid (d ∷ [])))
      | else-not-has w ↦
          let e : c.if-not-has.beside.items ≡ mid = ap (λ (v : ArrayVec Cell). v.items) w.beside-is in
          subst (Keeps geometry shape c.args.c (c.loop-i.i + 1) old) (sym e) (skipped (elim w.else-not-has.branch [
            | else-not-has-via-then-not-has+else-not-contains v ↦ inr (told mid v.as_slice.result.now d v.contains.result true v.as_slice.ensures.value v.contains.ensures v.if-not-contains.false)
            | else-not-has-via-else-not-has v ↦ inl (sym c.has.ensures ∙ v.if-not-has.false)
          ]))
    ]

pub returns-clause-collects : goal.returns-clause-collects
returns-clause-collects g c =
    let met = g.met.G.Grid in
    let c_in = own g (goal.at.returns-clause-collects g c).After-cells-shape in
    collects_end g.G.Grid.geometry met.laws c.args.shape.now c.args.c c_in c.requires.inside c.loop-i.i c.args.beside.now.items c.loop-i.beside.items (omega (arith, c.loop-i-test.false, c.ADJACENT-i-end.ensures, met.sizes.adjacent_is)) c.loop-i.invariant.0
