use Rattle.std.proofs.Common.{◌≡◌, ℕ, length, drop, filter, sym, ap, subst, ◌∙◌, All, List, arith}
use Rattle.std.specs.Prelude.{Bool}
use Rattle.std.specs.List.{range_with_len}
use Rattle.std.proofs.lemmas.List.{take_at}
use Rattle.std.proofs.lemmas.Result.{IfOk-weaker}
use Rattle.heesch_cuts.specs.Marks.{is_marked}
use Rattle.heesch_cuts.specs.Patches.{patch_cells, IsBordered, IsBorderOf}
use Rattle.heesch_cuts.proofs.Bordering.{border_is}
use Rattle.heesch_cuts.proofs.border.border_of.Goals as goal

pub returns : goal.returns
returns g c =
    let near = g.G.Grid.geometry.adjacent in
    let p = c.args.patch.now in
    let u = p.universe.now in
    let hole = c.args.hole.now in
    let marks = c.mark_border.new.marks in
    let written : c.deref.result.now ≡ marks = c.deref.ensures.value ∙ take_at marks (drop (length marks) c.in_ok-marks.marks.items) c.in_ok-marks.marks.len (let a = c.mark_border.auto.marks in let b = c.deref_mut.ensures.len in omega (arith, a, b)) in
    let beside : All (λ z. All (IsBordered u.shape u.vars p.level (patch_cells u p.model.now p.level) marks) (near z)) hole =
    subst (λ s. All (λ z. All (IsBordered s u.vars p.level (patch_cells u p.model.now p.level) marks) (near z)) hole) (sym c.requires.patch.shape_is)
    (subst (λ cells. All (λ z. All (IsBordered p.shape.now u.vars p.level cells marks) (near z)) hole) c.requires.patch.cells_are c.mark_border.ensures.beside)
    in
    let numbers : List Bool → List ℕ = λ ms. filter (is_marked ms) (range_with_len 1 c.count-count.result) in
    IfOk-weaker c.marked_numbers.result (λ ns. ns ≡ numbers c.deref.result.now) (IsBorderOf g.G.Grid.geometry u p.model.now p.level hole)
    (λ ns e. subst (IsBorderOf g.G.Grid.geometry u p.model.now p.level hole) (sym (e ∙ ap numbers written)) (border_is u p.model.now p.level g.G.Grid.geometry g.met.G.Grid.laws hole marks c.count-count.result c.count-count.ensures.count c.requires.cells c.mark_border.ensures.chosen beside))
    c.marked_numbers.ensures
