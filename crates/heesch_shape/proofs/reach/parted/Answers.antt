use Rattle.std.proofs.Common.{◌≡◌, ◌<◌, [], ◌∷◌, ◌++◌, length, get_or, take, remove, pos, sym, ap, ◌∙◌, subst, arith, lit<}
use Rattle.std.proofs.Math.Seq.{take-length}
use Rattle.heesch_grid.specs.declared.Cell.{Cell}
use Rattle.heesch_grid.specs.Cells.{cell, has}
use Rattle.heesch_shape.specs.Reach.{AreApart, IsNextTo, IsParted}
use Rattle.heesch_shape.proofs.Parting.{parted_start, parted_step, parted_end, inside_in, inside_room, first_any}
use Rattle.heesch_shape.proofs.reach.parted.Goals as goal

abbrev zero_cell : Cell
zero_cell = cell (pos 0) (pos 0)

pub loop-at-init : goal.loop-at-init
loop-at-init g c =
    let geometry = g.G.Grid.geometry in
    let xs = c.args.cells.now in
    let r = c.remove.result in
    let end : c.loop-c.c-index ≡ length xs = omega (arith, c.loop-c-test.false, c.loop-c.auto.c-index-end) in
    let all : c.loop-c.outside.items ≡ xs = c.loop-c.invariant ∙ ap (λ n. take n xs) end ∙ take-length xs in
    let first : r ≡ get_or xs 0 zero_cell = c.remove.ensures.value ∙ ap (λ ys. get_or ys 0 r) all ∙ first_any xs r zero_cell c.requires.some in
    let ins : c.push-2.new.self.items ≡ get_or xs 0 zero_cell ∷ [] = c.push-2.ensures.items ∙ ap (λ ys. ys ++ r ∷ []) c.new-inside.ensures ∙ ap (λ z. z ∷ []) first in
    let outs : c.remove.new.self.items ≡ remove xs 0 = c.remove.ensures.items ∙ ap (λ ys. remove ys 0) all in
    subst (λ ys. IsParted geometry xs (get_or xs 0 zero_cell) ys c.remove.new.self.items) (sym ins) (subst (IsParted geometry xs (get_or xs 0 zero_cell) (get_or xs 0 zero_cell ∷ [])) (sym outs) (parted_start geometry xs zero_cell c.requires.some))

pub next_place-requires-clause-cells : goal.next_place-requires-clause-cells
next_place-requires-clause-cells g c =
    λ d h. c.requires.cells d (inside_in g.G.Grid.geometry c.args.cells.now (get_or c.args.cells.now 0 zero_cell) c.loop-at.inside.items c.loop-at.outside.items c.loop-at.invariant d (sym (ap (λ ys. has ys d) c.as_slice.ensures.value) ∙ h))

pub next_place-requires-clause-within : goal.next_place-requires-clause-within
next_place-requires-clause-within g c =
    λ d h. c.requires.within d (inside_in g.G.Grid.geometry c.args.cells.now (get_or c.args.cells.now 0 zero_cell) c.loop-at.inside.items c.loop-at.outside.items c.loop-at.invariant d (sym (ap (λ ys. has ys d) c.as_slice.ensures.value) ∙ h))

pub push-requires-in-Some : goal.push-requires-in-Some
push-requires-in-Some g c =
    let below = c.in-Some.ensures.below in
    let room = inside_room g.G.Grid.geometry c.args.cells.now (get_or c.args.cells.now 0 zero_cell) c.loop-at.inside.items c.loop-at.outside.items c.loop-at.invariant in
    let few = c.requires.few in
    let long = ap length c.as_slice-in-loop-at.ensures.value in
    (lit< tt, omega (arith, below, room, few, long))

pub loop-at-preserved : goal.loop-at-preserved
loop-at-preserved g c =
    let geometry = g.G.Grid.geometry in
    let xs = c.args.cells.now in
    let inside = c.loop-at.inside.items in
    let outside = c.loop-at.outside.items in
    let at = c.in-Some.at in
    let e = c.remove-in-Some.result in
    let less : at < length outside = let b = c.in-Some.ensures.below in let l = ap length c.as_slice-in-loop-at.ensures.value in omega (arith, b, l) in
    let is : e ≡ get_or outside at e = c.remove-in-Some.ensures.value in
    let item : get_or c.as_slice-in-loop-at.result.now at e ≡ e = ap (λ ys. get_or ys at e) c.as_slice-in-loop-at.ensures.value ∙ sym is in
    let next : IsNextTo geometry inside e = subst (IsNextTo geometry inside) item (subst (λ ys. IsNextTo geometry ys (get_or c.as_slice-in-loop-at.result.now at e)) c.as_slice.ensures.value (c.in-Some.ensures.found e)) in
    subst (λ ys. IsParted geometry xs (get_or xs 0 zero_cell) ys c.remove-in-Some.new.self.items) (sym c.push-in-Some.ensures.items) (subst (IsParted geometry xs (get_or xs 0 zero_cell) (inside ++ e ∷ [])) (sym c.remove-in-Some.ensures.items) (parted_step geometry xs (get_or xs 0 zero_cell) inside outside at e c.loop-at.invariant less is next))

pub returns : goal.returns
returns g c =
    let geometry = g.G.Grid.geometry in
    let xs = c.args.cells.now in
    let apart : AreApart geometry c.loop-at.inside.items c.loop-at.outside.items = subst (λ ys. AreApart geometry ys c.loop-at.outside.items) c.as_slice.ensures.value (subst (AreApart geometry c.as_slice.result.now) c.as_slice-in-loop-at.ensures.value c.in_default.ensures.none) in
    parted_end geometry xs zero_cell c.loop-at.inside.items c.loop-at.outside.items c.requires.some c.requires.distinct c.loop-at.invariant apart
