use Rattle.std.proofs.Common.{◌≡◌, ℕ, ◌+◌, ◌-◌, ◌==◌, List, [], take, get_or, pos, sym, ap, ◌∙◌, subst, arith}
use Rattle.std.specs.Prelude.{slice_index_or}
use Rattle.std.specs.List.{list_any}
use Rattle.std.proofs.lemmas.List.{take_all, get_or_default, length-map}
use Rattle.heesch_grid.specs.declared.Cell.{Cell}
use Rattle.heesch_grid.specs.Cells.{cell, meet, set_of}
use Rattle.heesch_torus.specs.Covering.{having}
use Rattle.heesch_torus.specs.Marks.{Marks}
use Rattle.heesch_torus.specs.Variables.{TorusVariable, sets_of, IsReducedSet}
use Rattle.heesch_torus.proofs.Numbering.{set_at, sets_before}
use Rattle.heesch_torus.proofs.Excluding.{list_of_cell, list_in_range, meeting_more}
use Rattle.heesch_torus.proofs.pairs.mark_meeting.Goals as goal

pub number_of-requires-clause-reduced : goal.number_of-requires-clause-reduced
number_of-requires-clause-reduced g c =
    let vars = c.args.incidence.now.sets.now.variables.now in
    let x = c.index-variables-at.result in
    let cells : c.as_slice-c-items.result.now ≡ c.index-variables-at.result.cells = c.as_slice-c-items.ensures.value ∙ ap (λ (x : TorusVariable). x.cells) c.variable.view_is in
    let reduced : IsReducedSet g.G.Grid.geometry c.args.incidence.now.sets.now.triple c.as_slice-c-items.result.now = subst (IsReducedSet g.G.Grid.geometry c.args.incidence.now.sets.now.triple) (set_at vars c.args.at x c.requires.at c.index-variables-at.is ∙ sym cells) (c.args.incidence.now.sets.now.sets c.args.at _ (sets_before vars c.args.at c.requires.at)) in
    reduced.reduced c.loop-c.c-index (cell (pos 0) (pos 0)) c.loop-c-test.true

pub mark-requires : goal.mark-requires
mark-requires g c =
    let sets = sets_of c.args.incidence.now.sets.now.variables.now in
    let is = subst (λ (l : List ℕ). l ≡ get_or c.args.incidence.now.lists.now c.number_of.result l) (sym c.as_slice.ensures) c.index-lists-number_of.is in
    let range = list_in_range g.G.Grid.geometry c.args.incidence.now.sets.now.triple sets c.args.incidence.now.lists.now c.number_of.result c.as_slice.result.now c.args.incidence.now.covering c.number_of.ensures.below is in
    let long = length-map c.args.incidence.now.sets.now.variables.now (λ (x : TorusVariable). x.cells) in
    λ k d l. let r = range k d l in omega (arith, r, long, c.requires.all, c.loop-c.auto.marks)

pub loop-c-preserved : goal.loop-c-preserved
loop-c-preserved g c =
    let sets = sets_of c.args.incidence.now.sets.now.variables.now in
    let cells = c.as_slice-c-items.result.now in
    let i = c.loop-c.c-index in
    let d = cell (pos 0) (pos 0) in
    let x : Cell = get_or c.as_slice-c-items.result.now c.loop-c.c-index (cell (pos 0) (pos 0)) in
    let is = subst (λ (l : List ℕ). l ≡ get_or c.args.incidence.now.lists.now c.number_of.result l) (sym c.as_slice.ensures) c.index-lists-number_of.is in
    let list : c.as_slice.result.now ≡ having (get_or c.as_slice-c-items.result.now c.loop-c.c-index (cell (pos 0) (pos 0))) (sets_of c.args.incidence.now.sets.now.variables.now) = list_of_cell g.G.Grid.geometry c.args.incidence.now.sets.now.triple sets c.args.incidence.now.lists.now c.number_of.result x c.as_slice.result.now c.args.incidence.now.covering c.number_of.ensures.below c.number_of.ensures.is is in
    let long = length-map c.args.incidence.now.sets.now.variables.now (λ (x : TorusVariable). x.cells) in
    meeting_more sets cells i (c.args.at + 1) x c.args.marks.now c.loop-c.marks c.mark.new.marks c.loop-c-test.true (get_or_default cells i d x c.loop-c-test.true) (omega (arith, long, c.requires.all)) c.loop-c.invariant
    (subst (λ (l : List ℕ). Marks (λ v. list_any (λ w. w == v) l) (c.args.at + 1) c.loop-c.marks c.mark.new.marks) list c.mark.ensures)

pub returns : goal.returns
returns g c =
    let vars = c.args.incidence.now.sets.now.variables.now in
    let x = c.index-variables-at.result in
    let cells : c.as_slice-c-items.result.now ≡ c.index-variables-at.result.cells = c.as_slice-c-items.ensures.value ∙ ap (λ (x : TorusVariable). x.cells) c.variable.view_is in
    let place : c.args.at + 1 - 1 ≡ c.args.at = omega arith in
    let whole : take c.loop-c.c-index c.as_slice-c-items.result.now ≡ set_of (sets_of c.args.incidence.now.sets.now.variables.now) (c.args.at + 1) =
    take_all c.loop-c.c-index c.as_slice-c-items.result.now (omega (arith, c.loop-c-test.false)) ∙ cells ∙ sym (set_at vars c.args.at x c.requires.at c.index-variables-at.is) ∙ ap (λ k. slice_index_or (sets_of c.args.incidence.now.sets.now.variables.now) k []) (sym place) in
    subst (λ (s : List Cell). Marks (λ v. meet s (set_of (sets_of c.args.incidence.now.sets.now.variables.now) v)) (c.args.at + 1) c.args.marks.now c.loop-c.marks) whole c.loop-c.invariant
