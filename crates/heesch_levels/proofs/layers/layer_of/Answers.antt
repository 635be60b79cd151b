use Rattle.std.proofs.Common.{◌≡◌, ◌<◌, ◌+◌, ◌-◌, List, false, length, get_or, take, sym, subst, ap, ◌∙◌, arith, ne_eqb}
use Rattle.std.specs.Prelude.{◌==◌}
use Rattle.std.specs.List.{AllZip}
use Rattle.std.proofs.lemmas.Bool.{and_left, and_right}
use Rattle.heesch_grid.specs.declared.Cell.{Cell}
use Rattle.heesch_grid.specs.declared.isometries.Iso.{Iso}
use Rattle.heesch_cnf.specs.Clauses.{assignment_of}
use Rattle.heesch_grid.specs.Placement.{IsLeastIsometry}
use Rattle.heesch_grid.specs.Statements.{chosen_layer}
use Rattle.heesch_levels.proofs.layers.layer_of.Goals as goal
use Rattle.heesch_levels.proofs.layers.layer_of.Goals.{then-level_of-level+then-values-before+in_ok-push, else-level_of-level, else-level_of-level-via-then-level_of-level+else-values-before, else-level_of-level-via-else-level_of-level}
use Rattle.heesch_levels.proofs.LayerLists.{variable_at, zip_chosen, zip_same}

pub loop-before-preserved : goal.loop-before-preserved
loop-before-preserved g c =
    let u = c.args.universe.now in
    let values = assignment_of c.args.values.now in
    let i = c.loop-before.before in
    let low : i < length u.vars = omega arith in
    let x = variable_at u.vars i low in
    let level_is = c.level_of.ensures x.variable x.numbered in
    let R = λ (by : Iso) (tile : List Cell). IsLeastIsometry g.G.Grid.geometry u.shape tile by in
    let value_is : values (i + 1) ≡ get_or c.args.values.now i false = ap (λ n. get_or c.args.values.now n false) (let e : i + 1 - 1 ≡ i = omega arith in e) in
    elim c.if-level_of-level.branch [
      | then-level_of-level+then-values-before+in_ok-push w ↦
          let least : IsLeastIsometry g.G.Grid.geometry u.shape x.variable.tile w.iso.result =
          subst (λ by. IsLeastIsometry g.G.Grid.geometry u.shape x.variable.tile by) (sym w.iso.ensures)
          (subst (λ tile. IsLeastIsometry g.G.Grid.geometry u.shape tile w.placement_of.result.now.by) (w.placement_of.ensures.tile x.variable x.numbered) w.placement_of.ensures.least) in
          subst (λ layer. AllZip R layer (chosen_layer values (take (i + 1) u.vars) c.args.level)) (sym (w.layer-is ∙ w.in_ok-push.ensures.ok))
          (zip_chosen R values c.args.level u.vars i low x c.loop-before.layer w.iso.result c.loop-before.invariant (sym level_is ∙ w.if-level_of-level.true) (value_is ∙ w.if-values-before.true) least)
      | else-level_of-level w ↦
          subst (λ layer. AllZip R layer (chosen_layer values (take (i + 1) u.vars) c.args.level)) (sym w.layer-is)
          (zip_same R values c.args.level u.vars i low x c.loop-before.layer c.loop-before.invariant
          (elim w.else-level_of-level.branch [
            | else-level_of-level-via-then-level_of-level+else-values-before v ↦ and_right (x.variable.level == c.args.level) (values (i + 1)) (value_is ∙ v.if-values-before.false)
            | else-level_of-level-via-else-level_of-level v ↦ and_left (x.variable.level == c.args.level) (values (i + 1)) (ne_eqb x.variable.level c.args.level (λ e. v.if-level_of-level.false (level_is ∙ e)))
          ]))
    ]
