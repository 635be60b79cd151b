use Rattle.std.proofs.Common.{◌≡◌, ℕ, ◌<◌, List, map, length, get_or, ap, ◌∙◌, arith}
use Rattle.std.specs.Prelude.{Some, option_map, slice_get}
use Rattle.std.proofs.lemmas.Int.{ints}
use Rattle.std.proofs.lemmas.Option.{slice_get-map, slice_get-get_or}
use Rattle.heesch_grid.specs.declared.Cell.{Cell}
use Rattle.heesch_grid.specs.Pairs.{Cell-eta}
use Rattle.heesch_grid.specs.Vectors.{plus}
use Rattle.heesch_grid.proofs.tables.neighbour.Goals as goal

-- a difference of the table moves the cell to its neighbour
moved_at : (c r d : Cell) (table : List Cell) (i : ℕ) → i < length table → r ≡ plus (get_or table i d) c → slice_get (map (plus c) table) i ≡ Some r
moved_at c r d table i below e =
    let x = get_or table i d in
    slice_get-map (plus c) table i ∙ ap (option_map (plus c)) (slice_get-get_or table i d below) ∙ ap Some (Cell-eta (plus c x) r (omega (arith, ints, ap (λ z. z.a) e)) (omega (arith, ints, ap (λ z. z.b) e)))

pub returns : goal.returns
returns c = moved_at c.args.c c.moved.result _ c.args.table.now c.args.i c.requires.below c.moved.ensures
