use Rattle.std.proofs.Common.{◌≡◌, ℕ, true, ◌+◌, ◌*◌, ◌/◌, ◌%◌, ◌<◌, sym, subst, arith}
use Rattle.heesch_grid.specs.declared.Cell.{Cell}
use Rattle.heesch_region.specs.declared.window.Window.{Window}
use Rattle.heesch_region.specs.Windows.{size, is_inside, row as row_of_cell, column as column_of_cell}
use Rattle.heesch_region.proofs.Places.{inside-true, place_fits, mod_less, spot_below}
use Rattle.heesch_region.proofs.Boxes.{size_few}
use Rattle.heesch_region.proofs.window.Window.place.Goals as goal

-- what the code computes is below 64 times the size
fits : (w : Window) (c : Cell) (row column : ℕ) → is_inside w c ≡ true → row ≡ row_of_cell w c → column ≡ column_of_cell w c → (row * w.unit + column % w.unit) * (64 * w.words) + column / w.unit < 64 * size w
fits w c row column h rows columns =
    let i = inside-true w c h in
    place_fits w.tall w.unit w.words row (column % w.unit) (column / w.unit) (let l = i.b_high in omega (arith, l, rows)) (mod_less column w.unit w.some) (subst (λ n. n / w.unit < 64 * w.words) (sym columns) (spot_below w c i))

pub returns-clause-below : goal.returns-clause-below
returns-clause-below c = fits c.args.self c.args.c c.row.result c.column-column.result c.requires c.row.ensures c.column-column.ensures

pub overflow_add-result : goal.overflow_add-result
overflow_add-result c =
    let l = fits c.args.self c.args.c c.row.result c.column-column.result c.requires c.row.ensures c.column-column.ensures in
    let k = size_few c.args.self in
    omega (arith, l, k)

pub overflow_mul-result-2 : goal.overflow_mul-result-2
overflow_mul-result-2 c =
    let l = fits c.args.self c.args.c c.row.result c.column-column.result c.requires c.row.ensures c.column-column.ensures in
    let k = size_few c.args.self in
    omega (arith, l, k)
