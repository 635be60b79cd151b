use Rattle.std.proofs.Common.{◌≤◌, length, IsPermutation, subst, arith}
use Rattle.std.proofs.lemmas.Bool.Decides.{nat_tests}
use Rattle.heesch_shape.specs.Places.{AllHold, IsFirstFailure, is_out_at}
use Rattle.heesch_shape.proofs.Faultless.{faultless}
use Rattle.heesch_shape.proofs.Made.{distinct_from_new, cells_from_places, first_apart, made_cells, made_shape}
use Rattle.heesch_shape.proofs.Words.{list_of_same, order_of}
use Rattle.heesch_shape.proofs.shapes.Shape.of.Goals as goal

pub parted-outside-requires-clause-distinct : goal.parted-outside-requires-clause-distinct
parted-outside-requires-clause-distinct g c =
    distinct_from_new c.args.cells.now c.in_default-first_repeated.ensures.none

pub parted-outside-requires-clause-cells : goal.parted-outside-requires-clause-cells
parted-outside-requires-clause-cells g c =
    cells_from_places g.G.Grid.geometry c.args.cells.now c.in_default.ensures.none

pub returns-in-Some-first_among-clause-fault : goal.returns-in-Some-first_among-clause-fault
returns-in-Some-first_among-clause-fault g c =
    let geometry = g.G.Grid.geometry in
    let xs = c.args.cells.now in
    let some : 1 ≤ length xs = grind (arith, nat_tests) in
    let few : length xs ≤ 32 = omega (arith, c.if-cells-gt-CELLS_MAX.false) in
    let f = subst (λ zs. IsFirstFailure (is_out_at zs xs) (length xs) c.in-Some-first_among.at) c.as_slice.ensures.value c.in-Some-first_among.ensures.found in
    (some, few, c.in_default.ensures.none, c.in_default-first_repeated.ensures.none, first_apart geometry xs c.parted-outside.result.items c.in-Some-first_among.at c.parted-outside.ensures f)

pub in_order-requires : goal.in_order-requires
in_order-requires g c ys p sorted =
    let geometry = g.G.Grid.geometry in
    let met = g.met.G.Grid in
    let xs = c.args.cells.now in
    let some : 1 ≤ length xs = grind (arith, nat_tests) in
    let few : length xs ≤ 32 = omega (arith, c.if-cells-gt-CELLS_MAX.false) in
    let out = subst (λ zs. AllHold (is_out_at zs xs) (length xs)) c.as_slice.ensures.value c.in_default-first_among.ensures.none in
    made_shape geometry met.laws xs ys c.parted-outside.result.items some few c.in_default.ensures.none c.in_default-first_repeated.ensures.none c.parted-outside.ensures out c.requires (subst (λ zs. IsPermutation zs ys) c.copied.ensures p) sorted

pub returns-clause-list : goal.returns-clause-list
returns-clause-list g c =
    let xs = c.args.cells.now in
    list_of_same xs _ (order_of g.G.Grid.geometry _ c.in_order.ensures.shape) (made_cells xs _ (subst (λ zs. IsPermutation zs c.in_order.result) c.copied.ensures c.in_order.ensures.same))

pub returns-clause-faultless : goal.returns-clause-faultless
returns-clause-faultless g c =
    let geometry = g.G.Grid.geometry in
    let xs = c.args.cells.now in
    let some : 1 ≤ length xs = grind (arith, nat_tests) in
    let few : length xs ≤ 32 = omega (arith, c.if-cells-gt-CELLS_MAX.false) in
    let out = subst (λ zs. AllHold (is_out_at zs xs) (length xs)) c.as_slice.ensures.value c.in_default-first_among.ensures.none in
    faultless geometry xs c.parted-outside.result.items some few c.in_default.ensures.none c.in_default-first_repeated.ensures.none c.parted-outside.ensures out
