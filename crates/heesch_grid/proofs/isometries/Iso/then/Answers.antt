use Rattle.std.proofs.Common.{◌≡◌, ◌+ℤ◌, ap, ◌∙◌, arith}
use Rattle.std.proofs.lemmas.Int.{ints}
use Rattle.heesch_grid.specs.Cells.{cell}
use Rattle.heesch_grid.specs.Pairs.{Cell-eta}
use Rattle.heesch_grid.specs.Vectors.{plus}
use Rattle.heesch_grid.proofs.Images.{carried, carried_twice, turned_step, read}
use Rattle.heesch_grid.proofs.isometries.Iso.then.Goals as goal

pub overflow_add-result : goal.overflow_add-result
overflow_add-result g c =
    let met = g.met.G.Grid in
    let step = turned_step g.G.Grid.geometry met.laws c.args.next.turn c.turn-moved.result c.args.self.da c.args.self.db c.requires.next_turn c.turn-moved.ensures c.requires.near in
    omega (arith, ints, step.1.a_low, step.1.a_high)

pub overflow_add-result-2 : goal.overflow_add-result-2
overflow_add-result-2 g c =
    let met = g.met.G.Grid in
    let step = turned_step g.G.Grid.geometry met.laws c.args.next.turn c.turn-moved.result c.args.self.da c.args.self.db c.requires.next_turn c.turn-moved.ensures c.requires.near in
    omega (arith, ints, step.1.b_low, step.1.b_high)

pub returns-clause-near : goal.returns-clause-near
returns-clause-near g c =
    let met = g.met.G.Grid in
    let step = turned_step g.G.Grid.geometry met.laws c.args.next.turn c.turn-moved.result c.args.self.da c.args.self.db c.requires.next_turn c.turn-moved.ensures c.requires.near in
    let w = step.1 in
    record { a_low = omega (arith, ints, w.a_low, w.a_high); a_high = omega (arith, ints, w.a_low, w.a_high); b_low = omega (arith, ints, w.b_low, w.b_high); b_high = omega (arith, ints, w.b_low, w.b_high) }

pub returns-clause-images : goal.returns-clause-images
returns-clause-images g c =
    let met = g.met.G.Grid in
    let geometry = g.G.Grid.geometry in
    let u = cell c.args.self.da c.args.self.db in
    let v = cell c.args.next.da c.args.next.db in
    let k = c.args.self.turn in
    let l = c.args.next.turn in
    let m = c.turn-moved.result in
    let step = turned_step geometry met.laws l m c.args.self.da c.args.self.db c.requires.next_turn c.turn-moved.ensures c.requires.near in
    let ea = ap (λ c. c.a) step.0 in
    let eb = ap (λ c. c.b) step.0 in
    let w = step.1 in
    let d = cell (read (read m.a +ℤ read c.args.next.da)) (read (read m.b +ℤ read c.args.next.db)) in
    let by : d ≡ plus (geometry.turn l u) v = Cell-eta d (plus (geometry.turn l u) v) (omega (arith, ints, w.a_low, w.a_high, ea)) (omega (arith, ints, w.b_low, w.b_high, eb)) in
    λ x. ap (λ d. carried geometry met.laws c.compose.result d x) by ∙ ap (λ t. carried geometry met.laws t (plus (geometry.turn l u) v) x) c.compose.ensures ∙ carried_twice geometry met.laws k l u v x c.requires.turn c.requires.next_turn
