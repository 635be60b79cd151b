use Rattle.std.proofs.Common.{◌≡◌, ℕ, ◌<◌, ℤ, pos, ◌-ℤ◌, sym, ap, subst, ◌∙◌, arith}
use Rattle.std.proofs.lemmas.Int.{ints}
use Rattle.heesch_grid.specs.declared.Cell.{Cell}
use Rattle.heesch_grid.specs.Cells.{cell}
use Rattle.heesch_grid.specs.Geometry.{Geometry, IsGrid}
use Rattle.heesch_grid.specs.Pairs.{Cell-eta}
use Rattle.heesch_grid.specs.Vectors.{IsWithin, negated}
use Rattle.heesch_grid.proofs.Images.{carried, carried_back, carried_forth, turned_step, read}
use Rattle.heesch_grid.proofs.isometries.Iso.undo.Goals as goal

-- turn i undoes turn k, and makes m of the translation
undone : (g : Geometry) → IsGrid g → (k i : ℕ) (m : Cell) (x y : ℤ) → k < g.turns → i ≡ g.inverse k → m ≡ g.turn i (cell (read x) (read y)) → IsWithin 100000 (cell x y)
    → (i < g.turns) × (m ≡ g.turn i (cell x y)) × IsWithin 200000 m
undone g laws k i m x y less inverse moved near =
    let i_less : i < g.turns = subst (λ n. n < g.turns) (sym inverse) (laws.inverse k less).0 in
    let step = turned_step g laws i m x y i_less moved near in
    (i_less, step.0, step.1)

pub overflow_sub-result : goal.overflow_sub-result
overflow_sub-result g c =
    let w = (undone g.G.Grid.geometry g.met.G.Grid.laws c.args.self.turn c.inverse-turn.result c.turn-moved.result c.args.self.da c.args.self.db c.requires.turn c.inverse-turn.ensures c.turn-moved.ensures c.requires.near).2 in
    omega (arith, ints, w.a_low, w.a_high)

pub overflow_sub-result-2 : goal.overflow_sub-result-2
overflow_sub-result-2 g c =
    let w = (undone g.G.Grid.geometry g.met.G.Grid.laws c.args.self.turn c.inverse-turn.result c.turn-moved.result c.args.self.da c.args.self.db c.requires.turn c.inverse-turn.ensures c.turn-moved.ensures c.requires.near).2 in
    omega (arith, ints, w.b_low, w.b_high)

pub returns : goal.returns
returns g c =
    let laws = g.met.G.Grid.laws in
    let geometry = g.G.Grid.geometry in
    let k = c.args.self.turn in
    let i = c.inverse-turn.result in
    let m = c.turn-moved.result in
    let v = cell c.args.self.da c.args.self.db in
    let (i_less, moved, w) = undone geometry laws k i m c.args.self.da c.args.self.db c.requires.turn c.inverse-turn.ensures c.turn-moved.ensures c.requires.near in
    let d = cell (read (pos 0 -ℤ read m.a)) (read (pos 0 -ℤ read m.b)) in
    let by : d ≡ negated (geometry.turn i v) = Cell-eta d (negated (geometry.turn i v)) (omega (arith, ints, w.a_low, w.a_high, ap (λ c. c.a) moved)) (omega (arith, ints, w.b_low, w.b_high, ap (λ c. c.b) moved)) in
    record {
      turn = c.inverse-turn.ensures;
      near = record { a_low = omega (arith, ints, w.a_low, w.a_high); a_high = omega (arith, ints, w.a_low, w.a_high); b_low = omega (arith, ints, w.b_low, w.b_high); b_high = omega (arith, ints, w.b_low, w.b_high) };
      after = λ x. ap (λ d. carried geometry laws i d (carried geometry laws k v x)) by ∙ carried_back geometry laws k i v x c.requires.turn i_less (ap (λ i. geometry.turn i (geometry.turn k x)) c.inverse-turn.ensures ∙ ((laws.inverse k c.requires.turn).1 x).0);
      before = λ x. ap (λ d. carried geometry laws k v (carried geometry laws i d x)) by ∙ carried_forth geometry laws k i v x c.requires.turn i_less (λ y. ap (λ i. geometry.turn k (geometry.turn i y)) c.inverse-turn.ensures ∙ ((laws.inverse k c.requires.turn).1 y).1);
    }
