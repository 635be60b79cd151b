use Rattle.std.proofs.Common.{◌≡◌, ◌+◌, ◌*◌, refl, sym, ap, subst, ◌∙◌, map, pos, ◌+ℤ◌, ◌*ℤ◌, arith}
use Rattle.std.proofs.lemmas.Int.{ints}
use Rattle.heesch_grid.specs.declared.isometries.Iso.{Iso}
use Rattle.heesch_grid.specs.Cells.{cell, has}
use Rattle.heesch_grid.specs.Geometry.{image}
use Rattle.heesch_grid.specs.Placement.{IsLeastIsometry}
use Rattle.heesch_grid.specs.Vectors.{IsWithin, plus}
use Rattle.heesch_grid.proofs.Images.{read, wider}
use Rattle.heesch_grid.proofs.ListFacts.{All-from_members}
use Rattle.heesch_place.specs.Universes.{Placed}
use Rattle.heesch_place.proofs.Moves.{carried, carried_near, step_near}
use Rattle.heesch_place.proofs.Moving.{least_moved}
use Rattle.heesch_place.proofs.placement.Placement.moved.Given as given
use Rattle.heesch_place.proofs.placement.Placement.moved.Goals as goal
use Rattle.heesch_place.proofs.placement.Placement.moved.Goals.{After-image}

pub image-requires-clause-within : goal.image-requires-clause-within
image-requires-clause-within g c =
    let geometry = g.G.Grid.geometry in
    let law = g.met.G.Grid.laws in
    let w = c.requires.units in
    let tile = c.self.inside.tile in
    let by : Iso = record { turn = 0; da = read c.args.units.a; db = read c.args.units.b } in
    let near = carried_near geometry law by tile 5000 (6 * 105000) refl (λ d h. c.requires.cells d (ap (λ (p : Placed). has p.tile d) (sym c.self.view_is) ∙ h)) (step_near geometry law by c.args.units 105000 (omega (arith, ints, w.a_low, w.a_high)) (omega (arith, ints, w.b_low, w.b_high)) w) in
    All-from_members (IsWithin 1000000) (image geometry by tile) (λ d m. wider (5000 + 6 * 105000) 1000000 d (omega arith) (near d m))

moved : (g : given.Over) (c : After-image g) → c.image.result ≡ map (plus (cell (pos g.G.Grid.geometry.unit *ℤ c.args.units.a) (pos g.G.Grid.geometry.unit *ℤ c.args.units.b))) c.args.self.now.tile
moved g c =
    let geometry = g.G.Grid.geometry in
    let w = c.requires.units in
    let by : Iso = record { turn = 0; da = read c.args.units.a; db = read c.args.units.b } in
    let a : read c.args.units.a ≡ c.args.units.a = omega (arith, ints, w.a_low, w.a_high) in
    let b : read c.args.units.b ≡ c.args.units.b = omega (arith, ints, w.b_low, w.b_high) in
    carried geometry g.met.G.Grid.laws by c.self.inside.tile c.image.result refl c.cells-cells.ensures.shape.polyform.is_set.rising c.image.ensures.list
    ∙ (λ i. map (plus (cell (pos geometry.unit *ℤ a i) (pos geometry.unit *ℤ b i))) (c.self.view_is i).tile)

pub returns-clause-tile : goal.returns-clause-tile
returns-clause-tile g c = moved g (goal.at.returns-clause-tile g c).After-image

pub returns-clause-least : goal.returns-clause-least
returns-clause-least g c shape h =
    let geometry = g.G.Grid.geometry in
    let units = c.args.units in
    let old = c.args.self.now.by in
    let w = c.requires.units in
    let n = c.requires.near in
    let to : Iso = record { turn = c.self.inside.by.turn; da = read (read c.self.inside.by.da +ℤ read units.a); db = read (read c.self.inside.by.db +ℤ read units.b) } in
    let ea : c.self.inside.by.da ≡ old.da = ap (λ (p : Placed). p.by.da) c.self.view_is in
    let eb : c.self.inside.by.db ≡ old.db = ap (λ (p : Placed). p.by.db) c.self.view_is in
    subst (λ t. IsLeastIsometry geometry shape t to) (sym (moved g (goal.at.returns-clause-least g c).After-image))
    (least_moved geometry shape c.args.self.now.tile old to units (ap (λ (p : Placed). p.by.turn) c.self.view_is) (omega (arith, ints, ea, w.a_low, w.a_high, n.a_low, n.a_high)) (omega (arith, ints, eb, w.b_low, w.b_high, n.b_low, n.b_high)) h)
