use Rattle.heesch_verdict.proofs.PlainEnds.{by_half_turn, none_plain, half_turn_small}
use Rattle.heesch_grid.specs.Tiling.{HalfTurn, no_move, half_turned, IsPlain}
use Rattle.std.specs.Prelude.{Some}
use Rattle.std.proofs.Common.{◌≡◌, ◌∷◌, [], ◌∙◌, to_z, of_z, w32, rules, arith}
use Rattle.std.proofs.lemmas.Int.{ints}
use Rattle.heesch_verdict.proofs.subject.Subject.plain_tiling.Goals as goal

pub returns-in_ok-two_places-in-Some-HalfTurn-2 : goal.returns-in_ok-two_places-in-Some-HalfTurn-2
returns-in_ok-two_places-in-Some-HalfTurn-2 g c =
    let geometry = g.G.Grid.geometry in
    let shape = c.args.self.now.shape.now in
    let arm = c.in-Some-HalfTurn-2 in
    let plain : IsPlain geometry shape (Some (HalfTurn arm.triple arm.da arm.db)) = search rules in
    let small = half_turn_small geometry g.met.G.Grid.laws c.args.self.now.limits c.requires.limits shape c.requires.shape arm.triple arm.da arm.db plain in
    let a : to_z w32 (of_z w32 arm.da) ≡ arm.da = omega (arith, ints, small.0, small.1) in
    let b : to_z w32 (of_z w32 arm.db) ≡ arm.db = omega (arith, ints, small.2, small.3) in
    let places = c.in_ok-two_places-in-Some-HalfTurn-2.field-0 in
    let is : places ≡ no_move ∷ half_turned geometry arm.da arm.db ∷ [] = c.in_ok-two_places-in-Some-HalfTurn-2.ensures ∙ (λ i. no_move ∷ half_turned geometry (a i) (b i) ∷ []) in
    by_half_turn geometry g.met.G.Grid.laws c.args.self.now.limits c.requires.limits shape c.requires.shape arm.triple arm.da arm.db places is c.if-self-lt2.false plain

pub returns-in-None : goal.returns-in-None
returns-in-None g c = none_plain g.G.Grid.geometry c.args.self.now.limits c.args.self.now.shape.now (search rules)
