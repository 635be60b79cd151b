use Rattle.std.proofs.Common.{◌≡◌, ◌<◌, Bool, true, false, List, [], ◌∷◌, length, refl, subst, sym, ◌∙◌, arith, rules, true≢false}
use Rattle.heesch_grid.specs.declared.Cell.{Cell}
use Rattle.heesch_grid.specs.Hole.{IsHoleFree, IsGreatestHole}
use Rattle.heesch_region.specs.Marks.{AreMarksOf}
use Rattle.heesch_region.proofs.region.Region.hole.Goals as goal

pub returns-then-is_empty : goal.returns-then-is_empty
returns-then-is_empty g c =
    let geometry = g.G.Grid.geometry in
    let w = c.self.inside.window in
    let cells = c.self.inside.cells.items in
    let view : cells ≡ c.args.self.now = cc in
    let marks : AreMarksOf geometry w cells c.deref.result.now = subst (AreMarksOf geometry w cells) (sym c.deref.ensures.value) c.self.invariant in
    let none : length c.in_ok-hole.hole ≡ 0 = search rules in
    subst (IsHoleFree geometry) view (c.in_ok-hole.ensures.none cells marks none)

some_of : (xs : List Cell) (b : Bool) → (xs ≡ [] → b ≡ true) → b ≡ false → 0 < length xs
some_of [] b h f = absurd (true≢false (sym (h refl) ∙ f))
some_of (x ∷ xs) b h f = omega arith

pub returns : goal.returns
returns g c =
    let geometry = g.G.Grid.geometry in
    let w = c.self.inside.window in
    let cells = c.self.inside.cells.items in
    let view : cells ≡ c.args.self.now = cc in
    let marks : AreMarksOf geometry w cells c.deref.result.now = subst (AreMarksOf geometry w cells) (sym c.deref.ensures.value) c.self.invariant in
    let some : 0 < length c.in_ok-hole.hole = some_of c.in_ok-hole.hole c.is_empty.result c.is_empty.ensures.1 c.if-is_empty.false in
    (some, subst (λ xs. IsGreatestHole geometry xs c.in_ok-hole.hole) view (c.in_ok-hole.ensures.hole cells marks))
