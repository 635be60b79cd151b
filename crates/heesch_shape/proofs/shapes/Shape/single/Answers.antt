use Rattle.std.proofs.Common.{◌≡◌, [], ◌∷◌, ◌++◌, sym, ap, ◌∙◌, subst}
use Rattle.heesch_shape.specs.Walks.{IsShape}
use Rattle.heesch_shape.proofs.Single.{single_shape}
use Rattle.heesch_shape.proofs.shapes.Shape.single.Goals as goal

pub invariant_of-result : goal.invariant_of-result
invariant_of-result g c =
    let e : c.push.new.self.items ≡ c.args.c ∷ [] = c.push.ensures.items ∙ ap (λ xs. xs ++ c.args.c ∷ []) c.new-cells.ensures in
    subst (IsShape g.G.Grid.geometry) (sym e) (single_shape g.G.Grid.geometry c.args.c c.requires.cell c.requires.within)

pub returns-clause-shape : goal.returns-clause-shape
returns-clause-shape g c =
    let e : c.push.new.self.items ≡ c.args.c ∷ [] = c.push.ensures.items ∙ ap (λ xs. xs ++ c.args.c ∷ []) c.new-cells.ensures in
    subst (IsShape g.G.Grid.geometry) (sym e) (single_shape g.G.Grid.geometry c.args.c c.requires.cell c.requires.within)
