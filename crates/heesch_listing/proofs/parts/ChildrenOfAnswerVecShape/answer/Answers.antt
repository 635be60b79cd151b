use Rattle.std.proofs.Common.{All, sym, subst, drop, ◌*◌}
use Rattle.std.proofs.lemmas.List.Elements.{All-take, All-drop}
use Rattle.heesch_grow.specs.Parents.{IsSmall}
use Rattle.heesch_grow.proofs.Small.{small_by_test}
use Rattle.heesch_listing.proofs.parts.ChildrenOfAnswerVecShape.answer.Goals as goal

pub children-requires : goal.children-requires
children-requires g c =
    let parents = c.args.self.now.parents.now in
    let first = c.args.number * 64 in
    subst (All IsSmall) (sym c.part.ensures) (All-take IsSmall 64 (drop first parents) (All-drop IsSmall first parents (small_by_test parents c.requires.number)))
