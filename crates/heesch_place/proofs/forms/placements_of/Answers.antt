use Rattle.std.proofs.Common.{[], ◌∷◌, ◌++◌, All, length, map, sym, ap, subst, ◌∙◌, arith, append_assoc}
use Rattle.std.specs.Vec.Iter.{into_iter_items}
use Rattle.std.proofs.lemmas.List.{map-append}
use Rattle.std.proofs.lemmas.List.Elements.{All-push}
use Rattle.heesch_grid.specs.Placement.{IsLeastIsometry}
use Rattle.heesch_place.specs.Universes.{Placed}
use Rattle.heesch_place.proofs.forms.placements_of.Goals as goal

pub loop-tile-preserved : goal.loop-tile-preserved
loop-tile-preserved g c =
    let tile = c.in-Some.tile in
    let old = c.loop-tile.all.items in
    let rest = into_iter_items c.next.new.self in
    let steps = c.in-Some.ensures.steps in
    let tiles = map (λ (p : Placed). p.tile) in
    let P : Placed → Type 0 = λ p. IsLeastIsometry g.G.Grid.geometry c.args.images.now p.tile p.by in
    let pushed = ap tiles c.in_ok-add.ensures ∙ map-append (λ (p : Placed). p.tile) old (c.onto.result ∷ []) ∙ ap (λ t. tiles old ++ t ∷ []) c.onto.ensures.tile in
    record {
      whole = ap (λ ts. ts ++ rest) pushed ∙ append_assoc (tiles old) (tile ∷ []) rest ∙ ap (λ ts. tiles old ++ ts) (sym steps.0) ∙ c.loop-tile.invariant.whole;
      left = omega (arith, steps.1, c.loop-tile.invariant.left, ap length steps.0);
      least = subst (All P) (sym c.in_ok-add.ensures) (All-push P old c.onto.result c.loop-tile.invariant.least c.onto.ensures.least);
    }
