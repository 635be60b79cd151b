use Rattle.std.proofs.Common.{◌≡◌, [], ◌∷◌, ◌++◌, length, ap, subst, ◌∙◌, rules}
use Rattle.heesch_corona.specs.Building.{AreAdded}
use Rattle.heesch_corona.proofs.Added.{built_first, built_more}
use Rattle.heesch_corona.proofs.patches.patches_of.Goals as goal

pub loop-layer-init : goal.loop-layer-init
loop-layer-init g c =
    let e : c.add.new.self ≡ c.args.shape.now ∷ [] = search rules in
    let f : c.push.new.self.items ≡ 1 ∷ [] = c.in_ok-push.ensures.items ∙ ap (λ xs. xs ++ c.len.result ∷ []) c.new-ends.ensures.items ∙ ap (λ n. n ∷ []) (c.len.ensures ∙ ap length e) in
    built_first g.G.Grid.geometry c.args.shape.now c.add.new.self c.push.new.self.items c.cells.ensures.shape e f

pub loop-layer-preserved : goal.loop-layer-preserved
loop-layer-preserved g c =
    built_more g.G.Grid.geometry c.args.shape.now c.as_slice-layer-items.result.now c.loop-layer.layer-index c.layer-item.result c.loop-layer.index c.add_layer.new.index c.loop-layer.ends.items c.push-in-loop-layer.new.self.items c.loop-layer-test.true c.layer-item.is (c.in_ok-push-2.ensures.items ∙ ap (λ n. c.loop-layer.ends.items ++ n ∷ []) c.len-in-loop-layer.ensures) c.loop-layer.invariant (subst (λ xs. AreAdded g.G.Grid.geometry c.args.shape.now xs c.loop-layer.index c.add_layer.new.index) c.as_slice.ensures c.in_ok-add_layer.ensures)
