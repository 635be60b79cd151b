use Rattle.heesch_catalogue.proofs.ItemTexts.{text_more}
use Rattle.heesch_catalogue.proofs.items.append_items.Goals as goal

pub loop-item-preserved : goal.loop-item-preserved
loop-item-preserved g c =
    text_more (g.R.ShapeText.is_text c.args.texts.now) c.args.items.now c.loop-item.item-index c.item-item.result c.args.text.now.items c.loop-item.text.items c.append.new.text.items
    c.loop-item-test.true c.item-item.is c.loop-item.invariant c.in_ok-append.ensures
