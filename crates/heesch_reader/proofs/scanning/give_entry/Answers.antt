use Rattle.std.proofs.Common.{refl}
use Rattle.heesch_reader.proofs.Giving.{entry_at_hand, gives}
use Rattle.heesch_reader.proofs.scanning.give_entry.Goals as goal

pub item_of-requires : goal.item_of-requires
item_of-requires c = rw c.replace-lines.ensures.value (entry_at_hand c.args.scan.now c.in-Behind.brief c.in-Behind.spot c.requires.is c.requires.some c.in-Behind.is c.requires.whole)

pub returns-clause-ok : goal.returns-clause-ok
returns-clause-ok c =
    gives c.args.scan.now _ c.args.items.now c.push.new.self c.in_ok-item.item c.in-Behind.brief c.in-Behind.spot c.requires.is c.requires.some c.in-Behind.is
    (record { appended = rw (c.count-count.ensures, c.replace-lines.ensures.value) refl; lines = rw c.replace-lines.ensures.after c.new.ensures.items; progress = c.between-scan.ensures; line = refl })
    (rw c.replace-lines.ensures.value at c.in_ok-item.ensures.lines) (c.in_ok-item.ensures.numbered c.args.scan.now.appended.lines refl) c.in_ok-push.ensures.ok
