use Rattle.std.proofs.Common.{◌≡◌, ◌≢◌, true, [], rules}
use Rattle.heesch_parts.specs.Joining.{ends_entry}
use Rattle.heesch_parts.proofs.Feeding.{settles}
use Rattle.heesch_parts.proofs.scan.settle.Goals as goal

pub returns-clause-ok : goal.returns-clause-ok
returns-clause-ok c =
    let ends : ends_entry c.args.line.now ≡ true = search rules in
    let some : c.args.held.now.items ≢ [] = search rules in
    let lines = rw c.replace-lines.ensures.value at c.in_ok-entry.ensures.lines in
    settles c.push.result (ends_entry c.args.line.now) c.args.before c.args.held.now.items c.replace-lines.new.dest.items c.args.items.now c.push.new.self c.in_ok-entry.entry ends lines
    c.in_ok-entry.ensures.holds (c.requires.whole ends some) (rw c.replace-lines.ensures.after c.new.ensures.items) c.push.ensures.ok
