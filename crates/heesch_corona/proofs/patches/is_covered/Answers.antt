use Rattle.std.proofs.Common.{◌≡◌, ◌<◌, false, not, length, sym, ◌∙◌, rules}
use Rattle.heesch_corona.proofs.Members.{none_with, first_with}
use Rattle.heesch_corona.proofs.patches.is_covered.Goals as goal

pub returns-then-not-is_empty : goal.returns-then-not-is_empty
returns-then-not-is_empty c =
    let some : 0 < length c.covering-numbers.result.now = search rules in
    first_with c.args.index.now c.args.c c.covering-numbers.result.now c.covering-numbers.ensures some c.args.most

pub returns-else-not-is_empty : goal.returns-else-not-is_empty
returns-else-not-is_empty c =
    let none : length c.covering-numbers.result.now ≡ 0 = search rules in
    let no : not c.is_empty.result ≡ false = search rules in
    no ∙ sym (none_with c.args.index.now c.args.c c.covering-numbers.result.now c.covering-numbers.ensures none c.args.most)
