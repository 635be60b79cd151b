use Rattle.std.proofs.Common.{◌≡◌, ◌++◌}
use Rattle.heesch_app.specs.Plains.{plain_list_text}
use Rattle.heesch_app.proofs.PlainLines.{lines_from}
use Rattle.heesch_app.proofs.tilings.plain_text_of.Given as goal

-- the lines so far, and those of the shapes that are left
abbrev pub invariant-loop-i : goal.invariant-loop-i
invariant-loop-i g l = l.text.items ++ lines_from l.i l.shapes l.tilings ≡ plain_list_text l.shapes l.tilings
