use Rattle.std.proofs.Common.{◌≡◌, take}
use Rattle.heesch_text.specs.Lines.{text_of}
use Rattle.heesch_reader.specs.Items.{lines_of}
use Rattle.heesch_parts.proofs.joined_texts.written.Given as goal

abbrev pub invariant-loop-item : goal.invariant-loop-item
invariant-loop-item l = l.text.items ≡ text_of (lines_of (take l.item-index l.items))
