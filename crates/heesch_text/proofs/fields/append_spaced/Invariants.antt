use Rattle.std.proofs.Common.{◌≡◌, ◌++◌, take}
use Rattle.std.specs.List.{AllByRecursion}
use Rattle.heesch_text.specs.Fields.{spaced}
use Rattle.heesch_text.proofs.fields.append_spaced.Given as goal

abbrev pub invariant-loop-item : goal.invariant-loop-item
invariant-loop-item g l = record {
  written : l.out.items ≡ l.fn.out.items ++ spaced g.W.Word.text (take l.item-index l.items);
  fit : AllByRecursion g.W.Word.fits (take l.item-index l.items);
}
