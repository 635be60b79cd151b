-- The line at hand of what a reader keeps.
use Rattle.std.proofs.Common.{◌≡◌, List, Option, Some, None, ap, ◌∙◌}
use Rattle.heesch_text.specs.declared.line.Line.{Line}
use Rattle.heesch_reader.specs.declared.item.Part.{Part}
use Rattle.heesch_line.specs.declared.stops.LineStop.{LineStop}
use Rattle.heesch_reader.specs.declared.progress.AtHand.{AtHand}
use Rattle.heesch_reader.specs.declared.scan.Scan.{Scan}
use Rattle.heesch_reader.specs.Items.{Kept}
use Rattle.heesch_reader.specs.Endings.{ending_of, TellsEnding}
use Rattle.heesch_reader.specs.Scanning.{IsRefusedOrScan, kept_of}
use Rattle.heesch_reader.proofs.SameLines.{same_reading}

pub told_ending : (refusal : Option (LineStop Part)) (s : Scan) (kept : Kept) (ending : AtHand) → kept_of refusal s ≡ kept → IsRefusedOrScan refusal s → ending ≡ ending_of s.lines.items s.line.items → TellsEnding kept ending
told_ending (Some stop) s kept ending view i e = λ held left going forms one_line text. let bad : Some stop ≡ None = ap (λ (k : Kept). k.refusal) view ∙ going in absurd cc
told_ending None s kept ending view i e = λ held left going forms one_line text.
    let same = same_reading s.lines.items held s.line.items left i.is.lead.forms forms i.is.one_line one_line (ap (λ (k : Kept). k.rest) view ∙ text) in
    e ∙ ap (λ (x : List Line). ending_of x s.line.items) same.0 ∙ ap (ending_of held) same.1
