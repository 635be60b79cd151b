use Rattle.std.proofs.Common.{◌≤◌, ◌-◌, length, take}
use Rattle.heesch_catalogue.specs.Rounds.{AreTexts, IsItemText, WritesOne}
use Rattle.heesch_catalogue.proofs.rounds.write_texts.Given as goal

-- behind the head the texts of the shapes before this place are written
abbrev pub invariant-loop-from : goal.invariant-loop-from
invariant-loop-from g l =
    let held = g.W.Sink.held in
    let IsText = IsItemText (g.R.ShapeText.is_of l.texts g.G.Grid.geometry) (g.R.ShapeText.is_text l.texts) in
    record {
      within : l.from ≤ length l.shapes;
      written : WritesOne (AreTexts IsText (take l.from l.shapes)) (held l.initial.sink) (held l.sink);
      later : g.W.Sink.faults l.initial.sink ≤ g.W.Sink.faults l.sink;
    }

abbrev pub decreases-loop-from : goal.decreases-loop-from
decreases-loop-from g l = l.count - l.from
