use Rattle.heesch_cert.proofs.EntryRight.{true_entries_are_right}
use Rattle.heesch_verdict.proofs.Entries.{true_entry, earliest_cover}
use Rattle.heesch_verdict.proofs.classifying.classify.Goals as goal

pub returns : goal.returns
returns g c =
    let geometry = g.G.Grid.geometry in
    let limits = c.args.limits in
    let shape = c.args.shape.now in
    let cells = c.in_ok-cells.cells in
    let is = c.in_ok-cells.ensures.cells in
    let judged = c.in_ok-verdict.field-0 in
    let j = c.in_ok-verdict.ensures in
    let entry = true_entry geometry limits shape cells is judged j in
    record {
      cells = is;
      entry = entry;
      right = true_entries_are_right geometry limits _ g.met.G.Grid.laws c.requires.limits entry;
      reduced = j.reduced;
      earliest = earliest_cover geometry limits shape cells is judged j;
    }
