use Rattle.std.specs.Prelude.{codes}
use Rattle.std.proofs.lemmas.Result.{IfOk-equal}
use Rattle.heesch_table.specs.Texts.{count_line, heesch_text}
use Rattle.heesch_table.proofs.Writing.{eleven_writes}
use Rattle.heesch_table.proofs.tally.Tally.append.Goals as goal

pub returns-clause-ok : goal.returns-clause-ok
returns-clause-ok c =
    let t = c.self.inside in
    let v = t.verdicts in
    rw (← c.self.view_is) (IfOk-equal _ _ _ _ c.append_counts-2.ensures.ok
    (eleven_writes _ _ _ (count_line (codes "shapes ") t.shapes) (count_line (codes "holed ") t.holed) (count_line (codes "translation ") v.translation) (count_line (codes "halfturn ") v.halfturn) (count_line (codes "periodic ") v.periodic) (count_line (codes "isohedral ") v.isohedral) (heesch_text t.heesch)
    (count_line (codes "undecided levels ") v.levels) (count_line (codes "undecided holes ") v.holes) (count_line (codes "undecided turns ") v.turns) (count_line (codes "undecided size ") v.size) c.in_ok-append_counts.ensures.ok c.in_ok-append.ensures.ok))
