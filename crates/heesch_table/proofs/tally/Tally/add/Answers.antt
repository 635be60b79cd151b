use Rattle.std.proofs.Common.{◌+◌, sym, subst}
use Rattle.heesch_table.specs.Steps.{VerdictsAreWithin}
use Rattle.heesch_table.proofs.OneMore.{flag_within, verdicts_within}
use Rattle.heesch_table.proofs.tally.Tally.add.Goals as goal

pub invariant_of-self-2 : goal.invariant_of-self-2
invariant_of-self-2 c =
    let n = c.self.inside.shapes in
    let v = c.args.verdict.now in
    record {
      holed = flag_within _ c.self.inside.holed c.from.result n c.from.ensures c.self.invariant.holed;
      verdicts = subst (VerdictsAreWithin (n + 1)) (sym c.add-2.ensures) (verdicts_within v c.self.inside.verdicts n c.self.invariant.verdicts);
      heesch = c.in_ok-add.ensures.bound n c.self.invariant.heesch;
    }
