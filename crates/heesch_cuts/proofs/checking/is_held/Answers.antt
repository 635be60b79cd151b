use Rattle.std.proofs.Common.{sym, subst, All, ◌<◌, length}
use Rattle.heesch_cuts.proofs.Covering.{covering_below}
use Rattle.heesch_cuts.proofs.checking.is_held.Goals as goal

pub is_any_marked-requires : goal.is_any_marked-requires
is_any_marked-requires g c =
    let count = length c.args.marks.now in
    subst (λ ns. All (λ n. n < count) ns) (sym c.covered_by.ensures) (covering_below c.args.universe.now.vars c.args.level c.args.d count c.requires.room)
