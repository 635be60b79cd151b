use Rattle.std.proofs.Common.{All, ◌<◌, [], length, sym, subst}
use Rattle.heesch_cnf.specs.Literals.{held}
use Rattle.heesch_encode.proofs.Rings.{covering_small}
use Rattle.heesch_numbers.proofs.Members.{choice_left}
use Rattle.heesch_numbers.proofs.Seeing.{seen_none}
use Rattle.heesch_numbers.proofs.walks.left_of_first.Goals as goal

pub left_with_all-requires : goal.left_with_all-requires
left_with_all-requires g c =
    subst (All (λ n. n < length c.args.values.now)) (sym c.covered_by.ensures) (covering_small c.args.plan.now.universe.now.vars 1 c.args.c (length c.args.values.now) c.requires)

pub returns : goal.returns
returns g c =
    choice_left (held c.args.values.now) c.args.plan.now.universe.now.vars c.args.c c.covered_by.result.now c.left_with_all.result c.covered_by.ensures (c.left_with_all.ensures [] (seen_none (held c.args.values.now)))
