use Rattle.std.proofs.Common.{All, ◌<◌, ◌∷◌, [], length, sym, subst}
use Rattle.heesch_cnf.specs.Literals.{held}
use Rattle.heesch_cert.specs.Literals.{literals}
use Rattle.heesch_encode.proofs.Rings.{covering_small}
use Rattle.heesch_numbers.proofs.Members.{covering_left}
use Rattle.heesch_numbers.proofs.Seeing.{seen_none}
use Rattle.heesch_numbers.proofs.walks.left_of_cover.Goals as goal

pub left_with_all-requires : goal.left_with_all-requires
left_with_all-requires g c =
    subst (All (λ n. n < length c.args.values.now)) (sym c.covered_by.ensures) (covering_small c.args.plan.now.universe.now.vars c.args.most c.args.c (length c.args.values.now) c.requires.room)

pub returns : goal.returns
returns g c = λ x number outside.
    covering_left (held c.args.values.now) c.args.plan.now.universe.now.vars c.args.var c.args.most x c.args.c c.covered_by.result.now c.left_with_all.result number outside c.covered_by.ensures
    (c.left_with_all.ensures (literals.minus c.args.var ∷ []) (c.left_with-left.ensures [] (seen_none (held c.args.values.now))))
