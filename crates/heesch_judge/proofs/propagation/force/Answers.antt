use Rattle.std.proofs.Common.{◌<◌, length, arith, subst}
use Rattle.heesch_cnf.specs.Left.{IsLeft}
use Rattle.heesch_cnf.specs.Literals.{held}
use Rattle.heesch_judge.proofs.Propagating.{in_range, passes_assigned, passes_more, passes_nothing}
use Rattle.heesch_judge.proofs.propagation.force.Goals as goal

pub returns-in-Nothing : goal.returns-in-Nothing
returns-in-Nothing c = λ clause form left. passes_nothing c.args.values.now clause c.args.values.now (subst (IsLeft (held c.args.values.now) clause) c.in-Nothing.is left)

pub returns-then-lit-vars : goal.returns-then-lit-vars
returns-then-lit-vars c = λ clause form left.
    let range = in_range c.args.values.now clause c.in-One.lit (subst (IsLeft (held c.args.values.now) clause) c.in-One.is left) c.args.vars form in
    absurd (omega (arith, range))

pub returns-else-lit-vars : goal.returns-else-lit-vars
returns-else-lit-vars c = λ clause form left.
    let fits : c.in-One.lit.var < length c.args.values.now = omega arith in
    passes_assigned c.args.values.now clause c.in-One.lit (subst (IsLeft (held c.args.values.now) clause) c.in-One.is left) fits c.assign.result c.assign.new.values c.assign.ensures.made c.assign.ensures.kept

pub returns-in-More : goal.returns-in-More
returns-in-More c = λ clause form left. passes_more c.args.values.now clause c.args.vars form (subst (IsLeft (held c.args.values.now) clause) c.in-More.is left)
