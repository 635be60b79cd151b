use Rattle.std.proofs.Common.{◌≡◌, [], get_or, sym, subst, ◌∙◌, arith}
use Rattle.heesch_cnf.specs.Clauses.{left_of}
use Rattle.heesch_trail.specs.State.{values_of}
use Rattle.heesch_trail.proofs.Settled.{Left-alone, Left-all}
use Rattle.heesch_trail.proofs.Visits.{at_number}
use Rattle.heesch_trail.proofs.Guards.{Var-fits}
use Rattle.heesch_trail.proofs.propagation.settle.Goals as goal

pub is_false-requires : goal.is_false-requires
is_false-requires c = Var-fits c.args.assigned.now c.args.index c.args.lit c.count.ensures.valid.clauses c.requires.within c.requires.has

pub returns-then-is_false-clause-found : goal.returns-then-is_false-clause-found
returns-then-is_false-clause-found c =
    let t = c.args.assigned.now in
    let within = c.requires.within in
    let values = values_of t.steps in
    let none = Left-all values (get_or t.clauses c.args.index []) c.args.lit c.requires.others (sym c.is_false.ensures ∙ c.if-is_false.true) in
    ((omega arith, omega (arith, within)), subst (λ clause. left_of values clause ≡ []) (sym (at_number t.clauses c.args.index)) none)

pub follow-requires-clause-alone : goal.follow-requires-clause-alone
follow-requires-clause-alone c =
    let t = c.args.assigned.now in
    Left-alone t.vars (values_of t.steps) (get_or t.clauses c.args.index []) c.args.lit (c.count.ensures.valid.clauses c.args.index [] c.requires.within) c.requires.has c.requires.others (sym c.is_false.ensures ∙ c.if-is_false.false)
