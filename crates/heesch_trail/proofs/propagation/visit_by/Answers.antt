use Rattle.std.proofs.Common.{None, [], get_or, sym, subst, ◌∙◌}
use Rattle.heesch_trail.specs.State.{values_of}
use Rattle.heesch_trail.specs.Watches.{index_of}
use Rattle.heesch_trail.specs.Readings.{IsOther}
use Rattle.heesch_trail.proofs.Guards.{Var-fits}
use Rattle.heesch_trail.proofs.Rewatch.{Binary-others}
use Rattle.heesch_trail.proofs.propagation.visit_by.Goals as goal

pub is_true-requires : goal.is_true-requires
is_true-requires c = Var-fits c.args.assigned.now (index_of c.args.entry) c.args.entry.blocker c.vars.ensures.valid.clauses c.requires.sound.within c.requires.sound.has

pub settle-requires-clause-others : goal.settle-requires-clause-others
settle-requires-clause-others c =
    let t = c.args.assigned.now in
    subst (λ k. IsOther (values_of t.steps) (get_or t.clauses k []) c.args.entry.blocker None) (sym c.index.ensures)
    (Binary-others t c.args.lit c.args.entry c.requires.sound (sym c.is_binary.ensures ∙ c.if-is_binary.true) c.requires.turned)
