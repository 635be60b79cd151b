use Rattle.std.proofs.Common.{subst, sym, ◌∙◌}
use Rattle.heesch_trail.specs.Fixpoint.{IsFixpoint}
use Rattle.heesch_trail.specs.State.{State, IsTrail, IsPropagated, values_of}
use Rattle.heesch_cdcl.specs.Search.{LowerFixpoints, SameClauses}
use Rattle.heesch_cdcl.proofs.Lower.{Lower-propagate, Lower-decide, Same-continues, Same-steps}
use Rattle.heesch_cdcl.proofs.workspace.Workspace.descend.Goals as goal

pub returns-in_err-number-clause-lower : goal.returns-in_err-number-clause-lower
returns-in_err-number-clause-lower c = Lower-propagate c.loop-number.self.trail c.propagate.new.self c.propagate.ensures.goes_on c.loop-number.invariant.lower

pub returns-in-Some-clause-lower : goal.returns-in-Some-clause-lower
returns-in-Some-clause-lower c = Lower-propagate c.loop-number.self.trail c.propagate.new.self c.propagate.ensures.goes_on c.loop-number.invariant.lower

pub returns-in_default-choose-clause-lower : goal.returns-in_default-choose-clause-lower
returns-in_default-choose-clause-lower c =
    subst LowerFixpoints (sym c.choose.ensures.same) (Lower-propagate c.loop-number.self.trail c.propagate.new.self c.propagate.ensures.goes_on c.loop-number.invariant.lower)

pub loop-number-preserved : goal.loop-number-preserved
loop-number-preserved c =
    let chosen = c.choose.new.self.trail in
    let moved = sym c.choose.ensures.same in
    let lower = subst LowerFixpoints moved (Lower-propagate c.loop-number.self.trail c.propagate.new.self c.propagate.ensures.goes_on c.loop-number.invariant.lower) in
    let fixpoint = subst (λ (t : State). IsFixpoint (values_of t.steps) t.clauses) moved (subst (IsPropagated c.propagate.new.self) c.in_default.is c.in_ok-number.ensures.found) in
    record {
      valid = c.decide.ensures.valid;
      lower = Lower-decide chosen c.decide.new.self _ (subst IsTrail moved c.propagate.ensures.valid) fixpoint lower c.in_ok-decide.ensures.ok;
      same = Same-steps _ chosen c.decide.new.self _
          (subst (SameClauses _) moved (Same-continues _ c.loop-number.self.trail c.propagate.new.self c.loop-number.invariant.same c.propagate.ensures.goes_on)) c.in_ok-decide.ensures.ok;
    }

pub returns-in_err-decide-clause-lower : goal.returns-in_err-decide-clause-lower
returns-in_err-decide-clause-lower c =
    subst LowerFixpoints (sym (c.in_err-decide.ensures.err ∙ c.choose.ensures.same))
    (Lower-propagate c.loop-number.self.trail c.propagate.new.self c.propagate.ensures.goes_on c.loop-number.invariant.lower)
