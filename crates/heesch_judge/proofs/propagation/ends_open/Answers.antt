use Rattle.std.proofs.Common.{sym, subst}
use Rattle.std.specs.Prelude.{◌↔◌, IsTrue}
use Rattle.heesch_cnf.specs.Lines.{clauses_with}
use Rattle.heesch_judge.specs.Propagation.{EndsOpen}
use Rattle.heesch_judge.proofs.Propagating.{open_told}
use Rattle.heesch_judge.proofs.propagation.ends_open.Goals as goal

pub returns : goal.returns
returns g c =
    let clauses = clauses_with (g.C.ClauseSource.listed c.args.formula.now).clauses (g.S.Steps.written c.args.steps.now).lines in
    subst (λ t. IsTrue t ↔ EndsOpen clauses) (sym c.is_some.ensures) (open_told (λ values. values.items) clauses c.in_ok-found.found c.in_ok-found.ensures.values)
