use Rattle.std.proofs.Common.{IfOk, IsTrue, ◌↔◌, subst}
use Rattle.heesch_cnf.specs.Flat.{Clauses}
use Rattle.heesch_cnf.specs.Lines.{LinesAreNew}
use Rattle.heesch_rup.proofs.newness.all_new_steps.Goals as goal

pub returns : goal.returns
returns g c =
    subst (λ (x : Clauses). IfOk c.are_new.result (λ yes. IsTrue yes ↔ LinesAreNew x.clauses (g.S.Steps.written c.args.steps.now).lines)) c.in_ok-indexed.ensures c.are_new.ensures
