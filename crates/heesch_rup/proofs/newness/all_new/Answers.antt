use Rattle.std.proofs.Common.{IfOk, IsTrue, ◌↔◌, subst}
use Rattle.heesch_cnf.specs.Flat.{Clauses}
use Rattle.heesch_cnf.specs.Lines.{LinesAreNew}
use Rattle.heesch_rup.proofs.newness.all_new.Goals as goal

pub returns : goal.returns
returns g c =
    subst (λ (x : Clauses). IfOk c.all_new_steps.result (λ yes. IsTrue yes ↔ LinesAreNew x.clauses c.args.log.now.lines)) c.in_ok-flat.ensures c.all_new_steps.ensures
