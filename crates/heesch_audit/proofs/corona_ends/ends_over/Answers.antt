use Rattle.std.proofs.Common.{ℕ, Bool, subst}
use Rattle.std.specs.Prelude.{◌↔◌, IfOk, IsTrue}
use Rattle.heesch_cert.specs.declared.limits.Limits.{Limits}
use Rattle.heesch_audit.specs.Ends.{EndsCoronas}
use Rattle.heesch_audit.proofs.corona_ends.ends_over.Goals as goal

pub returns : goal.returns
returns g c =
    let a = c.args in
    let found = c.in_ok-formula.formula in
    let ends = λ (l : Limits) (k : ℕ) (yes : Bool). IsTrue yes ↔ EndsCoronas a.end g.G.Grid.geometry l a.shape.now k a.proof.now in
    subst (λ (l : Limits). IfOk c.is_ended_by.result (ends l a.level)) c.in_ok-formula.ensures.limits
    (subst (λ (k : ℕ). IfOk c.is_ended_by.result (ends found.limits k)) c.in_ok-formula.ensures.level c.is_ended_by.ensures)
