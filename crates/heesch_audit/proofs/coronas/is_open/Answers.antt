use Rattle.std.proofs.Common.{Bool, sym, subst}
use Rattle.std.specs.Prelude.{◌↔◌, IfOk, IsTrue, Option}
use Rattle.std.proofs.lemmas.Result.{IfOk-weaker}
use Rattle.heesch_cert.specs.declared.entry.Layers.{Layers}
use Rattle.heesch_cert.specs.TrueEntry.{OpenShows}
use Rattle.heesch_logs.proofs.Equal.{through}
use Rattle.heesch_audit.proofs.UpTo.{spell_open}
use Rattle.heesch_audit.proofs.coronas.is_open.Goals as goal

pub returns-in-Some : goal.returns-in-Some
returns-in-Some g c =
    let geometry = g.G.Grid.geometry in
    let shape = c.args.shape.now in
    subst (λ (o : Option Layers). IfOk c.spell_coronas.result (λ (yes : Bool). IsTrue yes ↔ OpenShows geometry shape o)) (sym c.in-Some.is)
    (IfOk-weaker c.spell_coronas.result _ _ (λ yes h. through h (spell_open geometry shape c.in-Some.layers.layers)) c.spell_coronas.ensures)
