use Rattle.std.proofs.Common.{◌≡◌, ◌∙◌, Bool, length, sym}
use Rattle.std.specs.Prelude.{◌↔◌, IsTrue}
use Rattle.std.proofs.lemmas.Result.{IfOk-weaker}
use Rattle.heesch_audit.specs.Spelling.{SpellCoronas}
use Rattle.heesch_audit.proofs.UpTo.{spell_free}
use Rattle.heesch_audit.proofs.audited.Audited.free_holds.Goals as goal

pub returns-else-len-count : goal.returns-else-len-count
returns-else-len-count g c =
    let geometry = g.G.Grid.geometry in
    let shape = c.args.self.now.shape.now in
    let layers = c.in-Search.free.layers in
    let long : length layers ≡ c.first_number-count.result = sym c.len.ensures ∙ c.if-len-count.false in
    let both = spell_free geometry shape layers c.first_number-count.result long in
    rw c.in-Search.is
    (IfOk-weaker c.spell_coronas.result (λ (yes : Bool). IsTrue yes ↔ SpellCoronas geometry shape c.first_number-count.result layers) _
    (λ yes h. ((λ t. (long ∙ c.first_number-count.ensures, both.0 (h.0 t))), (λ s. h.1 (both.1 s.1)))) c.spell_coronas.ensures)
