use Rattle.std.proofs.Common.{◌≡◌, [], ◌∷◌, ◌++◌, length, length-append, ap, sym, subst, ◌∙◌, arith, rules}
use Rattle.heesch_io.specs.Pieces.{pieces, AreEnds}
use Rattle.heesch_io.proofs.Pieces.{pieces-push, AreEnds-push}
use Rattle.heesch_index.proofs.sets.CellSets.push.Goals as goal

pub invariant_of-self-else-is_err-2 : goal.invariant_of-self-else-is_err-2
invariant_of-self-else-is_err-2 c =
    let t = c.self.inside in
    let cells : c.extend_from_slice.new.self.items ≡ t.cells.items ++ c.args.cells.now = search rules in
    let ends : c.push.new.self.items ≡ t.ends.items ++ c.len.result ∷ [] = search rules in
    let size : c.len.result ≡ length c.extend_from_slice.new.self.items = search rules in
    subst (λ es. AreEnds 0 es (length c.extend_from_slice.new.self.items)) (sym ends)
    (subst (AreEnds 0 (t.ends.items ++ c.len.result ∷ [])) size
    (AreEnds-push 0 t.ends.items (length t.cells.items) c.len.result c.self.invariant (omega (arith, size, ap length cells, length-append t.cells.items c.args.cells.now))))

pub returns-clause-ok : goal.returns-clause-ok
returns-clause-ok c =
    let t = c.self.inside in
    let cells : c.extend_from_slice.new.self.items ≡ t.cells.items ++ c.args.cells.now = search rules in
    let ends : c.push.new.self.items ≡ t.ends.items ++ c.len.result ∷ [] = search rules in
    let size : c.len.result ≡ length c.extend_from_slice.new.self.items = search rules in
    ap (λ ls. pieces ls 0 c.push.new.self.items) cells
    ∙ ap (pieces (t.cells.items ++ c.args.cells.now) 0) ends
    ∙ pieces-push t.cells.items c.args.cells.now 0 t.ends.items c.len.result c.self.invariant (size ∙ ap length cells ∙ length-append t.cells.items c.args.cells.now)
    ∙ ap (λ cs. cs ++ c.args.cells.now ∷ []) c.self.view_is
