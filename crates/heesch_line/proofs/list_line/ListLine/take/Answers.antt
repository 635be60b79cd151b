use Rattle.std.proofs.Common.{◌≡◌, ◌≤◌, false, length, sym, ap, subst, ◌∙◌, arith}
use Rattle.heesch_line.specs.Scanning.{Scanned}
use Rattle.heesch_line.proofs.Scans.{scanned_cells, word_too_long}
use Rattle.heesch_line.proofs.list_line.ListLine.take.Goals as goal

pub returns-then-len-ge-WORD_MAX-clause-taken : goal.returns-then-len-ge-WORD_MAX-clause-taken
returns-then-len-ge-WORD_MAX-clause-taken c line h =
    let s = c.args.self.now in
    let going : s.faulty ≡ false = sym (ap (λ (x : Scanned). x.faulty) c.self.view_is) ∙ c.if-self.false in
    let full : 23 ≤ length s.word = let long : 23 ≤ length c.self.inside.word.items = omega (arith, c.len.ensures, c.if-len-ge-WORD_MAX.true) in
    subst (λ (x : Scanned). 23 ≤ length x.word) c.self.view_is long in
    word_too_long line s.cells s.word c.args.byte (scanned_cells line s going h) c.if-byte-eq32.false full
