use Rattle.std.proofs.Common.{◌≡◌, ◌≢◌, true, false, [], ◌∷◌, ◌++◌, refl, sym, ap, subst, ◌∙◌}
use Rattle.std.proofs.lemmas.Bool.{false≢true}
use Rattle.heesch_text.specs.Fields.{cell_text}
use Rattle.heesch_line.specs.Scanning.{Scanned, IsLineOf, first_of}
use Rattle.heesch_line.proofs.Scans.{scanned_none, scanned_cells, none_at_all, empty_line, line_ends, line_is_none, not_some}
use Rattle.heesch_line.proofs.list_line.ListLine.finish.Goals as goal

pub returns-then-faulty-clause-none : goal.returns-then-faulty-clause-none
returns-then-faulty-clause-none c line h =
    let s = c.args.self in
    let none : s.faulty ≡ true = sym (ap (λ (x : Scanned). x.faulty) c.self.view_is) ∙ c.if-faulty.true in
    λ _. none_at_all line (scanned_none line s none h)

pub returns-then-not-begun-clause-ok : goal.returns-then-not-begun-clause-ok
returns-then-not-begun-clause-ok c line h =
    let s = c.args.self in
    let going : s.faulty ≡ false = sym (ap (λ (x : Scanned). x.faulty) c.self.view_is) ∙ c.if-faulty.false in
    let none : line ≡ [] = not_some line (λ some. false≢true ((c.if-not-begun.ensures line h).1 some)) in
    subst (IsLineOf line) (sym (ap (λ (x : Scanned). x.cells) c.self.view_is)) (empty_line line s.cells s.word (scanned_cells line s going h) none)

pub returns-in-Ok-clause-ok : goal.returns-in-Ok-clause-ok
returns-in-Ok-clause-ok c line h =
    let s = c.args.self in
    let going : s.faulty ≡ false = sym (ap (λ (x : Scanned). x.faulty) c.self.view_is) ∙ c.if-faulty.false in
    let read = scanned_cells line s going h in
    let is : s.word ≡ cell_text c.in-Ok.last = sym (ap (λ (x : Scanned). x.word) c.self.view_is) ∙ sym c.deref.ensures.value ∙ c.in-Ok.ensures.ok.1 in
    let kept : c.keep.new.cells ≡ first_of (read.all ++ c.in-Ok.last ∷ []) = c.in_ok-keep-in-Ok.ensures.kept read.all (ap (λ (x : Scanned). x.cells) c.self.view_is ∙ read.first_are) in
    line_ends line s.cells c.keep.new.cells s.word c.in-Ok.last read c.in-Ok.ensures.ok.0 is kept

pub returns-in-Err-NotALine-clause-none : goal.returns-in-Err-NotALine-clause-none
returns-in-Err-NotALine-clause-none c line h =
    let s = c.args.self in
    let going : s.faulty ≡ false = sym (ap (λ (x : Scanned). x.faulty) c.self.view_is) ∙ c.if-faulty.false in
    let none = rw c.in-Err-NotALine.field-0-is at c.in-Err-NotALine.ensures.none in
    let word : c.deref.result.now ≡ s.word = c.deref.ensures.value ∙ ap (λ (x : Scanned). x.word) c.self.view_is in
    let some : line ≢ [] = (c.if-not-begun.ensures line h).0 refl in
    λ _. line_is_none line s.cells s.word (scanned_cells line s going h) some (λ d fits is. none refl d fits (word ∙ is))
