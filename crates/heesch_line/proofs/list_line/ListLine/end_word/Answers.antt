use Rattle.std.proofs.Common.{◌≡◌, false, [], ◌∷◌, ◌++◌, refl, sym, ap, subst, ◌∙◌}
use Rattle.heesch_text.specs.Fields.{cell_text}
use Rattle.heesch_line.specs.Scanning.{Scanned, HasCells, first_of}
use Rattle.heesch_line.proofs.Scans.{scanned_cells, cells_scanned, word_ends, word_is_none}
use Rattle.heesch_line.proofs.list_line.ListLine.end_word.Goals as goal

pub returns-in_ok-keep-in-Ok-clause-taken : goal.returns-in_ok-keep-in-Ok-clause-taken
returns-in_ok-keep-in-Ok-clause-taken c line h =
    let s = c.args.self.now in
    let read = scanned_cells line s c.requires h in
    let going : c.self.inside.faulty ≡ false = ap (λ (x : Scanned). x.faulty) c.self.view_is ∙ c.requires in
    let is : s.word ≡ cell_text c.in-Ok.cell = sym (ap (λ (x : Scanned). x.word) c.self.view_is) ∙ sym c.deref.ensures.value ∙ c.in-Ok.ensures.ok.1 in
    let kept : c.keep.new.cells ≡ first_of (read.all ++ c.in-Ok.cell ∷ []) = c.in_ok-keep-in-Ok.ensures.kept read.all (ap (λ (x : Scanned). x.cells) c.self.view_is ∙ read.first_are) in
    cells_scanned (line ++ 32 ∷ []) _ going
    (subst (λ w. HasCells (line ++ 32 ∷ []) c.keep.new.cells w) (sym c.clear.ensures.items) (word_ends line s.cells c.keep.new.cells s.word c.in-Ok.cell read c.in-Ok.ensures.ok.0 is kept))

pub returns-in-Err-NotALine-clause-taken : goal.returns-in-Err-NotALine-clause-taken
returns-in-Err-NotALine-clause-taken c line h =
    let s = c.args.self.now in
    let none = rw c.in-Err-NotALine.field-0-is at c.in-Err-NotALine.ensures.none in
    let word : c.deref.result.now ≡ s.word = c.deref.ensures.value ∙ ap (λ (x : Scanned). x.word) c.self.view_is in
    word_is_none line s.cells s.word (scanned_cells line s c.requires h) (λ d fits is. none refl d fits (word ∙ is))
