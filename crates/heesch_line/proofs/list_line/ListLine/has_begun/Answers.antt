use Rattle.std.proofs.Common.{◌≡◌, ◌≢◌, true, false, [], sym, ap, ◌∙◌, refl, inl}
use Rattle.std.proofs.lemmas.Bool.{false≢true}
use Rattle.heesch_line.specs.Scanning.{Scanned}
use Rattle.heesch_line.proofs.Scans.{scanned_none, scanned_cells, none_begun, begun}
use Rattle.heesch_line.proofs.list_line.ListLine.has_begun.Goals as goal

pub returns-then-self : goal.returns-then-self
returns-then-self c line h =
    let s = c.args.self.now in
    let none : s.faulty ≡ true = sym (ap (λ (x : Scanned). x.faulty) c.self.view_is) ∙ c.if-self.true in
    (λ _. none_begun line (scanned_none line s none h), λ _. refl)

pub returns-then-not-is_empty : goal.returns-then-not-is_empty
returns-then-not-is_empty c line h =
    let s = c.args.self.now in
    let going : s.faulty ≡ false = sym (ap (λ (x : Scanned). x.faulty) c.self.view_is) ∙ c.if-self.false in
    let some : s.cells ≢ [] = λ none. false≢true (c.if-not-is_empty.ensures.1 (ap (λ (x : Scanned). x.cells) c.self.view_is ∙ none)) in
    (λ _. begun line s.cells s.word (scanned_cells line s going h) (inl some), λ _. refl)
