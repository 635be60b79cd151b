use Rattle.std.proofs.Common.{◌≡◌, ◌≢◌, [], sym, subst, ◌∙◌, rules}
use Rattle.std.proofs.lemmas.Bool.{true≢false}
use Rattle.heesch_given.specs.Given.{AreGiven}
use Rattle.heesch_given.specs.Steps.{IsWholeStop}
use Rattle.heesch_given.proofs.Reading.{all_ended, last_ends, end_stops, not_some}
use Rattle.heesch_given.proofs.lines.GivenLines.finish.Goals as goal
use Rattle.heesch_given.proofs.lines.GivenLines.finish.Goals.{then-has_begun+in_ok-end_line, else-has_begun}

pub returns-in_err-end_line-clause-stop : goal.returns-in_err-end_line-clause-stop
returns-in_err-end_line-clause-stop g c = λ before most few read.
    let some : read.begin.line ≢ [] = (c.has_begun.ensures read.begin.line read.scanned).0 c.if-has_begun.true in
    let told : IsWholeStop most g.G.Grid.geometry before c.in_err-end_line.field-0.0 =
    end_stops most g.G.Grid.geometry before c.args.self.shapes.items c.end_line.new.self.shapes.items c.args.self.line c.end_line.new.self.line c.in_err-end_line.field-0.0 read some few
    (c.in_err-end_line.ensures read.begin.line read.scanned) in
    search rules

pub returns-clause-ok : goal.returns-clause-ok
returns-clause-ok g c = λ before most few read.
    let line = read.begin.line in
    let begun = c.has_begun.ensures line read.scanned in
    elim c.if-has_begun.branch [
      | then-has_begun+in_ok-end_line w ↦
          subst (λ x. AreGiven most g.G.Grid.geometry before x.shapes.items) (sym w.self-is)
          (last_ends most g.G.Grid.geometry before c.args.self.shapes.items w.end_line.new.self.shapes.items c.args.self.line read (begun.0 w.if-has_begun.true) (w.in_ok-end_line.ensures line read.scanned).0 few)
      | else-has_begun w ↦
          let none : line ≡ [] = not_some line (λ some. true≢false (sym (begun.1 some) ∙ w.if-has_begun.false)) in
          subst (λ x. AreGiven most g.G.Grid.geometry before x.shapes.items) (sym w.self-is) (all_ended most g.G.Grid.geometry before c.args.self.shapes.items c.args.self.line read none few)
    ]

pub end_line-requires : goal.end_line-requires
end_line-requires g c = (c.requires.1.begin.line, c.requires.1.scanned)
