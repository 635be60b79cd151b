use Rattle.std.proofs.Common.{◌∙◌, sym, eqb-true, eq-eqb}
use Rattle.heesch_check.proofs.Places.{listed_all}
use Rattle.heesch_check.proofs.judging.Judge.are_all.Goals as goal

pub returns-in-Some : goal.returns-in-Some
returns-in-Some g c =
    let self = c.args.self.now in
    let all = listed_all self.header self.header.subject self.shapes c.in-Some.shapes c.requires c.in-Some.is self.entries in
    (λ e. all.0 (sym c.len.ensures ∙ eqb-true c.len.result self.entries e), λ a. eq-eqb c.len.result self.entries (c.len.ensures ∙ all.1 a))
