use Rattle.std.proofs.Common.{◌≡◌, ◌∙◌, sym, subst}
use Rattle.heesch_cnf.specs.Lines.{FinalHolds}
use Rattle.std.proofs.lemmas.Result.{IfOk-weaker}
use Rattle.heesch_cdcl.proofs.Learnt.{Final-resolved}
use Rattle.heesch_cdcl.proofs.analysis.Resolution.refute.Goals as goal

pub returns-clause-last : goal.returns-clause-last
returns-clause-last c =
    let trail = c.args.conflict.now.trail in
    let m = c.resolve.new.self.marks in
    let hints = c.resolve.new.self.hints.items in
    let holds = Final-resolved trail m hints c.in_ok-resolve.ensures.valid c.requires.level c.in_ok-resolve.ensures.resolved in
    IfOk-weaker c.copy_of.result (λ copy. copy ≡ c.deref.result.now) (FinalHolds trail.clauses)
    (λ copy is. subst (FinalHolds trail.clauses) (sym (is ∙ c.deref.ensures.value)) holds) c.copy_of.ensures
