use Rattle.std.proofs.Common.{◌<◌, ◌≤◌, sym, ap, ◌∙◌, arith}
use Rattle.std.proofs.lemmas.List.Elements.{All-weaker}
use Rattle.heesch_trail.specs.declared.step.Step.{Step}
use Rattle.heesch_trail.specs.State.{level_of}
use Rattle.heesch_trail.proofs.Undo.{IsBack-undo, same_but_steps, up_to-all, levels-below_whole}
use Rattle.heesch_trail.proofs.assigned.Assigned.back_to.Goals as goal

pub loop-self-preserved : goal.loop-self-preserved
loop-self-preserved c =
    let t = c.loop-self.self in
    let above : c.args.level < level_of t.steps = omega (arith, c.level.ensures.level) in
    let back = IsBack-undo c.args.level t c.undo.new.self c.loop-self.invariant.valid above c.undo.ensures.undone in
    record {
      valid = c.undo.ensures.valid;
      same = same_but_steps c.args.self.now t c.undo.new.self _ c.loop-self.invariant.same c.undo.ensures.undone;
      kept = back.kept ∙ c.loop-self.invariant.kept;
      high = back.high;
    }

pub returns-clause-back : goal.returns-clause-back
returns-clause-back c =
    let t = c.loop-self.self in
    let low : level_of t.steps ≤ c.args.level = omega (arith, c.level.ensures.level) in
    let all = All-weaker (λ (s : Step). s.level ≤ level_of t.steps) (λ (s : Step). s.level ≤ c.args.level) (λ s h. omega arith) t.steps (levels-below_whole t.vars t.clauses t.steps c.loop-self.invariant.valid.steps) in
    c.loop-self.invariant.same ∙ ap (λ steps. record c.args.self.now { steps = steps }) (sym (up_to-all c.args.level t.steps all) ∙ c.loop-self.invariant.kept)
