use Rattle.std.proofs.Common.{◌≡◌, map, Some, None, rules}
use Rattle.heesch_text.specs.Catalogue.{step_line}
use Rattle.heesch_outer_check.proofs.ProofLines.{is_ended, no_proof, no_step, unended}
use Rattle.heesch_outer_check.proofs.parts.proof_of.Goals as goal

pub returns-in-Empty : goal.returns-in-Empty
returns-in-Empty c = is_ended c.loop-line.steps (Some c.in-Empty.hints) c.in-Some.line _ _ c.args.lines.items c.ended.result c.in-Some.ensures.items c.in-Empty.is c.loop-line.invariant c.ended.ensures

pub returns-in-Spent : goal.returns-in-Spent
returns-in-Spent c = is_ended c.loop-line.steps None c.in-Some.line _ _ c.args.lines.items c.ended-in-Spent.result c.in-Some.ensures.items c.in-Spent.is c.loop-line.invariant c.ended-in-Spent.ensures

pub returns-in_default-line : goal.returns-in_default-line
returns-in_default-line c =
    no_proof c.loop-line.steps c.in-Some.line _ _ c.args.lines.items c.in-Some.ensures.items (no_step c.in-Some.line c.in_default-line.not-Learn c.in_default-line.not-Cut) c.in_default-line.not-Empty c.in_default-line.not-Spent c.loop-line.invariant

pub returns : goal.returns
returns c =
    let all : c.args.lines.items ≡ map step_line c.loop-line.steps = search rules in
    λ proof e. unended c.loop-line.steps proof c.args.lines.items all e
