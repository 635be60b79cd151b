use Rattle.std.proofs.Common.{◌≡◌, Err, rules}
use Rattle.heesch_line.specs.declared.fault.LineFault.TheVariants.{NotALine}
use Rattle.heesch_outer_check.proofs.Fronts.{none_spelled, none_unended}
use Rattle.heesch_outer_check.proofs.lines.front_lines.Goals as goal

pub returns-in-Err-NotALine : goal.returns-in-Err-NotALine
returns-in-Err-NotALine c =
    let fault : c.read_line.result ≡ Err NotALine = search rules in
    record {
      text = c.loop-words.invariant.text;
      forms = c.loop-words.invariant.forms;
      no_more = none_spelled c.loop-words.rest.now c.in-Some.words.now c.in-Some.behind.now c.in-Some.ensures.0 c.in-Some.ensures.1 (c.read_line.ensures.not_a_line fault);
    }

pub returns : goal.returns
returns c = record { text = c.loop-words.invariant.text; forms = c.loop-words.invariant.forms; no_more = none_unended c.loop-words.rest.now c.in_default.ensures }
