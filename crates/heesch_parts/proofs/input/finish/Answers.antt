use Rattle.std.proofs.Common.{rules}
use Rattle.heesch_line.specs.Stops.{stop_of}
use Rattle.heesch_parts.specs.Inputs.{IsWholeInputStop}
use Rattle.heesch_parts.proofs.Going.{ends_joined, ends_stopped}
use Rattle.heesch_parts.proofs.input.finish.Goals as goal

pub returns-in_err-finish-clause-stop : goal.returns-in_err-finish-clause-stop
returns-in_err-finish-clause-stop c = λ before fed.
    let told : IsWholeInputStop before (stop_of c.in_err-finish.field-0.0) = ends_stopped before c.in_err-finish.field-0.0 (c.in_err-finish.ensures.finished c.requires before c.args.items fed).0 in
    search rules

pub returns-clause-ok : goal.returns-clause-ok
returns-clause-ok c = λ before fed. ends_joined before c.args.items c.finish.new.items (c.in_ok-finish.ensures.finished c.requires before c.args.items fed)
