use Rattle.std.proofs.Common.{◌-◌, ap, arith, length}
use Rattle.std.specs.List.{AllByRecursion}
use Rattle.heesch_check.specs.Judging.{IsFit}
use Rattle.heesch_check.specs.Reading.{MayGather, StopsInTime}
use Rattle.heesch_check.proofs.Behind.{gathered_fits, gathers_none, may_gather_on, may_go_on, stops_before, stops_beside}
use Rattle.heesch_check.proofs.ahead.round_from.Given as given
use Rattle.heesch_check.proofs.ahead.round_from.Goals as goal
use Rattle.heesch_check.proofs.ahead.round_from.Goals.{After-audit_and_gather-audits, After-gather, In_ok-reading}

-- ---- the items of the round are gathered

-- reading stopped in time
stopped : (g : given.Over) (c : After-gather g) → StopsInTime (g.R.Source.left c.args.source.now) (g.R.Source.left c.gather.new.source) c.args.stream.now c.args.at_hand.items c.args.at_hand.reading c.args.most
stopped g c = record {
  stops = λ first found h. stops_before first (g.R.Source.left c.args.source.now) (g.R.Source.left c.gather.new.source) found c.args.at_hand.items c.enough_for_round-enough.result c.args.most c.enough_for_round-enough.ensures.few (c.gather.ensures.no_further first found h);
}

-- the items are fit
fit : (g : given.Over) (c : In_ok-reading g) → AllByRecursion IsFit c.gather.new.items
fit g c =
    gathered_fits (g.R.Source.left c.args.source.now) (g.R.Source.left c.gather.new.source) c.args.stream.now c.gather.new.stream c.args.at_hand.items c.gather.new.items c.enough_for_round-enough.result c.args.at_hand.reading c.in_ok-reading.reading c.requires.may c.in_ok-reading.ensures.ok

pub returns-in_err-reading-clause-no_further : goal.returns-in_err-reading-clause-no_further
returns-in_err-reading-clause-no_further g c = stopped g (goal.at.returns-in_err-reading-clause-no_further g c).After-gather

-- ---- nothing is read beside the audits

pub audits_between-audited-requires-clause-fit : goal.audits_between-audited-requires-clause-fit
audits_between-audited-requires-clause-fit g c κs within = rw c.as_slice-front.ensures (fit g (goal.at.audits_between-audited-requires-clause-fit g c).In_ok-reading)

pub returns-in_err-audits-clause-no_further : goal.returns-in_err-audits-clause-no_further
returns-in_err-audits-clause-no_further g c = stopped g (goal.at.returns-in_err-audits-clause-no_further g c).After-gather

pub returns-then-not-goes_on_beside-clause-gathers : goal.returns-then-not-goes_on_beside-clause-gathers
returns-then-not-goes_on_beside-clause-gathers g c = record {
  middle = g.R.Source.left c.gather.new.source;
  between = c.gather.new.stream;
  enough = c.enough_for_round-enough.result;
  some = c.enough_for_round-enough.ensures.some;
  gathers = c.in_ok-reading.ensures.ok;
  left = 0;
  ahead = gathers_none (g.R.Source.left c.gather.new.source) c.gather.new.stream c.new-then-not-goes_on_beside.result c.in_ok-reading.reading c.new-then-not-goes_on_beside.ensures;
}

pub returns-then-not-goes_on_beside-clause-no_further : goal.returns-then-not-goes_on_beside-clause-no_further
returns-then-not-goes_on_beside-clause-no_further g c = stopped g (goal.at.returns-then-not-goes_on_beside-clause-no_further g c).After-gather

-- ---- items of the next round are read beside the audits

pub audit_and_gather-audits-requires-clause-fit : goal.audit_and_gather-audits-requires-clause-fit
audit_and_gather-audits-requires-clause-fit g c κs within = rw c.as_slice-front.ensures (fit g (goal.at.audit_and_gather-audits-requires-clause-fit g c).In_ok-reading)

pub audit_and_gather-audits-requires-clause-may : goal.audit_and_gather-audits-requires-clause-may
audit_and_gather-audits-requires-clause-may g c κs within =
    let left = g.R.Source.left in
    let on : MayGather (left c.gather.new.source) c.gather.new.stream c.gather.new.items c.in_ok-reading.reading = may_gather_on (left c.args.source.now) (left c.gather.new.source) c.args.stream.now c.gather.new.stream c.args.at_hand.items c.gather.new.items c.enough_for_round-enough.result c.args.at_hand.reading c.in_ok-reading.reading c.requires.may c.in_ok-reading.ensures.ok in
    may_go_on (left c.gather.new.source) c.gather.new.items c.gather.new.stream c.in_ok-reading.reading on (c.goes_on_beside.ensures.more c.if-not-goes_on_beside.false)

-- reading stops in time, whatever becomes of what was gathered beside the audits
stops_in_time : (g : given.Over) (c : After-audit_and_gather-audits g) → StopsInTime (g.R.Source.left c.args.source.now) (g.R.Source.left c.audit_and_gather-audits.new.source) c.args.stream.now c.args.at_hand.items c.args.at_hand.reading c.args.most
stops_in_time g c =
    let left = g.R.Source.left in
    let front = c.as_slice-front.result.now in
    let few = c.goes_on_beside.ensures.few c.if-not-goes_on_beside.false in
    let same = ap length c.as_slice-front.ensures in
    stops_beside (left c.args.source.now) (left c.gather.new.source) (left c.audit_and_gather-audits.new.source) c.args.stream.now c.gather.new.stream c.args.at_hand.items c.gather.new.items c.enough_for_round-enough.result c.args.most (c.args.most - length front) c.args.at_hand.reading c.in_ok-reading.reading
    (c.goes_on_beside.ensures.more c.if-not-goes_on_beside.false) c.enough_for_round-enough.ensures.few (omega (arith, few, same)) c.in_ok-reading.ensures.ok c.gather.ensures.no_further c.audit_and_gather-audits.ensures.no_further

pub returns-in_err-audits-2-clause-no_further : goal.returns-in_err-audits-2-clause-no_further
returns-in_err-audits-2-clause-no_further g c = stops_in_time g (goal.at.returns-in_err-audits-2-clause-no_further g c).After-audit_and_gather-audits

pub returns-in_err-ahead-clause-no_further : goal.returns-in_err-ahead-clause-no_further
returns-in_err-ahead-clause-no_further g c = stops_in_time g (goal.at.returns-in_err-ahead-clause-no_further g c).After-audit_and_gather-audits

pub returns-clause-no_further : goal.returns-clause-no_further
returns-clause-no_further g c = stops_in_time g (goal.at.returns-clause-no_further g c).After-audit_and_gather-audits
