use Rattle.heesch_trail.proofs.Guards.{Code-fits, Var-fits}
use Rattle.heesch_trail.proofs.Rewatch.{GoesOn-watch, GoesOn-wanting}
use Rattle.heesch_trail.proofs.propagation.read_watched.Goals as goal

pub watch-requires-clause-one : goal.watch-requires-clause-one
watch-requires-clause-one c =
    let t = c.args.assigned.now in
    let left = c.in-Two.ensures.reading.0 in
    Code-fits t.vars _ c.in-Two.pair.one (Var-fits t c.args.index c.in-Two.pair.one c.in-Two.ensures.valid.clauses c.requires.within left.has_one) c.requires.whole.room

pub watch-requires-clause-other : goal.watch-requires-clause-other
watch-requires-clause-other c =
    let t = c.args.assigned.now in
    let left = c.in-Two.ensures.reading.0 in
    Code-fits t.vars _ c.in-Two.pair.other (Var-fits t c.args.index c.in-Two.pair.other c.in-Two.ensures.valid.clauses c.requires.within left.has_other) c.requires.whole.room

pub returns-in_err-watch-in-Two-clause-goes_on : goal.returns-in_err-watch-in-Two-clause-goes_on
returns-in_err-watch-in-Two-clause-goes_on c =
    let on = c.in_err-watch-in-Two.ensures in
    GoesOn-wanting c.args.assigned.now c.args.watches.now c.watch.new.self c.args.index c.in-Two.pair c.in-Two.binary c.in-Two.ensures.valid c.requires.whole c.requires.within c.in-Two.ensures.reading.0 c.in-Two.ensures.reading.1
    on.err on.room on.kept on.more

pub returns-in_ok-watch-in-Two-clause-goes_on : goal.returns-in_ok-watch-in-Two-clause-goes_on
returns-in_ok-watch-in-Two-clause-goes_on c =
    let on = c.in_ok-watch-in-Two.ensures in
    GoesOn-watch c.args.assigned.now c.args.watches.now c.watch.new.self c.args.index c.in-Two.pair c.in-Two.binary c.in-Two.ensures.valid c.requires.whole c.requires.within c.in-Two.ensures.reading.0 c.in-Two.ensures.reading.1
    on.ok on.room on.kept on.more on.one_there on.other_there
