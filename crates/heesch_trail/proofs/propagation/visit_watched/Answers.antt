use Rattle.std.proofs.Common.{arith}
use Rattle.heesch_trail.proofs.Guards.{Code-fits, Var-fits}
use Rattle.heesch_trail.proofs.Rewatch.{GoesOn-same, GoesOn-replace, Unwatched-replaced, moving}
use Rattle.heesch_trail.proofs.propagation.visit_watched.Goals as goal

pub replace-requires-clause-one : goal.replace-requires-clause-one
replace-requires-clause-one c =
    let moves = moving c.args.assigned.now c.args.watches.now c.args.index c.pair.result c.in-Some.pair c.args.lit c.beside.result c.in-Some-beside.beside c.other.result c.in-Some-other.one c.pair.ensures c.in-Some.is c.beside.ensures c.in-Some-beside.is c.other.ensures.other c.in-Some-other.is in
    Code-fits c.args.assigned.now.vars _ c.in-Some-other.one (Var-fits c.args.assigned.now c.args.index c.in-Some-other.one c.vars.ensures.valid.clauses (c.requires.whole.within c.args.index c.in-Some.pair moves.pair_is) moves.other.0) c.requires.whole.room

pub returns-in_err-replace-in-Some-other-clause-goes_on : goal.returns-in_err-replace-in-Some-other-clause-goes_on
returns-in_err-replace-in-Some-other-clause-goes_on c =
    GoesOn-same c.args.assigned.now c.args.watches.now c.replace.new.self c.vars.ensures.valid c.requires.whole c.in_err-replace-in-Some-other.ensures.err

pub returns-in_ok-replace-in-Some-other-clause-goes_on : goal.returns-in_ok-replace-in-Some-other-clause-goes_on
returns-in_ok-replace-in-Some-other-clause-goes_on c =
    let moves = moving c.args.assigned.now c.args.watches.now c.args.index c.pair.result c.in-Some.pair c.args.lit c.beside.result c.in-Some-beside.beside c.other.result c.in-Some-other.one c.pair.ensures c.in-Some.is c.beside.ensures c.in-Some-beside.is c.other.ensures.other c.in-Some-other.is in
    GoesOn-replace c.args.assigned.now c.args.watches.now c.replace.new.self c.args.index c.in-Some.pair c.args.lit c.in-Some-other.one c.in-Some-beside.beside c.vars.ensures.valid c.requires.whole moves
    (c.in_ok-replace-in-Some-other.ensures.pairs, c.in_ok-replace-in-Some-other.ensures.pushed)

pub returns-in_ok-replace-in-Some-other-clause-found : goal.returns-in_ok-replace-in-Some-other-clause-found
returns-in_ok-replace-in-Some-other-clause-found c =
    let moves = moving c.args.assigned.now c.args.watches.now c.args.index c.pair.result c.in-Some.pair c.args.lit c.beside.result c.in-Some-beside.beside c.other.result c.in-Some-other.one c.pair.ensures c.in-Some.is c.beside.ensures c.in-Some-beside.is c.other.ensures.other c.in-Some-other.is in
    let lt = c.requires.whole.within c.args.index c.in-Some.pair moves.pair_is in
    Unwatched-replaced c.args.assigned.now c.args.watches.now c.replace.new.self c.args.index c.in-Some.pair c.args.lit c.in-Some-other.one c.in-Some-beside.beside c.requires.whole moves c.requires.turned c.in_ok-replace-in-Some-other.ensures.pairs
    (omega (arith, lt, c.requires.whole.places))
