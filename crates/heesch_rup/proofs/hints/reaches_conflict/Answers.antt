use Rattle.std.proofs.Common.{◌++◌, vec_len, get_or, arith}
use Rattle.heesch_cnf.specs.Literals.{held}
use Rattle.heesch_cnf.specs.Lines.{numbered}
use Rattle.heesch_rup.proofs.Hinted.{have_places_numbered, has_place}
use Rattle.heesch_rup.proofs.hints.reaches_conflict.Goals as goal

pub assign-requires : goal.assign-requires
assign-requires g c =
    let f = g.C.ClauseSource.listed c.args.formula.now in
    let n = vec_len c.loop-i.assignment.values in
    let clauses = f.clauses ++ c.args.added.now.clauses in
    let hint = get_or c.args.hints.now c.loop-i.i 0 in
    let fits = have_places_numbered f.vars n clauses hint (omega arith) c.requires.form (c.requires.numbers c.loop-i.i 0 c.loop-i-test.true) in
    has_place n (held c.loop-i.assignment.values.items) (numbered clauses hint) c.in-Unit.lit fits c.in-Unit.ensures.0
