use Rattle.std.proofs.Common.{[], sym, ap, subst, arith}
use Rattle.heesch_cnf.specs.declared.log.Line.{Line}
use Rattle.heesch_cnf.specs.declared.log.Line.TheVariants.{Given}
use Rattle.heesch_cnf.specs.Clauses.{IsClause}
use Rattle.heesch_cnf.specs.Flat.{Clauses}
use Rattle.heesch_rup.proofs.Forms.{added_more, added_all}
use Rattle.heesch_rup.proofs.added.clauses_of.Goals as goal

pub add_clause-requires : goal.add_clause-requires
add_clause-requires g c =
    let d : Line = Given [] in
    let vars = ap (λ (x : Clauses). x.vars) c.loop-i.invariant in
    let form = c.requires.form c.loop-i.i d (omega arith) in
    subst (λ n. IsClause n c.clause.result.now) (sym vars) (subst (IsClause c.args.vars) (sym (c.clause.ensures d)) form)

pub loop-i-preserved : goal.loop-i-preserved
loop-i-preserved g c =
    let lines = (g.S.Steps.written c.args.steps.now).lines in
    added_more c.args.vars lines c.loop-i.i c.clause.result.now c.loop-i.added c.add_clause.new.added (omega arith) c.clause.ensures c.loop-i.invariant c.in_ok-add_clause.ensures

pub returns : goal.returns
returns g c =
    let lines = (g.S.Steps.written c.args.steps.now).lines in
    added_all c.args.vars lines c.loop-i.i c.loop-i.added (omega arith) c.loop-i.invariant
