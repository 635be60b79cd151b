use Rattle.std.proofs.Common.{◌+◌, ◌*◌, ◌<◌, [], List, All, get_or, length, sym, subst, arith}
use Rattle.heesch_cnf.specs.declared.literal.Lit.{Lit}
use Rattle.heesch_cnf.specs.Flat.{code_of}
use Rattle.heesch_rup.proofs.Rarest.{codes-lt}
use Rattle.heesch_rup.proofs.rarity.counts_of.Goals as goal

pub count_literals-requires : goal.count_literals-requires
count_literals-requires c =
    let f = c.args.clauses.now in
    let n = length c.deref_mut.result.now in
    let room : 2 * f.vars + 1 < n = omega arith in
    subst (λ (ls : List Lit). All (λ l. code_of l < n) ls) (sym c.clause.ensures)
    (codes-lt f.vars n (get_or f.clauses c.loop-index.index []) (c.vars.ensures.form c.loop-index.index [] (omega arith)) room)
