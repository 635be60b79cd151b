use Rattle.std.proofs.Common.{◌≡◌, ◌+◌, ◌-◌, ◌<◌, ◌++◌, List, length, All, sym, ◌∙◌, subst, arith}
use Rattle.heesch_cnf.specs.declared.literal.Lit.{Lit}
use Rattle.heesch_rup.proofs.Hinted.{have_places_numbered, numbered_behind}
use Rattle.heesch_rup.proofs.hints.left_at.Goals as goal

pub left_in_packed-requires : goal.left_in_packed-requires
left_in_packed-requires g c =
    let f = g.C.ClauseSource.listed c.args.formula.now in
    let more = c.args.added.now.clauses in
    let n = length c.args.values.now in
    let k = c.args.number - 1 - c.count-count.result in
    let at : c.args.number - 1 ≡ length f.clauses + k = omega (arith, c.count-count.ensures.count, c.if-index-count.false) in
    subst (λ (ls : List Lit). All (λ l. l.var < n) ls) (sym (c.clause.ensures ∙ numbered_behind f.clauses more c.args.number k at))
    (have_places_numbered f.vars n (f.clauses ++ more) c.args.number c.requires.room c.requires.form c.requires.number)
