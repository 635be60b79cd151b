use Rattle.std.proofs.Common.{◌≤◌, ◌<◌, ◌-◌, [], length, sym, subst, arith}
use Rattle.std.proofs.lemmas.List.Elements.{All-weaker}
use Rattle.heesch_cnf.specs.Left.{FitsIn}
use Rattle.heesch_cnf.specs.Lines.{numbered}
use Rattle.heesch_cnf.proofs.source.FlatFormulaClauseSource.left.Goals as goal

pub left_in_packed-requires : goal.left_in_packed-requires
left_in_packed-requires c =
    let f = c.args.self.now in
    let clause = numbered f.clauses c.args.number in
    let form = c.vars-vars.ensures.form (c.args.number - 1) [] (omega (arith, c.requires.number.0, c.requires.number.1)) in
    subst (FitsIn c.args.values.now) (sym c.clause.ensures)
    (All-weaker (λ l. (1 ≤ l.var) × (l.var ≤ f.vars)) (λ l. l.var < length c.args.values.now) (λ l h. omega (arith, h.1, c.requires.room)) clause form.in_range)
