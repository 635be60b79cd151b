use Rattle.std.proofs.Common.{List, ℕ, map, sym, subst, true≢false}
use Rattle.heesch_cnf.specs.Clauses.{IsNew}
use Rattle.heesch_cnf.specs.Literals.{held}
use Rattle.heesch_encode.specs.Literals.{plus_all}
use Rattle.heesch_numbers.specs.Common.{AllRemain}
use Rattle.heesch_numbers.proofs.Remaining.{when_true, when_false}
use Rattle.heesch_torus.specs.Variables.{sets_of}
use Rattle.heesch_tori.specs.TorusView.{TorusView}
use Rattle.heesch_tori.proofs.Clauses.{clauses_new, new_remain, new_apart}
use Rattle.heesch_tori.proofs.source.TorusSourceNewnessSource.is_new.Goals as goal

pub returns-then-not-lists_remain : goal.returns-then-not-lists_remain
returns-then-not-lists_remain g c =
    let v = held c.args.values.now in
    let clause = c.args.clause.now in
    let fails = when_false c.lists_remain.result _ _ c.if-not-lists_remain.true c.lists_remain.ensures in (
      λ t. absurd (true≢false (sym t)),
      λ new.
          let here = subst (λ (s : TorusView). IsNew s.formula.clauses c.args.clause.now) (sym c.self.view_is) new in
          absurd (fails (subst (λ (ls : List (List ℕ)). AllRemain (held c.args.values.now) (map plus_all ls)) (sym c.lists.ensures.lists)
          (new_remain (sets_of c.self.inside.table.variables) c.self.inside.table.lists c.args.self.now.formula.vars clause c.requires.form v c.requires.refuted here))),
    )

pub returns : goal.returns
returns g c =
    let v = held c.args.values.now in
    let clause = c.args.clause.now in
    let remain = when_true c.lists_remain.result _ _ c.if-not-lists_remain.false c.lists_remain.ensures in
    let all = subst (λ (ls : List (List ℕ)). AllRemain (held c.args.values.now) (map plus_all ls)) c.lists.ensures.lists remain in (
      λ t. subst (λ (s : TorusView). IsNew s.formula.clauses c.args.clause.now) c.self.view_is
          (clauses_new (sets_of c.self.inside.table.variables) c.self.inside.table.lists c.args.self.now.formula.vars clause c.requires.form v c.requires.refuted all (c.are_apart.ensures.0 t)),
      λ new.
          let here = subst (λ (s : TorusView). IsNew s.formula.clauses c.args.clause.now) (sym c.self.view_is) new in
          c.are_apart.ensures.1 (new_apart (sets_of c.self.inside.table.variables) c.self.inside.table.lists c.args.self.now.formula.vars clause c.requires.form v c.requires.refuted here),
    )
