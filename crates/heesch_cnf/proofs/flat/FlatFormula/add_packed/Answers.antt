use Rattle.std.proofs.Common.{rules}
use Rattle.heesch_cnf.proofs.FlatLemmas.{flat-more, seen-more}
use Rattle.heesch_cnf.proofs.flat.FlatFormula.add_packed.Goals as goal

pub invariant_of-self-else-is_err : goal.invariant_of-self-else-is_err
invariant_of-self-else-is_err c =
    flat-more c.self.inside.vars c.self.inside.literals.items c.self.inside.ends.items c.self.invariant c.args.clause.now c.extend_from_slice.new.self.items c.push.new.self.items c.len-end.result (search rules) (search rules) (search rules) _ c.self.view_is c.requires.form c.requires.room

pub returns-clause-ok : goal.returns-clause-ok
returns-clause-ok c =
    seen-more c.self.inside.vars c.self.inside.literals.items c.self.inside.ends.items c.self.invariant c.args.clause.now c.extend_from_slice.new.self.items c.push.new.self.items c.len-end.result (search rules) (search rules) (search rules) _ c.self.view_is
