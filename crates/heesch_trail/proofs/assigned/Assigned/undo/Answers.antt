use Rattle.std.proofs.Common.{set, sym, subst, ap, ◌∙◌, arith}
use Rattle.heesch_cnf.specs.Flat.{code_of}
use Rattle.heesch_trail.specs.declared.truth.Truth.TheVariants.{Open}
use Rattle.heesch_trail.specs.Inner.{IsInner}
use Rattle.heesch_trail.proofs.Held.{IsInner-pop, Last-fits}
use Rattle.heesch_trail.proofs.assigned.Assigned.undo.Goals as goal

pub index_mut-requires : goal.index_mut-requires
index_mut-requires c =
    let t = c.self.inside in
    let inner = subst (IsInner t.formula.vars t.formula.clauses t.values.items t.levels.items t.reasons.items) c.in-Some.ensures.items c.self.invariant in
    let fits = Last-fits t.formula.vars t.formula.clauses t.values.items t.levels.items t.reasons.items c.pop.new.self.items c.in-Some.lit inner in
    omega (arith, c.code.ensures, fits.0, t.values.ok)

pub index_mut-requires-in-Some : goal.index_mut-requires-in-Some
index_mut-requires-in-Some c =
    let t = c.self.inside in
    let inner = subst (IsInner t.formula.vars t.formula.clauses t.values.items t.levels.items t.reasons.items) c.in-Some.ensures.items c.self.invariant in
    let fits = Last-fits t.formula.vars t.formula.clauses t.values.items t.levels.items t.reasons.items c.pop.new.self.items c.in-Some.lit inner in
    omega (arith, c.code-in-Some.ensures, ap code_of c.opposite.ensures, fits.1, t.values.ok)

pub invariant_of-self : goal.invariant_of-self
invariant_of-self c =
    let t = c.self.inside in
    let left = c.pop.new.self.items in
    let inner = subst (IsInner t.formula.vars t.formula.clauses t.values.items t.levels.items t.reasons.items) c.in-Some.ensures.items c.self.invariant in
    subst (λ i. IsInner t.formula.vars t.formula.clauses (set (set t.values.items i Open) c.code-in-Some.result Open) t.levels.items t.reasons.items left) (sym c.code.ensures)
    (subst (λ i. IsInner t.formula.vars t.formula.clauses (set (set t.values.items (code_of c.in-Some.lit) Open) i Open) t.levels.items t.reasons.items left) (sym (c.code-in-Some.ensures ∙ ap code_of c.opposite.ensures))
    (IsInner-pop t.formula.vars t.formula.clauses t.values.items t.levels.items t.reasons.items left c.in-Some.lit inner))

pub returns-in-Some-clause-valid : goal.returns-in-Some-clause-valid
returns-in-Some-clause-valid c = let inner = invariant_of-self c in inner.valid
