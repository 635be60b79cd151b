use Rattle.std.proofs.Common.{◌≡◌, ◌+◌, ◌%◌, ◌/◌, ◌∷◌, length, sym, ap, ◌∙◌, arith, rules, eq-eqb}
use Rattle.heesch_lattice.specs.Reduction.{lattice}
use Rattle.heesch_lattice.specs.Listed.{triples_from}
use Rattle.heesch_lattice.proofs.Listing.{step_yields}
use Rattle.heesch_lattice.proofs.rest.TriplesIterator.next.Goals as goal

pub returns-clause-steps : goal.returns-clause-steps
returns-clause-steps c =
    let area = c.self.inside.area in
    let p = c.settled-p.result.0 in
    let both = c.settled-p.ensures.found (omega (arith, c.if-p-self.false)) in
    sym c.self.view_is ∙ sym c.settled-p.ensures.same ∙ step_yields area p c.settled-p.result.1 (eq-eqb (area % p) 0 both.0) both.1

pub returns-clause-goes : goal.returns-clause-goes
returns-clause-goes c =
    let area = c.self.inside.area in
    let p = c.settled-p.result.0 in
    let s = c.settled-p.result.1 in
    let both = c.settled-p.ensures.found (omega (arith, c.if-p-self.false)) in
    let steps : c.args.self.now ≡ lattice p (area / p) s ∷ triples_from area p (s + 1) =
    sym c.self.view_is ∙ sym c.settled-p.ensures.same ∙ step_yields area p s (eq-eqb (area % p) 0 both.0) both.1 in
    let count = ap length steps in
    search rules
