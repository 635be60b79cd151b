use Rattle.std.proofs.Common.{◌≡◌, ◌+◌, ◌-◌, ◌<◌, ◌≤◌, ℕ, length, get_or, slice_range, take, sym, ap, subst, ◌∙◌, arith}
use Rattle.std.specs.Prelude.{Contains, nat_lt, sum}
use Rattle.heesch_cnf.specs.Lines.{numbered}
use Rattle.heesch_cert.specs.Literals.{literals}
use Rattle.heesch_grid.specs.Cells.{meet}
use Rattle.heesch_grid.specs.CoronaFormula.{exclusion_clauses}
use Rattle.heesch_grid.specs.Listing.{IsRising}
use Rattle.heesch_torus.specs.Formula.{pair_clause}
use Rattle.heesch_torus.specs.Variables.{sets_of}
use Rattle.heesch_tori.specs.TorusView.{TorusView}
use Rattle.heesch_tori.proofs.Clauses.{clauses_length, pair_numbered, sets_many}
use Rattle.heesch_tori.proofs.Pairs.{later_counted}
use Rattle.heesch_tori.proofs.PairNumbers.{before, clause_member, clause_there, counted, ends, row, row_is, row_rises, within}
use Rattle.heesch_tori.proofs.source.TorusSource.pair_number.Given as given
use Rattle.heesch_tori.proofs.source.TorusSource.pair_number.Goals as goal
use Rattle.heesch_tori.proofs.source.TorusSource.pair_number.Goals.{After-part, After-start-start}

-- the first is one of the variables
first_is : (g : given.Over) (c : After-start-start g) → (1 ≤ c.args.first) × (c.args.first ≤ length (sets_of c.self.inside.table.variables))
first_is g c =
    let many = sets_many c.self.inside.table.variables in
    let seen = ap (λ (s : TorusView). length s.variables) c.self.view_is in
    let high = c.requires.1 in
    (c.requires.0, omega (arith, many, seen, high))

-- the part is the row of the first
part_is : (g : given.Over) (c : After-part g) → (f : (1 ≤ c.args.first) × (c.args.first ≤ length (sets_of c.self.inside.table.variables))) → c.part.result.now ≡ row (sets_of c.self.inside.table.variables) c.args.first f.0 f.1
part_is g c f =
    let sets = sets_of c.self.inside.table.variables in
    let start : c.start-start.result ≡ before sets c.args.first f.0 f.1 = c.start-start.ensures ∙ ap (λ ns. sum (take (c.args.first - 1) ns)) c.self.invariant.counts_are in
    let end : c.start-end.result ≡ before sets c.args.first f.0 f.1 + length (row sets c.args.first f.0 f.1) = c.start-end.ensures ∙ ap (λ ns. sum (take c.args.first ns)) c.self.invariant.counts_are ∙ ends sets c.args.first f.0 f.1 in
    c.part.ensures
    ∙ (λ i. slice_range ((c.deref.ensures.value ∙ c.self.invariant.numbers_are) i) (start i) (end i))
    ∙ row_is sets c.args.first f.0 f.1

pub start-start-requires : goal.start-start-requires
start-start-requires g c =
    let many = sets_many c.self.inside.table.variables in
    let seen = ap (λ (s : TorusView). length s.variables) c.self.view_is in
    let counts = ap length c.self.invariant.counts_are in
    let low = c.requires.0 in
    let high = c.requires.1 in
    let last : c.args.first ≤ length (sets_of c.self.inside.table.variables) = omega (arith, many, seen, high) in
    let long = counted (sets_of c.self.inside.table.variables) c.args.first low last in
    omega (arith, long, counts, last)

pub start-end-requires : goal.start-end-requires
start-end-requires g c =
    let f = first_is g (goal.at.start-end-requires g c).After-start-start in
    let counts = ap length c.self.invariant.counts_are in
    let long = counted (sets_of c.self.inside.table.variables) c.args.first f.0 f.1 in
    let high = f.1 in
    omega (arith, long, counts, high)

pub part-requires-clause-order : goal.part-requires-clause-order
part-requires-clause-order g c =
    let sets = sets_of c.self.inside.table.variables in
    let f = first_is g (goal.at.part-requires-clause-order g c).After-start-start in
    let start : c.start-start.result ≡ before sets c.args.first f.0 f.1 = c.start-start.ensures ∙ ap (λ ns. sum (take (c.args.first - 1) ns)) c.self.invariant.counts_are in
    let end : c.start-end.result ≡ before sets c.args.first f.0 f.1 + length (row sets c.args.first f.0 f.1) = c.start-end.ensures ∙ ap (λ ns. sum (take c.args.first ns)) c.self.invariant.counts_are ∙ ends sets c.args.first f.0 f.1 in
    omega (arith, start, end)

pub part-requires-clause-last : goal.part-requires-clause-last
part-requires-clause-last g c =
    let sets = sets_of c.self.inside.table.variables in
    let f = first_is g (goal.at.part-requires-clause-last g c).After-start-start in
    let end : c.start-end.result ≡ before sets c.args.first f.0 f.1 + length (row sets c.args.first f.0 f.1) = c.start-end.ensures ∙ ap (λ ns. sum (take c.args.first ns)) c.self.invariant.counts_are ∙ ends sets c.args.first f.0 f.1 in
    let room = within sets c.args.first f.0 f.1 in
    let all = later_counted sets in
    let numbers = ap length (c.deref.ensures.value ∙ c.self.invariant.numbers_are) in
    omega (arith, end, room, all, numbers)

pub place_of-requires : goal.place_of-requires
place_of-requires g c =
    let f = first_is g (goal.at.place_of-requires g c).After-start-start in
    subst (IsRising nat_lt) (sym (part_is g (goal.at.place_of-requires g c).After-part f)) (row_rises (sets_of c.self.inside.table.variables) c.args.first f.0 f.1)

pub returns-in_default : goal.returns-in_default
returns-in_default g c = λ m.
    let sets = sets_of c.self.inside.table.variables in
    let f = first_is g (goal.at.returns-in_default g c).After-start-start in
    let here : Contains (exclusion_clauses literals meet (sets_of c.self.inside.table.variables)) (pair_clause c.args.first c.args.second) = subst (λ (s : TorusView). Contains (exclusion_clauses literals meet (sets_of s.variables)) (pair_clause c.args.first c.args.second)) (sym c.self.view_is) m in
    c.in_default.ensures (subst (λ ns. Contains ns c.args.second) (sym (part_is g (goal.at.returns-in_default g c).After-part f)) (clause_member sets c.args.first f.0 f.1 c.args.second here))

pub returns : goal.returns
returns g c =
    let sets = sets_of c.self.inside.table.variables in
    let lists = c.self.inside.table.lists in
    let first = c.args.first in
    let f = first_is g (goal.at.returns g c).After-start-start in
    let found = subst (λ ns. (c.in-Some.rank < length ns) × (get_or ns c.in-Some.rank 0 ≡ c.args.second)) (part_is g (goal.at.returns g c).After-part f) c.in-Some.ensures in
    let inside = found.0 in
    let start : c.start-start.result ≡ before sets first f.0 f.1 = c.start-start.ensures ∙ ap (λ ns. sum (take (c.args.first - 1) ns)) c.self.invariant.counts_are in
    let few = ap length c.lists.ensures.lists in
    let whole = clauses_length sets lists c.self.inside.later.counts c.self.invariant.counts_are in
    let seen = ap (λ (s : TorusView). length s.formula.clauses) c.self.view_is in
    let room = within sets first f.0 f.1 in
    let counts = ap sum c.self.invariant.counts_are in
    let number : ℕ = length c.lists.result.now + c.start-start.result + c.in-Some.rank + 1 in
    let clause = pair_numbered sets lists number (before sets first f.0 f.1 + c.in-Some.rank) (omega arith) (omega (arith, few)) (omega (arith, few, start)) ∙ clause_there sets first f.0 f.1 c.in-Some.rank inside c.args.second found.1 in (
      (omega arith, omega (arith, inside, start, few, whole, seen, room, counts)),
      sym (ap (λ (s : TorusView). numbered s.formula.clauses (length c.lists.result.now + c.start-start.result + c.in-Some.rank + 1)) c.self.view_is) ∙ clause,
    )
