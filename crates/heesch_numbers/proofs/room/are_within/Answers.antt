use Rattle.std.proofs.Common.{◌≡◌, List, map, true≢false, ap, sym, arith, lt-ltb, ltb-true}
use Rattle.std.specs.Prelude.{flat_map}
use Rattle.std.specs.List.{enumerate_from}
use Rattle.heesch_grid.specs.declared.Cell.{Cell}
use Rattle.heesch_grid.specs.Clauses.{clause_of, formula_size, no_variable}
use Rattle.heesch_grid.specs.CoronaFormula.{covers}
use Rattle.heesch_grid.proofs.AroundFacts.{cells_around, around_given}
use Rattle.heesch_cert.specs.Literals.{literals}
use Rattle.heesch_encode.specs.Families.{covering_at}
use Rattle.heesch_numbers.proofs.Rooms.{common_size}
use Rattle.heesch_numbers.proofs.room.are_within.Goals as goal

pub overflow_add-size : goal.overflow_add-size
overflow_add-size g c =
    let f = c.first_size.ensures in
    let s = c.covering_sizes.ensures (cells_around g.G.Grid.geometry) (around_given g.G.Grid.geometry g.met.G.Grid.laws) in
    omega (arith, f, s, c.ranges.room.fits)

pub returns-then-size-most : goal.returns-then-size-most
returns-then-size-most g c = λ around gives.
    let p = c.requires.plan in
    let u = c.args.plan.now.universe.now in
    let all = common_size g.G.Grid.geometry around u in
    let f = c.first_size.ensures in
    let first = ap (λ (cs : List Cell). formula_size (map (λ (d : Cell). clause_of literals no_variable (covers 1 d) u.vars) cs)) (c.requires.first around gives) in
    let s = c.covering_sizes.ensures around gives in
    let covering : formula_size (flat_map (covering_at around u.shape u.level u.vars) (enumerate_from 1 u.vars)) ≡ formula_size (flat_map (covering_at around c.args.plan.now.shape.now c.args.plan.now.level u.vars) (enumerate_from 1 u.vars)) = (λ i. formula_size (flat_map (covering_at around (p.shape_is i) (p.level_is i) u.vars) (enumerate_from 1 u.vars))) in
    let test = c.if-size-most.true in
    (λ t. absurd (true≢false (sym t)), λ le. absurd (omega (arith, all, f, first, s, covering, test, le)))

pub returns : goal.returns
returns g c = λ around gives.
    let p = c.requires.plan in
    let u = c.args.plan.now.universe.now in
    let all = common_size g.G.Grid.geometry around u in
    let f = c.first_size.ensures in
    let first = ap (λ (cs : List Cell). formula_size (map (λ (d : Cell). clause_of literals no_variable (covers 1 d) u.vars) cs)) (c.requires.first around gives) in
    let s = c.covering_sizes.ensures around gives in
    let covering : formula_size (flat_map (covering_at around u.shape u.level u.vars) (enumerate_from 1 u.vars)) ≡ formula_size (flat_map (covering_at around c.args.plan.now.shape.now c.args.plan.now.level u.vars) (enumerate_from 1 u.vars)) = (λ i. formula_size (flat_map (covering_at around (p.shape_is i) (p.level_is i) u.vars) (enumerate_from 1 u.vars))) in
    let test = c.if-size-most.false in
    let supports = c.in_ok-supports.ensures in
    (λ t. let l = ltb-true _ _ t in omega (arith, all, f, first, s, covering, test, supports, l), λ le. lt-ltb _ _ (omega (arith, all, f, first, s, covering, test, supports, le)))
