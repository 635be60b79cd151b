use Rattle.std.proofs.Common.{◌≡◌, refl, ◌+◌, ◌-◌, ◌<◌, ◌≤◌, ◌∷◌, ◌++◌, [], All, List, ℕ, filter, not, length, get_or, take, sym, ap, ◌∙◌, subst, arith}
use Rattle.std.specs.Prelude.{flat_map, nat_lt, ◌==◌, ◌&&◌}
use Rattle.std.proofs.lemmas.List.{append-nil}
use Rattle.heesch_cnf.specs.declared.literal.Lit.{Lit}
use Rattle.heesch_cnf.specs.declared.values.Left.{Left}
use Rattle.heesch_cnf.specs.declared.values.Left.TheVariants.{More}
use Rattle.heesch_cnf.specs.Literals.{held}
use Rattle.heesch_cnf.specs.Left.{IsLeft}
use Rattle.heesch_grid.specs.declared.Cell.{Cell}
use Rattle.heesch_grid.specs.Cells.{meet, origin}
use Rattle.heesch_grid.specs.Clauses.{clause_of, is_numbered}
use Rattle.heesch_grid.specs.Placement.{touch}
use Rattle.heesch_grid.specs.Listing.{IsRising}
use Rattle.heesch_grid.specs.CoronaFormula.{Variable, IsNumbered, covers}
use Rattle.heesch_cert.specs.Literals.{literals}
use Rattle.heesch_place.specs.Universes.{covering}
use Rattle.heesch_encode.specs.Literals.{plus_all}
use Rattle.heesch_encode.specs.Meeting.{covering_after}
use Rattle.heesch_encode.proofs.ClauseLists.{numbers_rising}
use Rattle.heesch_encode.proofs.Numbered.{no_entry}
use Rattle.heesch_encode.proofs.Pieces.{some_at}
use Rattle.heesch_numbers.specs.Common.{tile_of, supporters_at}
use Rattle.heesch_numbers.specs.Moves.{moved_by}
use Rattle.heesch_numbers.specs.Seen.{IsSeen}
use Rattle.heesch_numbers.proofs.Members.{support_left, after_range}
use Rattle.heesch_numbers.proofs.Seeing.{seen_none, pieces_join, walk_more, walk_stopped, walk_whole}
use Rattle.heesch_numbers.proofs.walks.left_of_support.Given as given
use Rattle.heesch_numbers.proofs.walks.left_of_support.Goals as goal
use Rattle.heesch_numbers.proofs.walks.left_of_support.Goals.{After-left_with_all_apart-left, After-surround_of-cells}

pub overflow_sub-below : goal.overflow_sub-below
overflow_sub-below g c =
    let vars = c.args.plan.now.universe.now.vars in
    let x = get_or vars (c.args.var - 1) no_entry.1 in
    let number = some_at vars c.args.var c.requires.number.0 c.requires.number.1 in
    let two = c.requires.level x number in
    let at = c.level_of-below.ensures x number in
    omega (arith, two, at)

pub loop-i-init : goal.loop-i-init
loop-i-init g c = c.left_with-left.ensures [] (seen_none (held c.args.values.now))

pub numbers_after-numbers-requires-clause-rising : goal.numbers_after-numbers-requires-clause-rising
numbers_after-numbers-requires-clause-rising g c = subst (IsRising nat_lt) (sym c.covered_by.ensures) (numbers_rising c.args.plan.now.universe.now.vars (covers (c.level_of-below.result - 1) c.at.result))

-- the numbers that are looked up for a cell
found : (vars : List Variable) (above most : ℕ) (c d : Cell) (covered numbers : List ℕ) → numbers ≡ filter (nat_lt above) covered → covered ≡ covering vars most c → c ≡ d → numbers ≡ covering_after vars above most d
found vars above most c d covered numbers after covers same = after ∙ ap (filter (nat_lt above)) (covers ∙ ap (covering vars most) same)

pub left_with_all_apart-left-requires-clause-numbers : goal.left_with_all_apart-left-requires-clause-numbers
left_with_all_apart-left-requires-clause-numbers g c =
    let vars = c.args.plan.now.universe.now.vars in
    subst (All (λ n. (1 ≤ n) × (n ≤ length vars))) (sym (found vars c.last_below-above.result (c.level_of-below.result - 1) c.at.result c.at.result c.covered_by.result.now c.numbers_after-numbers.result.now c.numbers_after-numbers.ensures c.covered_by.ensures refl)) (after_range vars c.last_below-above.result (c.level_of-below.result - 1) _)

-- after one cell more
more : (g : given.Over) (c : After-left_with_all_apart-left g) → IsSeen (held c.args.values.now) ((literals.minus c.args.var ∷ []) ++ plus_all (flat_map (supporters_at c.args.plan.now.universe.now.vars c.shape-tile.result.now c.last_below-above.result (c.level_of-below.result - 1)) (take (c.loop-i.i + 1) (moved_by c.surround_of-cells.result.step c.surround_of-cells.result.ring.now)))) c.left_with_all_apart-left.result
more g c =
    let vars = c.args.plan.now.universe.now.vars in
    let v = held c.args.values.now in
    let tile : List Cell = c.shape-tile.result.now in
    let f = supporters_at vars tile c.last_below-above.result (c.level_of-below.result - 1) in
    let cells : List Cell = moved_by c.surround_of-cells.result.step c.surround_of-cells.result.ring.now in
    let i = c.loop-i.i in
    let less : i < length cells = omega (arith, c.loop-i-test.true, c.len-i-end.ensures.count) in
    let sofar : List Lit = (literals.minus c.args.var ∷ []) ++ plus_all (flat_map f (take i cells)) in
    let p = λ (n : ℕ). not (meet (tile_of vars n) tile) in
    let numbers : filter p c.numbers_after-numbers.result.now ≡ flat_map f (get_or cells i origin ∷ []) = ap (filter p) (found vars c.last_below-above.result (c.level_of-below.result - 1) c.at.result (get_or cells i origin) c.covered_by.result.now c.numbers_after-numbers.result.now c.numbers_after-numbers.ensures c.covered_by.ensures (c.at.ensures origin)) ∙ sym (append-nil (f (get_or cells i origin))) in
    walk_more (λ cs. plus_all (flat_map f cs)) (pieces_join f) v (literals.minus c.args.var ∷ []) cells i origin c.left_with_all_apart-left.result less
    (subst (λ ns. IsSeen v (sofar ++ plus_all ns) c.left_with_all_apart-left.result) numbers (c.left_with_all_apart-left.ensures sofar c.loop-i.invariant))

-- what is left of the literals that were seen is left of the clause
final : (g : given.Over) (c : After-surround_of-cells g) (x : Variable) (left : Left) → IsNumbered c.args.plan.now.universe.now.vars c.args.var x →
    IsSeen (held c.args.values.now) ((literals.minus c.args.var ∷ []) ++ plus_all (flat_map (supporters_at c.args.plan.now.universe.now.vars c.shape-tile.result.now c.last_below-above.result (c.level_of-below.result - 1)) (moved_by c.surround_of-cells.result.step c.surround_of-cells.result.ring.now))) left →
    IsLeft (held c.args.values.now) (clause_of literals (is_numbered c.args.var) (λ y. (y.1.level + 1 == x.level) && touch g.G.Grid.geometry y.1.tile x.tile) c.args.plan.now.universe.now.vars) left
final g c x left number h =
    let vars = c.args.plan.now.universe.now.vars in
    let v = held c.args.values.now in
    let above = c.last_below-above.result in
    let of = c.level_of-below.result in
    let cells : List Cell = moved_by c.surround_of-cells.result.step c.surround_of-cells.result.ring.now in
    let at = c.level_of-below.ensures x number in
    let two : 2 ≤ of = let l = c.requires.level x number in omega (arith, l, at) in
    let tile = c.shape-tile.ensures ∙ c.placement_of.ensures.tile x number in
    support_left g.G.Grid.geometry g.met.G.Grid.laws vars c.args.var above of x cells number two at (c.surround_of-cells.ensures.listed x number) c.last_below-above.ensures.low c.last_below-above.ensures.high v left
    (subst (λ (t : List Cell). IsSeen v (literals.minus c.args.var ∷ plus_all (flat_map (supporters_at vars t above (of - 1)) cells)) left) tile h)

pub loop-i-preserved : goal.loop-i-preserved
loop-i-preserved g c = more g (goal.at.loop-i-preserved g c).After-left_with_all_apart-left

pub returns-in-More : goal.returns-in-More
returns-in-More g c = λ x number.
    let vars = c.args.plan.now.universe.now.vars in
    let v = held c.args.values.now in
    let f = supporters_at vars c.shape-tile.result.now c.last_below-above.result (c.level_of-below.result - 1) in
    let cells : List Cell = moved_by c.surround_of-cells.result.step c.surround_of-cells.result.ring.now in
    let i = c.loop-i.i in
    let at = goal.at.returns-in-More g c in
    subst (λ (left : Left). IsLeft v (clause_of literals (is_numbered c.args.var) (λ y. (y.1.level + 1 == x.level) && touch g.G.Grid.geometry y.1.tile x.tile) vars) left) (sym c.in-More.is)
    (final g at.After-surround_of-cells x More number
    (walk_stopped (λ cs. plus_all (flat_map f cs)) (pieces_join f) v (literals.minus c.args.var ∷ []) cells (i + 1)
    (subst (λ (left : Left). IsSeen v ((literals.minus c.args.var ∷ []) ++ plus_all (flat_map f (take (i + 1) cells))) left) c.in-More.is (more g at.After-left_with_all_apart-left))))

pub returns : goal.returns
returns g c = λ x number.
    let vars = c.args.plan.now.universe.now.vars in
    let f = supporters_at vars c.shape-tile.result.now c.last_below-above.result (c.level_of-below.result - 1) in
    let cells : List Cell = moved_by c.surround_of-cells.result.step c.surround_of-cells.result.ring.now in
    final g (goal.at.returns g c).After-surround_of-cells x c.loop-i.left number
    (walk_whole (λ cs. plus_all (flat_map f cs)) (pieces_join f) (held c.args.values.now) (literals.minus c.args.var ∷ []) cells c.loop-i.i c.loop-i.left (omega (arith, c.loop-i-test.false, c.len-i-end.ensures.count)) c.loop-i.invariant)
