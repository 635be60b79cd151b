use Rattle.std.proofs.Common.{◌≡◌, ◌+◌, ◌-◌, ◌<◌, ℕ, List, [], length, get_or, sym, ap, ◌∙◌, subst, arith}
use Rattle.std.specs.Prelude.{sum}
use Rattle.std.proofs.lemmas.List.{get_or_default}
use Rattle.heesch_cnf.specs.Literals.{held}
use Rattle.heesch_cnf.specs.Left.{IsLeft}
use Rattle.heesch_cnf.specs.Lines.{numbered}
use Rattle.heesch_grid.specs.declared.Cell.{Cell}
use Rattle.heesch_grid.specs.Cells.{origin}
use Rattle.heesch_grid.specs.Clauses.{clause_of, no_variable}
use Rattle.heesch_grid.specs.CoronaFormula.{covers}
use Rattle.heesch_grid.proofs.AroundFacts.{cells_around, around_given}
use Rattle.heesch_cert.specs.Literals.{literals}
use Rattle.heesch_place.specs.Universes.{Levels}
use Rattle.heesch_encode.specs.Families.{covering_at}
use Rattle.heesch_encode.proofs.Numbered.{no_entry}
use Rattle.heesch_encode.proofs.Pieces.{some_at}
use Rattle.heesch_numbers.specs.Common.{common_of, AreTables}
use Rattle.heesch_numbers.proofs.Answering.{first_case, part_range, covering_fits, covering_case, all_long, support_case}
use Rattle.heesch_numbers.proofs.common.CommonClauses.left.Goals as goal

pub returns-then-index-len : goal.returns-then-index-len
returns-then-index-len g c = λ around gives.
    let geometry = g.G.Grid.geometry in
    let u : Levels = c.plan-plan.result.universe.now in
    let first : List Cell = c.self.inside.first.items in
    let counts : List ℕ = c.self.inside.covering in
    let lowest = c.self.inside.lowest in
    let t : AreTables geometry u c.self.inside.shape first c.self.inside.rings.items counts lowest = subst (λ (w : Levels). AreTables geometry w c.self.inside.shape first c.self.inside.rings.items counts lowest) (c.self.view_is ∙ sym c.plan-plan.ensures.universe) c.self.invariant in
    let v = held c.args.values.now in
    let left = c.left_of_first.result in
    let less : c.args.number - 1 < length first = omega (arith, c.if-index-len.true, c.len.ensures, c.self.inside.first.ok.0) in
    let is = c.index.ensures ∙ get_or_default first (c.args.number - 1) c.index.result.now origin less in
    subst (λ (w : Levels). IsLeft v (numbered (common_of geometry around w) c.args.number) left) c.plan-plan.ensures.universe
    (first_case geometry around u first (t.first_is around gives) v left c.args.number less (subst (λ d. IsLeft v (clause_of literals no_variable (covers 1 d) u.vars) left) is c.left_of_first.ensures))

pub overflow_cast-part : goal.overflow_cast-part
overflow_cast-part g c =
    let geometry = g.G.Grid.geometry in
    let u : Levels = c.plan-plan.result.universe.now in
    let first : List Cell = c.self.inside.first.items in
    let counts : List ℕ = c.self.inside.covering in
    let lowest = c.self.inside.lowest in
    let t : AreTables geometry u c.self.inside.shape first c.self.inside.rings.items counts lowest = subst (λ (w : Levels). AreTables geometry w c.self.inside.shape first c.self.inside.rings.items counts lowest) (c.self.view_is ∙ sym c.plan-plan.ensures.universe) c.self.invariant in
    let around = cells_around geometry in
    let gives = around_given geometry g.met.G.Grid.laws in
    let r = part_range geometry around u first (t.first_is around gives) counts (t.counts_are around gives) _ c.place-part.result.0 c.place-part.result.1 c.place-part.ensures in
    let few = t.plan.few in
    omega (arith, r, few)

pub overflow_add-part : goal.overflow_add-part
overflow_add-part g c =
    let geometry = g.G.Grid.geometry in
    let u : Levels = c.plan-plan.result.universe.now in
    let first : List Cell = c.self.inside.first.items in
    let counts : List ℕ = c.self.inside.covering in
    let lowest = c.self.inside.lowest in
    let t : AreTables geometry u c.self.inside.shape first c.self.inside.rings.items counts lowest = subst (λ (w : Levels). AreTables geometry w c.self.inside.shape first c.self.inside.rings.items counts lowest) (c.self.view_is ∙ sym c.plan-plan.ensures.universe) c.self.invariant in
    let around = cells_around geometry in
    let gives = around_given geometry g.met.G.Grid.laws in
    let r = part_range geometry around u first (t.first_is around gives) counts (t.counts_are around gives) _ c.place-part.result.0 c.place-part.result.1 c.place-part.ensures in
    let few = t.plan.few in
    omega (arith, r, few)

pub left_of_covering-requires-clause-number : goal.left_of_covering-requires-clause-number
left_of_covering-requires-clause-number g c =
    let geometry = g.G.Grid.geometry in
    let u : Levels = c.plan-plan.result.universe.now in
    let first : List Cell = c.self.inside.first.items in
    let counts : List ℕ = c.self.inside.covering in
    let lowest = c.self.inside.lowest in
    let t : AreTables geometry u c.self.inside.shape first c.self.inside.rings.items counts lowest = subst (λ (w : Levels). AreTables geometry w c.self.inside.shape first c.self.inside.rings.items counts lowest) (c.self.view_is ∙ sym c.plan-plan.ensures.universe) c.self.invariant in
    let around = cells_around geometry in
    let gives = around_given geometry g.met.G.Grid.laws in
    let r = part_range geometry around u first (t.first_is around gives) counts (t.counts_are around gives) _ c.place-part.result.0 c.place-part.result.1 c.place-part.ensures in
    (omega arith, omega (arith, r))

pub left_of_covering-requires-clause-place : goal.left_of_covering-requires-clause-place
left_of_covering-requires-clause-place g c = λ around x gives number.
    let geometry = g.G.Grid.geometry in
    let u : Levels = c.plan-plan.result.universe.now in
    let first : List Cell = c.self.inside.first.items in
    let counts : List ℕ = c.self.inside.covering in
    let lowest = c.self.inside.lowest in
    let t : AreTables geometry u c.self.inside.shape first c.self.inside.rings.items counts lowest = subst (λ (w : Levels). AreTables geometry w c.self.inside.shape first c.self.inside.rings.items counts lowest) (c.self.view_is ∙ sym c.plan-plan.ensures.universe) c.self.invariant in
    let part = c.place-part.result.0 in
    let rest = c.place-part.result.1 in
    let p = c.plan-plan.ensures.plan in
    let fits = covering_fits geometry around u first (t.first_is around gives) counts (t.counts_are around gives) _ part rest x c.place-part.ensures number in
    subst (λ (s : List Cell). rest < length (covering_at around s c.plan-plan.result.level u.vars (part + 1, x))) p.shape_is (subst (λ l. rest < length (covering_at around u.shape l u.vars (part + 1, x))) p.level_is fits)

pub returns-then-place-total : goal.returns-then-place-total
returns-then-place-total g c = λ around gives.
    let geometry = g.G.Grid.geometry in
    let u : Levels = c.plan-plan.result.universe.now in
    let first : List Cell = c.self.inside.first.items in
    let counts : List ℕ = c.self.inside.covering in
    let lowest = c.self.inside.lowest in
    let t : AreTables geometry u c.self.inside.shape first c.self.inside.rings.items counts lowest = subst (λ (w : Levels). AreTables geometry w c.self.inside.shape first c.self.inside.rings.items counts lowest) (c.self.view_is ∙ sym c.plan-plan.ensures.universe) c.self.invariant in
    let v = held c.args.values.now in
    let left = c.left_of_covering.result in
    let part = c.place-part.result.0 in
    let rest = c.place-part.result.1 in
    let p = c.plan-plan.ensures.plan in
    let r = part_range geometry around u first (t.first_is around gives) counts (t.counts_are around gives) _ part rest c.place-part.ensures in
    let x = get_or u.vars (part + 1 - 1) no_entry.1 in
    let number = some_at u.vars (part + 1) (omega arith) (omega (arith, r)) in
    let place = c.args.number - 1 - c.len-2.result in
    let h = subst (λ (s : List Cell). IsLeft v (get_or (covering_at around s u.level u.vars (part + 1, x)) rest []) left) (sym p.shape_is)
    (subst (λ l. IsLeft v (get_or (covering_at around c.plan-plan.result.shape.now l u.vars (part + 1, x)) rest []) left) (sym p.level_is) (c.left_of_covering.ensures around x gives number)) in
    subst (λ (w : Levels). IsLeft v (numbered (common_of geometry around w) c.args.number) left) c.plan-plan.ensures.universe
    (covering_case geometry around u first (t.first_is around gives) counts (t.counts_are around gives) v left c.args.number place part rest x
    (omega (arith, c.if-index-len.false, c.len.ensures, c.self.inside.first.ok.0)) (omega (arith, c.len-2.ensures, c.self.inside.first.ok.0)) (omega (arith, c.if-place-total.true, c.total-total.ensures)) c.place-part.ensures number h)

pub overflow_add-var : goal.overflow_add-var
overflow_add-var g c =
    let geometry = g.G.Grid.geometry in
    let u : Levels = c.plan-plan.result.universe.now in
    let first : List Cell = c.self.inside.first.items in
    let counts : List ℕ = c.self.inside.covering in
    let lowest = c.self.inside.lowest in
    let t : AreTables geometry u c.self.inside.shape first c.self.inside.rings.items counts lowest = subst (λ (w : Levels). AreTables geometry w c.self.inside.shape first c.self.inside.rings.items counts lowest) (c.self.view_is ∙ sym c.plan-plan.ensures.universe) c.self.invariant in
    let around0 = c.requires.number.around in
    let gives0 = c.requires.number.gives in
    let all = all_long geometry around0 u first (t.first_is around0 gives0) counts (t.counts_are around0 gives0) lowest t.lowest_within t.low t.high in
    let same = ap (λ (w : Levels). length (common_of geometry around0 w)) c.plan-plan.ensures.universe in
    let top = c.requires.number.is.1 in
    let low = c.requires.number.is.0 in
    let k = c.args.number - 1 - c.len-2.result - c.total-total.result in
    let less : lowest + k < length u.vars = omega (arith, all, same, top, low, t.lowest_within, c.len-2.ensures, c.self.inside.first.ok.0, c.total-total.ensures, c.if-index-len.false, c.len.ensures, c.if-place-total.false) in
    let few = t.plan.few in
    omega (arith, less, few)

pub overflow_add-var-2 : goal.overflow_add-var-2
overflow_add-var-2 g c =
    let geometry = g.G.Grid.geometry in
    let u : Levels = c.plan-plan.result.universe.now in
    let first : List Cell = c.self.inside.first.items in
    let counts : List ℕ = c.self.inside.covering in
    let lowest = c.self.inside.lowest in
    let t : AreTables geometry u c.self.inside.shape first c.self.inside.rings.items counts lowest = subst (λ (w : Levels). AreTables geometry w c.self.inside.shape first c.self.inside.rings.items counts lowest) (c.self.view_is ∙ sym c.plan-plan.ensures.universe) c.self.invariant in
    let around0 = c.requires.number.around in
    let gives0 = c.requires.number.gives in
    let all = all_long geometry around0 u first (t.first_is around0 gives0) counts (t.counts_are around0 gives0) lowest t.lowest_within t.low t.high in
    let same = ap (λ (w : Levels). length (common_of geometry around0 w)) c.plan-plan.ensures.universe in
    let top = c.requires.number.is.1 in
    let low = c.requires.number.is.0 in
    let k = c.args.number - 1 - c.len-2.result - c.total-total.result in
    let less : lowest + k < length u.vars = omega (arith, all, same, top, low, t.lowest_within, c.len-2.ensures, c.self.inside.first.ok.0, c.total-total.ensures, c.if-index-len.false, c.len.ensures, c.if-place-total.false) in
    let few = t.plan.few in
    omega (arith, less, few)

pub left_of_support-requires-clause-number : goal.left_of_support-requires-clause-number
left_of_support-requires-clause-number g c =
    let geometry = g.G.Grid.geometry in
    let u : Levels = c.plan-plan.result.universe.now in
    let first : List Cell = c.self.inside.first.items in
    let counts : List ℕ = c.self.inside.covering in
    let lowest = c.self.inside.lowest in
    let t : AreTables geometry u c.self.inside.shape first c.self.inside.rings.items counts lowest = subst (λ (w : Levels). AreTables geometry w c.self.inside.shape first c.self.inside.rings.items counts lowest) (c.self.view_is ∙ sym c.plan-plan.ensures.universe) c.self.invariant in
    let around0 = c.requires.number.around in
    let gives0 = c.requires.number.gives in
    let all = all_long geometry around0 u first (t.first_is around0 gives0) counts (t.counts_are around0 gives0) lowest t.lowest_within t.low t.high in
    let same = ap (λ (w : Levels). length (common_of geometry around0 w)) c.plan-plan.ensures.universe in
    let top = c.requires.number.is.1 in
    let low = c.requires.number.is.0 in
    let k = c.args.number - 1 - c.len-2.result - c.total-total.result in
    let less : lowest + k < length u.vars = omega (arith, all, same, top, low, t.lowest_within, c.len-2.ensures, c.self.inside.first.ok.0, c.total-total.ensures, c.if-index-len.false, c.len.ensures, c.if-place-total.false) in
    (omega arith, omega (arith, less))

pub left_of_support-requires-clause-level : goal.left_of_support-requires-clause-level
left_of_support-requires-clause-level g c = λ x number.
    let geometry = g.G.Grid.geometry in
    let u : Levels = c.plan-plan.result.universe.now in
    let first : List Cell = c.self.inside.first.items in
    let counts : List ℕ = c.self.inside.covering in
    let lowest = c.self.inside.lowest in
    let t : AreTables geometry u c.self.inside.shape first c.self.inside.rings.items counts lowest = subst (λ (w : Levels). AreTables geometry w c.self.inside.shape first c.self.inside.rings.items counts lowest) (c.self.view_is ∙ sym c.plan-plan.ensures.universe) c.self.invariant in
    t.high _ x number (omega arith)

pub returns : goal.returns
returns g c = λ around gives.
    let geometry = g.G.Grid.geometry in
    let u : Levels = c.plan-plan.result.universe.now in
    let first : List Cell = c.self.inside.first.items in
    let counts : List ℕ = c.self.inside.covering in
    let lowest = c.self.inside.lowest in
    let t : AreTables geometry u c.self.inside.shape first c.self.inside.rings.items counts lowest = subst (λ (w : Levels). AreTables geometry w c.self.inside.shape first c.self.inside.rings.items counts lowest) (c.self.view_is ∙ sym c.plan-plan.ensures.universe) c.self.invariant in
    let around0 = c.requires.number.around in
    let gives0 = c.requires.number.gives in
    let all = all_long geometry around0 u first (t.first_is around0 gives0) counts (t.counts_are around0 gives0) lowest t.lowest_within t.low t.high in
    let same = ap (λ (w : Levels). length (common_of geometry around0 w)) c.plan-plan.ensures.universe in
    let top = c.requires.number.is.1 in
    let low = c.requires.number.is.0 in
    let k = c.args.number - 1 - c.len-2.result - c.total-total.result in
    let less : lowest + k < length u.vars = omega (arith, all, same, top, low, t.lowest_within, c.len-2.ensures, c.self.inside.first.ok.0, c.total-total.ensures, c.if-index-len.false, c.len.ensures, c.if-place-total.false) in
    let v = held c.args.values.now in
    let left = c.left_of_support.result in
    let x = get_or u.vars (lowest + k + 1 - 1) no_entry.1 in
    let number = some_at u.vars (lowest + k + 1) (omega arith) (omega (arith, less)) in
    let at : c.args.number - 1 ≡ length first + sum counts + k = omega (arith, c.len-2.ensures, c.self.inside.first.ok.0, c.total-total.ensures, c.if-index-len.false, c.len.ensures, c.if-place-total.false) in
    subst (λ (w : Levels). IsLeft v (numbered (common_of geometry around w) c.args.number) left) c.plan-plan.ensures.universe
    (support_case geometry around u first (t.first_is around gives) counts (t.counts_are around gives) lowest t.lowest_within t.low t.high v left c.args.number k x at less number (c.left_of_support.ensures x number))
