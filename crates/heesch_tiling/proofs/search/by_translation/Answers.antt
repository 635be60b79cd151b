use Rattle.std.proofs.Common.{◌≡◌, ◌*◌, ◌≤◌, length, sym, subst, ◌∙◌, true≢false, arith}
use Rattle.heesch_tiling.specs.Search.{IsSearch, CoversAlone, IsFirstByTranslation, NoTilingByTranslation}
use Rattle.heesch_tiling.proofs.Searching.{by_translation, never_by_translation, one_less}
use Rattle.heesch_tiling.proofs.search.by_translation.Given as given
use Rattle.heesch_tiling.proofs.search.by_translation.Goals as goal
use Rattle.heesch_tiling.proofs.search.by_translation.Goals.{In_ok-area}

-- the area is that of the shape
of_area : (g : given.Over) (c : In_ok-area g) → g.G.Grid.geometry.per * c.in_ok-area.area ≡ length c.cells-cells.result.now * 1
of_area g c =
    let few : length c.cells-cells.result.now ≤ 32 = subst (λ xs. length xs ≤ 32) (sym c.cells-cells.ensures.cells) c.cells-cells.ensures.shape.few in
    omega (arith, c.in_ok-area.ensures.found.is, few)

pub returns-then-is_plain_cover-clause-found : goal.returns-then-is_plain_cover-clause-found
returns-then-is_plain_cover-clause-found g c =
    let geometry = g.G.Grid.geometry in
    let xs = c.cells-cells.result.now in
    let left = subst (IsSearch c.in_ok-area.area (CoversAlone geometry xs)) c.in-Some.ensures.steps c.loop-triple.invariant in
    let is = of_area g (goal.at.returns-then-is_plain_cover-clause-found g c).In_ok-area in
    subst (λ ys. IsFirstByTranslation geometry ys c.in-Some.triple) c.cells-cells.ensures.cells
    (by_translation geometry g.met.G.Grid.laws xs c.in_ok-area.area is c.in-Some.triple c.next.new.self left (c.is_plain_cover.ensures.0 c.if-is_plain_cover.true))

pub loop-triple-preserved : goal.loop-triple-preserved
loop-triple-preserved g c =
    let covers = CoversAlone g.G.Grid.geometry c.cells-cells.result.now in
    one_less c.in_ok-area.area covers c.in-Some.triple c.next.new.self (λ h. true≢false (sym (c.is_plain_cover.ensures.1 h) ∙ c.if-is_plain_cover.false)) (subst (IsSearch c.in_ok-area.area covers) c.in-Some.ensures.steps c.loop-triple.invariant)

pub returns-clause-none : goal.returns-clause-none
returns-clause-none g c =
    let geometry = g.G.Grid.geometry in
    let xs = c.cells-cells.result.now in
    subst (NoTilingByTranslation geometry) c.cells-cells.ensures.cells
    (never_by_translation geometry g.met.G.Grid.laws xs c.in_ok-area.area (of_area g (goal.at.returns-clause-none g c).In_ok-area) (subst (IsSearch c.in_ok-area.area (CoversAlone geometry xs)) c.in-None.ensures.steps.0 c.loop-triple.invariant))
