use Rattle.std.proofs.Common.{◌≡◌, ℕ, List, ◌-◌, ◌<◌, All, Contains, subst, arith}
use Rattle.heesch_torus.specs.Beside.{FillBeside}
use Rattle.heesch_torus.specs.Masks.{IsMaskOf, HasMasksFrom}
use Rattle.heesch_torus.specs.Covers.{unmoved, HasPartialCovers, IsFillingAt}
use Rattle.heesch_torus.proofs.Filled.{no_cover}
use Rattle.heesch_torus.proofs.Turning.{masks_now, next_masks, next_none, few_nodes, used_more}
use Rattle.heesch_torus.proofs.cover.fill_torus.Goals as goal

pub fill_at-requires-clause-masks : goal.fill_at-requires-clause-masks
fill_at-requires-clause-masks g c =
    let turns : c.TURNS.result ≡ g.G.Grid.geometry.turns = omega (arith, g.met.G.Grid.sizes.turns_is, c.TURNS.ensures) in
    let less : c.loop-done.done < c.TURNS.result = omega (arith, turns, c.loop-done-test.true, c.TURNS-done-end.ensures, c.TURNS.ensures) in
    masks_now g.G.Grid.geometry g.met.G.Grid.laws c.args.torus.now.cells.now c.args.torus.now.triple c.args.torus.now.maskable.triple c.requires c.TURNS.result c.loop-done.done turns less c.loop-done.masks.items c.add_masks.new.masks.items c.deref.result.now c.deref.ensures.value c.loop-done.invariant.masks c.in_ok-add_masks.ensures

pub returns-in-Open : goal.returns-in-Open
returns-in-Open g c =
    let turns : c.TURNS.result ≡ g.G.Grid.geometry.turns = omega (arith, g.met.G.Grid.sizes.turns_is, c.TURNS.ensures) in
    let less : c.loop-done.done < c.TURNS.result = omega (arith, turns, c.loop-done-test.true, c.TURNS-done-end.ensures, c.TURNS.ensures) in
    let short : (count : ℕ) × HasPartialCovers g.G.Grid.geometry c.args.torus.now.cells.now c.args.torus.now.triple c.args.torus.now.full (c.TURNS.result - 1 - c.loop-done.done) count × (c.loop-done.left < count) = subst (IsFillingAt g.G.Grid.geometry c.args.torus.now.cells.now c.args.torus.now.triple (c.TURNS.result - 1 - c.loop-done.done) c.deref.result.now c.args.torus.now.full c.loop-done.left) c.in-Open.is c.in_ok-filling.ensures.answer in
    few_nodes g.G.Grid.geometry c.args.torus.now.cells.now c.args.torus.now.triple c.args.torus.now.full c.TURNS.result c.loop-done.done c.args.nodes turns less c.loop-done.left c.loop-done.invariant.spent c.args.torus.now.whole short.0 short.1 short.2

pub loop-done-preserved : goal.loop-done-preserved
loop-done-preserved g c =
    let turns : c.TURNS.result ≡ g.G.Grid.geometry.turns = omega (arith, g.met.G.Grid.sizes.turns_is, c.TURNS.ensures) in
    let less : c.loop-done.done < c.TURNS.result = omega (arith, turns, c.loop-done-test.true, c.TURNS-done-end.ensures, c.TURNS.ensures) in
    let have : HasMasksFrom g.G.Grid.geometry c.args.torus.now.cells.now c.args.torus.now.triple (c.TURNS.result - 1 - c.loop-done.done) c.deref.result.now = masks_now g.G.Grid.geometry g.met.G.Grid.laws c.args.torus.now.cells.now c.args.torus.now.triple c.args.torus.now.maskable.triple c.requires c.TURNS.result c.loop-done.done turns less c.loop-done.masks.items c.add_masks.new.masks.items c.deref.result.now c.deref.ensures.value c.loop-done.invariant.masks c.in_ok-add_masks.ensures in
    let none : (first : ℕ) → IsMaskOf g.G.Grid.geometry c.args.torus.now.cells.now c.args.torus.now.triple (unmoved (c.TURNS.result - 1 - c.loop-done.done)) first → (found : List ℕ) → All (Contains c.deref.result.now) found → ¬ FillBeside first c.args.torus.now.full found = subst (IsFillingAt g.G.Grid.geometry c.args.torus.now.cells.now c.args.torus.now.triple (c.TURNS.result - 1 - c.loop-done.done) c.deref.result.now c.args.torus.now.full c.loop-done.left) c.in-None.is c.in_ok-filling.ensures.answer in
    let spent = c.in_ok-filling.ensures.spent in
    record {
      masks = next_masks g.G.Grid.geometry g.met.G.Grid.laws c.args.torus.now.cells.now c.requires c.args.torus.now.triple c.args.torus.now.maskable.triple c.args.torus.now.full c.args.torus.now.whole c.args.torus.now.maskable.few c.TURNS.result c.loop-done.done turns less c.add_masks.new.masks.items (subst (HasMasksFrom g.G.Grid.geometry c.args.torus.now.cells.now c.args.torus.now.triple (c.TURNS.result - 1 - c.loop-done.done)) c.deref.ensures.value have);
      none = next_none g.G.Grid.geometry g.met.G.Grid.laws c.args.torus.now.cells.now c.requires c.args.torus.now.triple c.args.torus.now.maskable.triple c.args.torus.now.full c.args.torus.now.whole c.args.torus.now.maskable.few c.TURNS.result c.loop-done.done turns less c.deref.result.now have none c.loop-done.invariant.none;
      spent = used_more g.G.Grid.geometry c.args.torus.now.cells.now c.args.torus.now.triple c.args.torus.now.full c.TURNS.result c.loop-done.done c.args.nodes turns less c.loop-done.left c.fill_at.new.nodes c.loop-done.invariant.spent spent.0 spent.1 spent.2;
    }

pub returns : goal.returns
returns g c =
    let turns : c.TURNS-done-end.result ≡ g.G.Grid.geometry.turns = omega (arith, g.met.G.Grid.sizes.turns_is, c.TURNS-done-end.ensures) in
    no_cover g.G.Grid.geometry g.met.G.Grid.laws c.args.torus.now.cells.now c.requires c.args.torus.now.triple c.args.torus.now.maskable.triple
    (λ turn below. c.loop-done.invariant.none turn (omega (arith, turns, c.loop-done-test.false, c.loop-done.auto.done-end)) below)
