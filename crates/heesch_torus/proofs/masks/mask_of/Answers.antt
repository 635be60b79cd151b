use Rattle.std.proofs.Common.{ℕ, List, All, sym, subst, ◌<◌}
use Rattle.heesch_torus.specs.Masks.{IsMaskOf, HasDouble}
use Rattle.heesch_torus.specs.Stepping.{HasBits, HasTwice}
use Rattle.heesch_torus.proofs.Stepping.{points_few, word_mask, twice_double, some_kept, none_kept}
use Rattle.heesch_torus.proofs.masks.mask_of.Goals as goal

pub word_of-requires : goal.word_of-requires
word_of-requires g c = subst (All (λ p. p < 64)) (sym c.as_slice.ensures.value) (points_few g.G.Grid.geometry g.met.G.Grid.laws c.args.torus.now.cells.now c.args.torus.now.triple c.args.torus.now.numbers.now c.args.torus.now.maskable c.args.by.now.iso c.points_of_tile-points.result.items c.points_of_tile-points.ensures)

pub returns-clause-found : goal.returns-clause-found
returns-clause-found g c =
    some_kept (HasBits c.as_slice.result.now) (IsMaskOf g.G.Grid.geometry c.args.torus.now.cells.now c.args.torus.now.triple c.args.by.now.iso) c.word_of.result
    (λ word bits. word_mask g.G.Grid.geometry g.met.G.Grid.laws c.args.torus.now.cells.now c.args.torus.now.triple c.args.torus.now.numbers.now c.args.torus.now.maskable c.args.by.now.iso c.points_of_tile-points.result.items word c.points_of_tile-points.ensures (subst (λ (ps : List ℕ). HasBits ps word) c.as_slice.ensures.value bits))
    c.word_of.ensures.found

pub returns-clause-none : goal.returns-clause-none
returns-clause-none g c =
    none_kept (HasTwice c.as_slice.result.now) (HasDouble g.G.Grid.geometry c.args.torus.now.cells.now c.args.torus.now.triple c.args.by.now.iso) c.word_of.result
    (λ twice. twice_double g.G.Grid.geometry g.met.G.Grid.laws c.args.torus.now.cells.now c.args.torus.now.triple c.args.torus.now.numbers.now c.args.torus.now.maskable c.args.by.now.iso c.points_of_tile-points.result.items c.points_of_tile-points.ensures (subst HasTwice c.as_slice.ensures.value twice))
    c.word_of.ensures.none
