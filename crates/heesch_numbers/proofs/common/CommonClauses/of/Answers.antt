use Rattle.std.proofs.Common.{◌≡◌, refl, List, sym, ap, ◌∙◌, subst}
use Rattle.heesch_grid.specs.declared.Cell.{Cell}
use Rattle.heesch_grid.proofs.Pinned.{one_canonical_list}
use Rattle.heesch_shape.proofs.Near.{canonical_within}
use Rattle.heesch_encode.specs.Rings.{AreRings}
use Rattle.heesch_encode.proofs.MovedRings.{same_rings}
use Rattle.heesch_numbers.proofs.common.CommonClauses.of.Goals as goal

pub rings_of-requires : goal.rings_of-requires
rings_of-requires g c =
    let s = c.cells-cells.ensures.shape in
    canonical_within g.G.Grid.geometry g.met.G.Grid.laws c.args.shape.now c.args.shape.now s.polyform c.requires.canonical s.few

pub counts_of-requires : goal.counts_of-requires
counts_of-requires g c =
    let rings_are = same_rings g.G.Grid.geometry c.args.shape.now c.args.universe.shape c.in_ok-rings.rings.items c.deref.result.now c.requires.shape c.deref.ensures.value c.in_ok-rings.ensures in
    record { universe = c.requires.universe; shape_is = c.requires.shape; level_is = sym c.level.ensures.level; few = c.requires.few; rings_are = rings_are }

pub invariant_of-result : goal.invariant_of-result
invariant_of-result g c =
    let geometry = g.G.Grid.geometry in
    let same : c.args.shape.now ≡ c.canonical.result = one_canonical_list geometry c.args.shape.now c.args.shape.now c.canonical.result c.requires.canonical c.canonical.ensures.canonical in
    record {
      plan = record { universe = c.requires.universe; shape_is = c.requires.shape ∙ same; level_is = refl; few = c.requires.few; rings_are = subst (λ (s : List Cell). AreRings geometry s c.in_ok-rings.rings.items) (sym c.requires.shape) c.in_ok-rings.ensures };
      first_is = λ around gives. c.in_ok-write_ring.ensures.given around gives ∙ ap around (sym c.requires.shape);
      counts_are = λ around gives. c.in_ok-covering.ensures around gives;
      lowest_within = c.last_below-lowest.ensures.bound;
      low = c.last_below-lowest.ensures.low;
      high = c.last_below-lowest.ensures.high;
    }
