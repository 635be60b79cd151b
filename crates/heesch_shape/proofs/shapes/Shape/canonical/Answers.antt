use Rattle.std.proofs.Common.{◌≡◌, ◌+◌, sym, ap, ◌∙◌, subst}
use Rattle.std.specs.Cmp.Lexicographic.{slice_cmp}
use Rattle.std.specs.Ordering.{is_lt}
use Rattle.heesch_grid.specs.Cells.{cell_cmp}
use Rattle.heesch_shape.specs.Walks.{IsShape}
use Rattle.heesch_shape.specs.Least.{IsLeastBelow}
use Rattle.heesch_shape.proofs.Best.{first_best, kept_best, new_best, turned_translate}
use Rattle.heesch_shape.proofs.shapes.Shape.canonical.Goals as goal
use Rattle.std.proofs.Common.{◌≤◌, arith}
use Rattle.heesch_shape.proofs.Best.{best_of_all}
use Rattle.heesch_shape.proofs.Words.{canonical_of}
use Rattle.heesch_shape.proofs.shapes.Shape.canonical.Goals.{then-is_lt, else-is_lt}

pub loop-k-init : goal.loop-k-init
loop-k-init g c =
    let met = g.met.G.Grid in
    let geometry = g.G.Grid.geometry in
    let xs = c.args.self.now in
    let t = turned_translate geometry met.laws xs 0 c.normalised-base.result c.turned-best.result c.normalised-base.ensures.moved c.turned-best.ensures.turned in
    record { shape = c.turned-best.ensures.shape; least = first_best geometry met.laws xs t.0 c.turned-best.result t.1 t.2 }

pub loop-k-preserved : goal.loop-k-preserved
loop-k-preserved g c =
    let met = g.met.G.Grid in
    let geometry = g.G.Grid.geometry in
    let xs = c.args.self.now in
    let k = c.loop-k.k in
    let best = c.loop-k.best in
    let other = c.turned-other.result in
    let t = turned_translate geometry met.laws xs k c.normalised-base.result other c.normalised-base.ensures.moved c.turned-other.ensures.turned in
    let test : c.is_lt.result ≡ is_lt (slice_cmp cell_cmp other best) = c.is_lt.ensures ∙ ap is_lt c.cmp.ensures in
    let old = c.loop-k.invariant in
    elim c.if-is_lt.branch [
      | then-is_lt w ↦ record {
        shape = subst (IsShape geometry) (sym w.best-is) c.turned-other.ensures.shape;
        least = subst (IsLeastBelow geometry (k + 1) xs) (sym w.best-is) (new_best geometry met.laws xs k t.0 best other old.least t.1 t.2 (sym test ∙ w.if-is_lt.true));
      }
      | else-is_lt w ↦ record {
        shape = subst (IsShape geometry) (sym w.best-is) old.shape;
        least = subst (IsLeastBelow geometry (k + 1) xs) (sym w.best-is) (kept_best geometry met.laws xs k t.0 best other old.least t.1 t.2 (sym test ∙ w.if-is_lt.false));
      }
    ]

pub returns-clause-canonical : goal.returns-clause-canonical
returns-clause-canonical g c =
    let met = g.met.G.Grid in
    let geometry = g.G.Grid.geometry in
    let all : geometry.turns ≤ c.loop-k.k = omega (arith, c.loop-k-test.false, c.TURNS-k-end.ensures, met.sizes.turns_is) in
    canonical_of geometry met.laws c.args.self.now c.loop-k.best (best_of_all geometry met.laws c.args.self.now c.loop-k.k c.loop-k.best all c.loop-k.invariant.least)
