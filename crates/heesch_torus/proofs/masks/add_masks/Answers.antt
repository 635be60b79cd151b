use Rattle.std.proofs.Common.{◌≡◌, ℕ, List, length, map, ◌+◌, ◌*◌, ◌<◌, All, sym, subst, ap, ◌∙◌, arith}
use Rattle.std.specs.Prelude.{pos, slice_index}
use Rattle.std.specs.List.{refill}
use Rattle.std.proofs.lemmas.List.{length-map}
use Rattle.heesch_grid.specs.Lattice.{Triple}
use Rattle.heesch_torus.specs.Masks.{HasDouble, AddsMasks}
use Rattle.heesch_torus.specs.Covers.{unmoved}
use Rattle.heesch_torus.specs.Stepping.{HasBits, HasTwice}
use Rattle.heesch_torus.proofs.Stepping.{points_few, points_within, twice_double, none_added, none_holds, tile_at, tile_right, tile_up, tile_added, tile_left_out, row_added}
use Rattle.heesch_torus.proofs.Words.{written_over}
use Rattle.heesch_torus.proofs.masks.add_masks.Goals as goal
use Rattle.heesch_torus.proofs.masks.add_masks.Goals.{in-Some+in_ok-push, in_default}

-- a list that is written over by the points one step further
stepped : (step from points now : List ℕ) → from ≡ points → now ≡ map (slice_index step) from → refill (length points) points now ≡ map (slice_index step) points
stepped step from points now same e =
    let moved : now ≡ map (slice_index step) points = e ∙ ap (map (slice_index step)) same in
    written_over points now (ap length moved ∙ length-map points (slice_index step)) ∙ moved

all_rows : (db p q : ℕ) → db ≡ q → db * p ≡ p * q
all_rows db p q e = ap (λ n. n * p) e ∙ turned q p
  where
    turned : (m n : ℕ) → m * n ≡ n * m
    turned m n = omega arith

pub word_of-requires : goal.word_of-requires
word_of-requires g c = subst (All (λ p. p < 64)) (sym c.as_slice.ensures.value) (points_few g.G.Grid.geometry g.met.G.Grid.laws c.args.torus.now.cells.now c.args.torus.now.triple c.args.torus.now.numbers.now c.args.torus.now.maskable (unmoved c.args.turn) c.points_of_tile-points.result.items c.points_of_tile-points.ensures)

pub returns-then-is_none : goal.returns-then-is_none
returns-then-is_none g c =
    let twice : HasTwice c.as_slice.result.now = none_holds (HasTwice c.as_slice.result.now) c.word_of.result c.if-is_none.ensures c.word_of.ensures.none in
    let double : HasDouble g.G.Grid.geometry c.args.torus.now.cells.now c.args.torus.now.triple (unmoved c.args.turn) = twice_double g.G.Grid.geometry g.met.G.Grid.laws c.args.torus.now.cells.now c.args.torus.now.triple c.args.torus.now.numbers.now c.args.torus.now.maskable (unmoved c.args.turn) c.points_of_tile-points.result.items c.points_of_tile-points.ensures (subst HasTwice c.as_slice.ensures.value twice) in
    none_added g.G.Grid.geometry g.met.G.Grid.laws c.args.torus.now.cells.now c.args.torus.now.triple c.args.torus.now.numbers.now c.args.torus.now.maskable c.args.turn (c.args.torus.now.triple.p * c.args.torus.now.triple.q) c.args.masks.now.items c.requires.turn double

pub loop-da-init : goal.loop-da-init
loop-da-init g c = record {
  points = c.loop-db.invariant.points;
  masks = let none : c.loop-db.db * c.args.torus.now.triple.p ≡ c.loop-db.db * c.args.torus.now.triple.p + 0 = omega arith in subst (λ n. AddsMasks g.G.Grid.geometry c.args.torus.now.cells.now c.args.torus.now.triple c.args.turn n c.args.masks.now.items c.loop-db.masks.items) none c.loop-db.invariant.masks;
}

pub word_of-requires-in-loop-da : goal.word_of-requires-in-loop-da
word_of-requires-in-loop-da g c = subst (All (λ p. p < 64)) (sym c.as_slice-in-loop-da.ensures.value) (points_few g.G.Grid.geometry g.met.G.Grid.laws c.args.torus.now.cells.now c.args.torus.now.triple c.args.torus.now.numbers.now c.args.torus.now.maskable (tile_at c.args.turn c.loop-da.da c.loop-db.db) c.loop-da.points.items c.loop-da.invariant.points)

pub take_step-requires : goal.take_step-requires
take_step-requires g c =
    subst (λ (ps : List ℕ). All (λ p. p < length c.as_slice-in-loop-da-2.result.now) ps) (sym c.as_mut_slice.ensures.value)
    (subst (λ (step : List ℕ). All (λ p. p < length step) c.loop-da.points.items) (sym c.as_slice-in-loop-da-2.ensures.value)
    (points_within g.G.Grid.geometry g.met.G.Grid.laws c.args.torus.now.cells.now c.args.torus.now.triple c.args.torus.now.numbers.now c.args.torus.now.maskable (tile_at c.args.turn c.loop-da.da c.loop-db.db) c.loop-da.points.items c.args.steps.now.right.items (pos 1) (pos 0) c.loop-da.invariant.points c.requires.steps.right))

pub loop-da-preserved : goal.loop-da-preserved
loop-da-preserved g c =
    let width = ap (λ (t : Triple). t.p) c.triple.view_is in
    let less : c.loop-da.da < c.args.torus.now.triple.p = omega (arith, width, c.loop-da-test.true, c.loop-da.auto.da-end) in
    record {
      points = tile_right g.G.Grid.geometry g.met.G.Grid.laws c.args.torus.now.cells.now c.args.torus.now.triple c.args.torus.now.numbers.now c.args.torus.now.maskable c.args.turn c.requires.turn c.loop-da.da c.loop-db.db c.loop-da.points.items c.loop-da.invariant.points c.args.steps.now.right.items
          (refill (length c.loop-da.points.items) c.loop-da.points.items c.take_step.new.points) c.requires.steps.right
          (stepped c.args.steps.now.right.items c.as_mut_slice.result.now c.loop-da.points.items c.take_step.new.points c.as_mut_slice.ensures.value (c.take_step.ensures ∙ ap (λ (step : List ℕ). map (slice_index step) c.as_mut_slice.result.now) c.as_slice-in-loop-da-2.ensures.value));
      masks = elim c.match-word_of.branch [
        | in-Some+in_ok-push w ↦
            subst (λ (v : List ℕ). AddsMasks g.G.Grid.geometry c.args.torus.now.cells.now c.args.torus.now.triple c.args.turn (c.loop-db.db * c.args.torus.now.triple.p + (c.loop-da.da + 1)) c.args.masks.now.items v) (sym (λ i. (w.masks-is i).items))
            (tile_added g.G.Grid.geometry g.met.G.Grid.laws c.args.torus.now.cells.now c.args.torus.now.triple c.args.torus.now.numbers.now c.args.torus.now.maskable c.args.turn c.requires.turn c.loop-da.da c.loop-db.db c.loop-da.points.items c.loop-da.invariant.points less c.args.masks.now.items c.loop-da.masks.items c.loop-da.invariant.masks w.in-Some.mask w.push.new.self.items
            (subst (λ (ps : List ℕ). HasBits ps w.in-Some.mask) c.as_slice-in-loop-da.ensures.value w.in-Some.ensures.found) w.in_ok-push.ensures.items)
        | in_default w ↦
            subst (λ (v : List ℕ). AddsMasks g.G.Grid.geometry c.args.torus.now.cells.now c.args.torus.now.triple c.args.turn (c.loop-db.db * c.args.torus.now.triple.p + (c.loop-da.da + 1)) c.args.masks.now.items v) (sym (λ i. (w.masks-is i).items))
            (tile_left_out g.G.Grid.geometry g.met.G.Grid.laws c.args.torus.now.cells.now c.args.torus.now.triple c.args.torus.now.numbers.now c.args.torus.now.maskable c.args.turn c.requires.turn c.loop-da.da c.loop-db.db c.loop-da.points.items c.loop-da.invariant.points less c.args.masks.now.items c.loop-da.masks.items c.loop-da.invariant.masks
            (subst HasTwice c.as_slice-in-loop-da.ensures.value w.in_default.ensures.none))
      ];
    }

pub take_step-requires-in-loop-db : goal.take_step-requires-in-loop-db
take_step-requires-in-loop-db g c =
    subst (λ (ps : List ℕ). All (λ p. p < length c.as_slice-in-loop-db.result.now) ps) (sym c.as_mut_slice-in-loop-db.ensures.value)
    (subst (λ (step : List ℕ). All (λ p. p < length step) c.loop-da.points.items) (sym c.as_slice-in-loop-db.ensures.value)
    (points_within g.G.Grid.geometry g.met.G.Grid.laws c.args.torus.now.cells.now c.args.torus.now.triple c.args.torus.now.numbers.now c.args.torus.now.maskable (tile_at c.args.turn c.loop-da.da c.loop-db.db) c.loop-da.points.items c.args.steps.now.up.items (pos 0) (pos 1) c.loop-da.invariant.points c.requires.steps.up))

pub loop-db-preserved : goal.loop-db-preserved
loop-db-preserved g c =
    let width = ap (λ (t : Triple). t.p) c.triple.view_is in
    let last : c.loop-da.da ≡ c.args.torus.now.triple.p = omega (arith, width, c.loop-da-test.false, c.loop-da.auto.da-end) in
    record {
      points = tile_up g.G.Grid.geometry g.met.G.Grid.laws c.args.torus.now.cells.now c.args.torus.now.triple c.args.torus.now.numbers.now c.args.torus.now.maskable c.args.turn c.requires.turn c.loop-da.da c.loop-db.db c.loop-da.points.items c.loop-da.invariant.points last c.args.steps.now.up.items
          (refill (length c.loop-da.points.items) c.loop-da.points.items c.take_step-in-loop-db.new.points) c.requires.steps.up
          (stepped c.args.steps.now.up.items c.as_mut_slice-in-loop-db.result.now c.loop-da.points.items c.take_step-in-loop-db.new.points c.as_mut_slice-in-loop-db.ensures.value (c.take_step-in-loop-db.ensures ∙ ap (λ (step : List ℕ). map (slice_index step) c.as_mut_slice-in-loop-db.result.now) c.as_slice-in-loop-db.ensures.value));
      masks = row_added g.G.Grid.geometry g.met.G.Grid.laws c.args.torus.now.cells.now c.args.torus.now.triple c.args.torus.now.numbers.now c.args.torus.now.maskable c.args.turn c.requires.turn c.loop-db.db c.args.masks.now.items c.loop-da.masks.items c.loop-da.da last c.loop-da.invariant.masks;
    }

pub returns : goal.returns
returns g c =
    let height = ap (λ (t : Triple). t.q) c.triple.view_is in
    let last : c.loop-db.db ≡ c.args.torus.now.triple.q = omega (arith, height, c.loop-db-test.false, c.loop-db.auto.db-end) in
    subst (λ n. AddsMasks g.G.Grid.geometry c.args.torus.now.cells.now c.args.torus.now.triple c.args.turn n c.args.masks.now.items c.loop-db.masks.items) (all_rows c.loop-db.db c.args.torus.now.triple.p c.args.torus.now.triple.q last) c.loop-db.invariant.masks
