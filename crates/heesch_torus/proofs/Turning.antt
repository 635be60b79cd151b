-- One turn more: its masks, that it has no cover, and the nodes that it takes.
use Rattle.std.proofs.Common.{◌≡◌, sym, subst, ℕ, ◌+◌, ◌-◌, ◌*◌, ◌<◌, ◌≤◌, List, ◌∷◌, length, inl, inr, arith, All, Contains}
use Rattle.std.specs.List.{sum}
use Rattle.std.proofs.lemmas.List.Sums.{sum_by-cons}
use Rattle.std.proofs.lemmas.Bool.{cases_order}
use Rattle.heesch_grid.specs.declared.Cell.{Cell}
use Rattle.heesch_grid.specs.Geometry.{Geometry, IsGrid}
use Rattle.heesch_grid.specs.Lattice.{Triple, IsTriple}
use Rattle.heesch_grid.specs.Polyform.{IsPolyform}
use Rattle.heesch_torus.specs.Formula.{reduced_cells}
use Rattle.heesch_torus.specs.Beside.{FillBeside, CountsChoices}
use Rattle.heesch_torus.specs.Masks.{IsMaskOf, AddsMasks, HasMasksFrom}
use Rattle.heesch_torus.specs.Covers.{HasAllPoints, unmoved, HasNoCoverAt, HasPartialCovers, HasPartialCoversFrom, AreFewNodes}
use Rattle.heesch_torus.proofs.Images.{in_grid}
use Rattle.heesch_torus.proofs.Masking.{masks_of_turn}
use Rattle.heesch_torus.proofs.Filled.{no_cover_at}

-- ---- the nodes, and partial covers

-- choices of masks beside the tile of a turn at (0, 0) are partial covers
pub choices_are : (g : Geometry) (shape : List Cell) (t : Triple) (full turn first : ℕ) → IsMaskOf g shape t (unmoved turn) first → (masks : List ℕ) → HasMasksFrom g shape t turn masks → (count : ℕ) → CountsChoices masks first full count → HasPartialCovers g shape t full turn count
choices_are g shape t full turn first is masks have count counts = inr (record {
  first = first;
  is_first = is;
  beside = counts.beside;
  are = record {
    rising = counts.are.rising;
    only = λ m i. let o = counts.are.only m i in let x = have.only m o.0 in (o.1, x.0, x.1, x.2, x.3);
    every = λ by p low m mask apart. counts.are.every m (have.every by p low m mask) apart;
  };
  count_is = counts.count_is;
})

-- the nodes that were spent before a turn are at most the partial covers of the later ones
pub record IsSpentFrom (g : Geometry) (shape : List Cell) (t : Triple) (full turn nodes left : ℕ) : Type 0 where
  pub counts : List ℕ
  pub are : HasPartialCoversFrom g shape t full turn counts
  pub spent : nodes ≤ left + sum counts

module _ (g : Geometry) (shape : List Cell) (t : Triple) (full turns done nodes : ℕ) (all : turns ≡ g.turns) (less : done < turns) where
  one_more : (counts : List ℕ) → HasPartialCoversFrom g shape t full (g.turns - done) counts → HasPartialCoversFrom g shape t full (turns - 1 - done + 1) counts
  one_more counts are = let e : g.turns - done ≡ turns - 1 - done + 1 = omega arith in subst (λ n. HasPartialCoversFrom g shape t full n counts) e are

  -- these are too few for one turn more
  pub few_nodes : (left : ℕ) → IsSpentFrom g shape t full (g.turns - done) nodes left → HasAllPoints g t full → (count : ℕ) → HasPartialCovers g shape t full (turns - 1 - done) count → left < count → AreFewNodes g shape t nodes
  few_nodes left before points count has short = record {
    full = full;
    points = points;
    turn = turns - 1 - done;
    counts = count ∷ before.counts;
    are = (has, one_more before.counts before.are);
    fewer = let s = before.spent in let e = sum_by-cons (λ x. x) count before.counts in omega arith;
  }

  pub used_more : (old new : ℕ) → IsSpentFrom g shape t full (g.turns - done) nodes old → (count : ℕ) → HasPartialCovers g shape t full (turns - 1 - done) count → old ≤ new + count → IsSpentFrom g shape t full (g.turns - (done + 1)) nodes new
  used_more old new before count has more =
      let e : turns - 1 - done ≡ g.turns - (done + 1) = omega arith in
      record {
        counts = count ∷ before.counts;
        are = subst (λ n. HasPartialCoversFrom g shape t full n (count ∷ before.counts)) e (has, one_more before.counts before.are);
        spent = let s = before.spent in let e = sum_by-cons (λ x. x) count before.counts in omega arith;
      }

-- one turn more, counted from the last
pub masks_now : (g : Geometry) → IsGrid g → (shape : List Cell) (t : Triple) → IsTriple t → IsPolyform g shape → (turns done : ℕ) → turns ≡ g.turns → done < turns → (old new masks : List ℕ) → masks ≡ new → HasMasksFrom g shape t (g.turns - done) old → AddsMasks g shape t (turns - 1 - done) (t.p * t.q) old new → HasMasksFrom g shape t (turns - 1 - done) masks
masks_now g law shape t triple form turns done all less old new masks e have adds =
    let before : g.turns - done ≡ turns - 1 - done + 1 = omega arith in
    subst (HasMasksFrom g shape t (turns - 1 - done)) (sym e)
    (masks_of_turn g shape t law triple (in_grid g shape form) (turns - 1 - done) old new (omega arith) (subst (λ n. HasMasksFrom g shape t n old) before have) adds)

module _ (g : Geometry) (law : IsGrid g) (shape : List Cell) (form : IsPolyform g shape) (t : Triple) (triple : IsTriple t) (full : ℕ) (points : HasAllPoints g t full) (small : length (reduced_cells g t) ≤ 64) (turns done : ℕ) (all : turns ≡ g.turns) (less : done < turns) where
  pub next_masks : (masks : List ℕ) → HasMasksFrom g shape t (turns - 1 - done) masks → HasMasksFrom g shape t (g.turns - (done + 1)) masks
  next_masks masks have = let e : turns - 1 - done ≡ g.turns - (done + 1) = omega arith in subst (λ n. HasMasksFrom g shape t n masks) e have

  pub next_none : (masks : List ℕ) → HasMasksFrom g shape t (turns - 1 - done) masks → ((first : ℕ) → IsMaskOf g shape t (unmoved (turns - 1 - done)) first → (found : List ℕ) → All (Contains masks) found → ¬ FillBeside first full found) → ((turn : ℕ) → g.turns - done ≤ turn → turn < g.turns → HasNoCoverAt g shape t turn) → (turn : ℕ) → g.turns - (done + 1) ≤ turn → turn < g.turns → HasNoCoverAt g shape t turn
  next_none masks have none before turn low below = elim (cases_order turn (turns - 1 - done)) [
    | inl e ↦ subst (HasNoCoverAt g shape t) (sym e) (no_cover_at g law shape form t triple (turns - 1 - done) masks full (omega arith) small have points none)
    | inr o ↦ elim o [ inl early ↦ absurd (omega arith) | inr late ↦ before turn (omega arith) below ]
  ]
