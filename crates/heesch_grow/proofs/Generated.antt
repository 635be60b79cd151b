-- Shapes that grow by draws.
use Rattle.std.proofs.Common.{◌≡◌, ℕ, zero, suc, ◌+◌, ◌*◌, ◌≤◌, true, false, List, [], ◌∷◌, length, Contains, sym, ap, ◌∙◌, subst, refl, arith, inl, inr, add-one}
use Rattle.std.specs.Prelude.{slice_get, unwrap_or, ◌%◌}
use Rattle.std.proofs.lemmas.Int.{ints}
use Rattle.std.proofs.lemmas.List.Elements.{All-contains}
use Rattle.heesch_grid.specs.declared.Cell.{Cell}
use Rattle.heesch_grid.specs.Cells.{cell_before, has, IsCellListOf}
use Rattle.heesch_grid.specs.Geometry.{Geometry, IsGrid, Adjacent}
use Rattle.heesch_grid.specs.Pairs.{has-true}
use Rattle.heesch_grid.specs.Polyform.{IsFreePolyform}
use Rattle.heesch_grid.specs.Vectors.{IsWithin}
use Rattle.heesch_grid.proofs.Adding.{added_length, added_polyform}
use Rattle.heesch_grid.proofs.CellFacts.{has-is, cell_before-irreflexive, cell_before-asymmetric}
use Rattle.heesch_grid.proofs.GridFacts.{adjacent_near}
use Rattle.heesch_grid.proofs.IsometryFacts.{image_polyform}
use Rattle.heesch_grid.proofs.ListFacts.{member_at, member_cases, no_member, same_listing}
use Rattle.heesch_grow.specs.Generator.{IsBeside, IsDrawn, AddsDrawn, IsGrownBy, GrownArePolyforms, GrownAreDetermined, drawn, state_after, next_state}
use Rattle.heesch_grow.proofs.Gathered.{free_length, free_near}
use Rattle.heesch_grid.proofs.GrowthOfLists.{not_has}
use Rattle.heesch_shape.specs.Walks.{IsShape}
use Rattle.heesch_grow.proofs.OneCell.{first_is_free_list}

-- the cell that a draw chooses lies beside the shape
pub drawn_beside : (g : Geometry) (draw : ℕ) (shape : List Cell) (c : Cell) → IsDrawn g draw shape c → IsBeside g shape c
drawn_beside g draw shape c d =
    All-contains (IsBeside g shape) d.beside c d.listed.only (member_at d.beside (draw % length d.beside) c d.is_at)

-- ---- polyforms of a cell more

pub grown_are_polyforms : GrownArePolyforms
grown_are_polyforms g seed zero cells law free = (image_polyform g law free.cells cells free.polyform free.canonical.is_image, free_length g law 1 cells free)
grown_are_polyforms g seed (suc draws) cells law grown =
    let smaller = grown.0 in
    let adds = grown.2 in
    let before = grown_are_polyforms g seed draws smaller law grown.1 in
    let b = drawn_beside g (drawn (state_after (suc draws) seed)) smaller adds.added adds.is_drawn in
    let long = added_length g law smaller before.0 b.member adds.added b.inside b.adjacent b.outside cells adds.is_list in
    (added_polyform g law smaller before.0 b.member adds.added b.inside b.adjacent b.outside cells adds.is_list, (let e = before.1 in omega arith))

-- ---- only one

one_free : (g : Geometry) → IsGrid g → (xs ys : List Cell) → IsFreePolyform g 1 xs → IsFreePolyform g 1 ys → xs ≡ ys
one_free g law xs ys f h =
    elim (member_cases xs [] ys ((first_is_free_list g xs law f).every ys h)) [ inl e ↦ e | inr n ↦ absurd (no_member ys n) ]

one_drawn : (g : Geometry) (draw : ℕ) (shape : List Cell) (c d : Cell) → IsDrawn g draw shape c → IsDrawn g draw shape d → c ≡ d
one_drawn g draw shape c d p q =
    let beside : p.beside ≡ q.beside = same_listing cell_before cell_before-irreflexive cell_before-asymmetric (IsBeside g shape) p.beside q.beside p.listed q.listed in
    ap (λ o. unwrap_or o c) (sym p.is_at ∙ ap (λ zs. slice_get zs (draw % length zs)) beside ∙ q.is_at)

one_added : (g : Geometry) (draw : ℕ) (shape xs ys : List Cell) → AddsDrawn g draw shape xs → AddsDrawn g draw shape ys → xs ≡ ys
one_added g draw shape xs ys p q =
    let added : p.added ≡ q.added = one_drawn g draw shape p.added q.added p.is_drawn q.is_drawn in
    let list : IsCellListOf (q.added ∷ shape) xs = subst (λ c. IsCellListOf (c ∷ shape) xs) added p.is_list in
    same_listing cell_before cell_before-irreflexive cell_before-asymmetric (Contains (q.added ∷ shape)) xs ys list q.is_list

pub grown_are_determined : GrownAreDetermined
grown_are_determined g seed zero cells other law p q = one_free g law cells other p q
grown_are_determined g seed (suc draws) cells other law p q =
    let smaller : p.0 ≡ q.0 = grown_are_determined g seed draws p.0 q.0 law p.1 q.1 in
    let draw = drawn (state_after (suc draws) seed) in
    one_added g draw q.0 cells other (subst (λ zs. AddsDrawn g draw zs cells) smaller p.2) q.2

-- ---- one draw

pub grown_more : (g : Geometry) (seed draws : ℕ) (smaller result : List Cell) → IsGrownBy g seed draws smaller → AddsDrawn g (drawn (next_state (state_after draws seed))) smaller result → IsGrownBy g seed (draws + 1) result
grown_more g seed draws smaller result so_far adds = subst (λ n. IsGrownBy g seed n result) (sym (add-one draws)) (smaller, so_far, adds)

pub state_more : (seed draws : ℕ) → next_state (state_after draws seed) ≡ state_after (draws + 1) seed
state_more seed draws = sym (ap (λ n. state_after n seed) (add-one draws))

-- coordinates stay small
pub near_beside : (g : Geometry) → IsGrid g → (m : ℕ) (c d : Cell) → IsWithin m c → Adjacent g c d → IsWithin (m + 4) d
near_beside g law m c d w a =
    let n = adjacent_near g law c d a in
    record { a_low = omega (arith, ints, w.a_low, n.a_low); a_high = omega (arith, ints, w.a_high, n.a_high); b_low = omega (arith, ints, w.b_low, n.b_low); b_high = omega (arith, ints, w.b_high, n.b_high) }

pub near_more : (g : Geometry) → IsGrid g → (m : ℕ) (draw : ℕ) (shape result : List Cell) → ((c : Cell) → has shape c ≡ true → IsWithin m c) → AddsDrawn g draw shape result → (c : Cell) → has result c ≡ true → IsWithin (m + 4) c
near_more g law m draw shape result near adds c h =
    let b = drawn_beside g draw shape adds.added adds.is_drawn in
    elim (member_cases adds.added shape c (All-contains (Contains (adds.added ∷ shape)) result c adds.is_list.only (has-true result c h))) [
      | inl e ↦ subst (IsWithin (m + 4)) e (near_beside g law m b.member adds.added (near b.member (has-is shape b.member b.inside)) b.adjacent)
      | inr k ↦ wider m c (near c (has-is shape c k))
    ]
  where
    wider : (m : ℕ) (c : Cell) → IsWithin m c → IsWithin (m + 4) c
    wider m c w = record { a_low = omega (arith, ints, w.a_low); a_high = omega (arith, ints, w.a_high); b_low = omega (arith, ints, w.b_low); b_high = omega (arith, ints, w.b_high) }

pub drawn_within : (g : Geometry) → IsGrid g → (m draw : ℕ) (shape : List Cell) (c : Cell) → m ≤ 1000 → ((d : Cell) → has shape d ≡ true → IsWithin m d) → IsDrawn g draw shape c → IsWithin 1000000 c
drawn_within g law m draw shape c few near d =
    let b = drawn_beside g draw shape c d in
    let w = near_beside g law m b.member c (near b.member (has-is shape b.member b.inside)) b.adjacent in
    record { a_low = omega (arith, ints, w.a_low); a_high = omega (arith, ints, w.a_high); b_low = omega (arith, ints, w.b_low); b_high = omega (arith, ints, w.b_high) }

pub drawn_adjacent : (g : Geometry) (draw : ℕ) (shape : List Cell) (c : Cell) → IsDrawn g draw shape c → (member : Cell) × (has shape member ≡ true) × Adjacent g member c
drawn_adjacent g draw shape c d = let b = drawn_beside g draw shape c d in (b.member, has-is shape b.member b.inside, b.adjacent)

pub drawn_outside : (g : Geometry) (draw : ℕ) (shape : List Cell) (c : Cell) → IsDrawn g draw shape c → has shape c ≡ false
drawn_outside g draw shape c d = not_has shape c (drawn_beside g draw shape c d).outside

-- the shape and the state after so many draws, with its coordinates small
pub record IsGrownSoFar (g : Geometry) (seed draws : ℕ) (cells : List Cell) (state : ℕ) : Type 0 where
  pub grown : IsGrownBy g seed draws cells
  pub state_is : state ≡ state_after draws seed
  pub shape : IsShape g cells
  pub size : length cells ≡ draws + 1
  pub near : (c : Cell) → has cells c ≡ true → IsWithin (200 + 4 * draws) c

-- at the start, and after one more draw
pub grown_one : (g : Geometry) → IsGrid g → (seed : ℕ) (cells : List Cell) → IsFreePolyform g 1 cells → IsShape g cells → IsGrownSoFar g seed 0 cells seed
grown_one g law seed cells free shape = record {
  grown = free;
  state_is = refl;
  shape = shape;
  size = free_length g law 1 cells free;
  near = free_near g law 1 cells (omega arith) free;
}

pub grown_next : (g : Geometry) → IsGrid g → (seed draws : ℕ) (cells : List Cell) (state next draw : ℕ) (added : Cell) (result : List Cell)
    → IsGrownSoFar g seed draws cells state → next ≡ next_state state → draw ≡ drawn next → IsDrawn g draw cells added → IsCellListOf (added ∷ cells) result → IsShape g result
    → IsGrownSoFar g seed (draws + 1) result next
grown_next g law seed draws cells state next draw added result so_far e f d list shape =
    let state_is : next ≡ next_state (state_after draws seed) = e ∙ ap next_state so_far.state_is in
    let is_draw : draw ≡ drawn (next_state (state_after draws seed)) = f ∙ ap drawn state_is in
    let adds : AddsDrawn g draw cells result = record { added = added; is_drawn = d; is_list = list } in
    let b = drawn_beside g draw cells added d in
    record {
      grown = grown_more g seed draws cells result so_far.grown (subst (λ n. AddsDrawn g n cells result) is_draw adds);
      state_is = state_is ∙ state_more seed draws;
      shape = shape;
      size = (let long = added_length g law cells so_far.shape.polyform b.member added b.inside b.adjacent b.outside result list in let before = so_far.size in omega arith);
      near = λ c h. nearer (200 + 4 * draws + 4) (200 + 4 * (draws + 1)) c (omega arith) (near_more g law (200 + 4 * draws) draw cells result so_far.near adds c h);
    }
  where
    nearer : (m n : ℕ) (c : Cell) → m ≡ n → IsWithin m c → IsWithin n c
    nearer m n c e w = subst (λ k. IsWithin k c) e w
