-- The cells of a patch: those of the shape, and those of the chosen placements up to its level.
use Rattle.std.proofs.Common.{◌≡◌, refl, sym, ap, subst, ◌∙◌, ℕ, zero, suc, ◌+◌, ◌-◌, ◌<◌, ◌≤◌, ◌⊎◌, Bool, true, false, cond, ◌&&◌, ◌==◌, List, [], ◌∷◌, ◌++◌, length, get_or, take, map, filter, All, Contains, Some, arith, inl, inr, eq-eqb, eqb-true, append-nil, append_assoc}
use Rattle.std.specs.List.{enumerate_from, flat_map, slice_get}
use Rattle.std.proofs.lemmas.Bool.{and_parts, and_from}
use Rattle.std.proofs.lemmas.List.{take_more, take_all}
use Rattle.std.proofs.lemmas.List.Concat.{flat_map-append}
use Rattle.std.proofs.lemmas.List.Elements.{Contains-append_left, Contains-append_right, Contains-append_cases}
use Rattle.std.proofs.lemmas.List.FromFn.{length-enumerate_from, get_or-enumerate_from}
use Rattle.std.proofs.lemmas.Option.{get_or_from_slice_get}
use Rattle.heesch_grid.specs.declared.Cell.{Cell}
use Rattle.heesch_grid.specs.Vectors.{IsWithin}
use Rattle.heesch_grid.specs.Geometry.{Geometry}
use Rattle.heesch_grid.specs.Pairs.{All-by_members}
use Rattle.heesch_grid.specs.Corona.{cells_of}
use Rattle.heesch_grid.specs.CoronaFormula.{Variable, IsNumbered}
use Rattle.heesch_grid.specs.Statements.{chosen_layer}
use Rattle.heesch_grid.proofs.ListFacts.{member_filter, filter_member}
use Rattle.heesch_grid.proofs.TileFacts.{member_cells, cells_member}
use Rattle.heesch_grid.proofs.WindowFacts.{member_map, map_member}
use Rattle.heesch_shape.specs.Walks.{IsShape}
use Rattle.heesch_cnf.specs.Clauses.{assignment_of}
use Rattle.heesch_place.specs.Universes.{Levels}
use Rattle.heesch_cuts.specs.Patches.{patch_cells, layer_cells}
use Rattle.heesch_cuts.proofs.Covering.{Entry, get_below, get_at}

pub shape_within : (g : Geometry) (cells : List Cell) → IsShape g cells → All (IsWithin 1000000) cells
shape_within g cells s = All-by_members (IsWithin 1000000) cells s.within

-- ---- one layer

-- one more variable's cells
pub layer_more : (F : Entry → List Cell) (vars : List Variable) (i : ℕ) (v : Variable) → slice_get vars i ≡ Some v → flat_map F (take (i + 1) (enumerate_from 1 vars)) ≡ flat_map F (take i (enumerate_from 1 vars)) ++ F (i + 1, v)
layer_more F vars i v e =
    let xs : List Entry = enumerate_from 1 vars in
    let less : i < length vars = get_below vars i v e in
    let long : length xs ≡ length vars = length-enumerate_from 1 vars in
    let inside : i < length xs = omega arith in
    let at : get_or xs i (0, v) ≡ (1 + i, get_or vars i v) = get_or-enumerate_from 1 vars i (0, v) less in
    let number : 1 + i ≡ i + 1 = omega arith in
    let item : get_or xs i (0, v) ≡ (i + 1, v) = at ∙ (λ j. (number j, get_or_from_slice_get vars i v v e j)) in
    ap (flat_map F) (take_more xs i (0, v) inside ∙ ap (λ x. take i xs ++ x ∷ []) item) ∙ flat_map-append F (take i xs) ((i + 1, v) ∷ []) ∙ ap (λ ys. flat_map F (take i xs) ++ ys) (append-nil (F (i + 1, v)))

-- one more step of a walk over the numbers
pub layer_step : (F : Entry → List Cell) (vars : List Variable) (i : ℕ) (start old new : List Cell) → i < length vars → old ≡ start ++ flat_map F (take i (enumerate_from 1 vars)) → ((x : Variable) → IsNumbered vars (i + 1) x → new ≡ old ++ F (i + 1, x)) → new ≡ start ++ flat_map F (take (i + 1) (enumerate_from 1 vars))
layer_step F vars i start old new less e h =
    let r = get_at vars i less in
    let same : i ≡ i + 1 - 1 = omega arith in
    let number : IsNumbered vars (i + 1) r.0 = (omega arith, subst (λ k. slice_get vars k ≡ Some r.0) same r.1) in
    h r.0 number ∙ ap (λ xs. xs ++ F (i + 1, r.0)) e ∙ append_assoc start (flat_map F (take i (enumerate_from 1 vars))) (F (i + 1, r.0)) ∙ ap (λ xs. start ++ xs) (sym (layer_more F vars i r.0 r.1))

pub layer_all : (F : Entry → List Cell) (vars : List Variable) (i : ℕ) → length vars ≤ i → flat_map F (take i (enumerate_from 1 vars)) ≡ flat_map F (enumerate_from 1 vars)
layer_all F vars i past = let long : length (enumerate_from 1 vars) ≡ length vars = length-enumerate_from 1 vars in ap (flat_map F) (take_all i (enumerate_from 1 vars) (omega arith))

module _ (values : List Bool) (k : ℕ) where
  abbrev chosen_now : Entry → Bool
  chosen_now x = (x.1.level == k) && assignment_of values x.0

  -- what the variables bring is the cells of the chosen layer
  pub layer_is : (xs : List Entry) → flat_map (layer_cells values k) xs ≡ cells_of (map (λ x. x.1.tile) (filter (λ x. (x.1.level == k) && assignment_of values x.0) xs))
  layer_is [] = refl
  layer_is (x ∷ xs) = one (chosen_now x) (layer_is xs)
    where
      one : (b : Bool) → flat_map (layer_cells values k) xs ≡ cells_of (map (λ (x : Entry). x.1.tile) (filter chosen_now xs)) → cond b x.1.tile [] ++ flat_map (layer_cells values k) xs ≡ cells_of (map (λ (x : Entry). x.1.tile) (cond b (x ∷ filter chosen_now xs) (filter chosen_now xs)))
      one true e = ap (λ ys. x.1.tile ++ ys) e
      one false e = e

-- ---- the patch

-- a chosen variable of level at most k whose placement has the cell
pub record IsInChosen (vars : List Variable) (values : List Bool) (k : ℕ) (c : Cell) : Type 0 where
  pub entry : Entry
  pub is_entry : Contains (enumerate_from 1 vars) entry
  pub level : entry.1.level ≤ k
  pub value : assignment_of values entry.0 ≡ true
  pub member : Contains entry.1.tile c

module _ (u : Levels) (values : List Bool) where
  layer_member : (k : ℕ) (c : Cell) → Contains (cells_of (chosen_layer (assignment_of values) u.vars k)) c → IsInChosen u.vars values k c
  layer_member k c m =
      let r = cells_member (chosen_layer (assignment_of values) u.vars k) c m in
      let xs : List Entry = enumerate_from 1 u.vars in
      let x : (x : Entry) × Contains (filter (chosen_now values k) xs) x × (x.1.tile ≡ r.0) = map_member (λ (x : Entry). x.1.tile) (filter (chosen_now values k) xs) r.0 r.1 in
      let f = filter_member (chosen_now values k) xs x.0 x.1 in
      let both = and_parts (x.0.1.level == k) (assignment_of values x.0.0) f.1 in
      record {
        entry = x.0;
        is_entry = f.0;
        level = let e = eqb-true x.0.1.level k both.0 in omega arith;
        value = both.1;
        member = subst (λ t. Contains t c) (sym x.2) r.2;
      }

  member_layer : (k : ℕ) (c : Cell) (x : Entry) → Contains (enumerate_from 1 u.vars) x → x.1.level ≡ k → assignment_of values x.0 ≡ true → Contains x.1.tile c → Contains (cells_of (chosen_layer (assignment_of values) u.vars k)) c
  member_layer k c x m e t n =
      let xs : List Entry = enumerate_from 1 u.vars in
      let kept : Contains (filter (chosen_now values k) xs) x = member_filter (chosen_now values k) xs x m (and_from (x.1.level == k) (assignment_of values x.0) (eq-eqb x.1.level k e) t) in
      member_cells (chosen_layer (assignment_of values) u.vars k) x.1.tile c (member_map (λ (x : Entry). x.1.tile) (filter (chosen_now values k) xs) x kept) n

  pub patch_member : (k : ℕ) (c : Cell) → Contains (patch_cells u values k) c → Contains u.shape c ⊎ IsInChosen u.vars values k c
  patch_member zero c m = inl m
  patch_member (suc k) c m =
      elim (Contains-append_cases (patch_cells u values k) (cells_of (chosen_layer (assignment_of values) u.vars (suc k))) c m) [
        | inl h ↦ elim (patch_member k c h) [ inl s ↦ inl s | inr x ↦ inr (record { entry = x.entry; is_entry = x.is_entry; level = let l = x.level in omega arith; value = x.value; member = x.member }) ]
        | inr h ↦ inr (layer_member (suc k) c h)
      ]

  pub shape_patch : (k : ℕ) (c : Cell) → Contains u.shape c → Contains (patch_cells u values k) c
  shape_patch zero c m = m
  shape_patch (suc k) c m = Contains-append_left (patch_cells u values k) (cells_of (chosen_layer (assignment_of values) u.vars (suc k))) c (shape_patch k c m)

  pub tile_patch : (k : ℕ) (c : Cell) (x : Entry) → Contains (enumerate_from 1 u.vars) x → 1 ≤ x.1.level → x.1.level ≤ k → assignment_of values x.0 ≡ true → Contains x.1.tile c → Contains (patch_cells u values k) c
  tile_patch zero c x m low high t n = absurd (omega arith)
  tile_patch (suc k) c x m low high t n =
      elim (last_or_less x.1.level k high) [
        | inl e ↦ Contains-append_right (patch_cells u values k) (cells_of (chosen_layer (assignment_of values) u.vars (suc k))) c (member_layer (suc k) c x m e t n)
        | inr l ↦ Contains-append_left (patch_cells u values k) (cells_of (chosen_layer (assignment_of values) u.vars (suc k))) c (tile_patch k c x m low l t n)
      ]
    where
      last_or_less : (l k : ℕ) → l ≤ suc k → (l ≡ suc k) ⊎ (l ≤ k)
      last_or_less l k h = grind arith

-- one more layer
pub patch_more : (u : Levels) (values : List Bool) (k : ℕ) (old new : List Cell) → old ≡ patch_cells u values k → new ≡ old ++ cells_of (chosen_layer (assignment_of values) u.vars (k + 1)) → new ≡ patch_cells u values (k + 1)
patch_more u values k old new e h =
    let next : k + 1 ≡ suc k = omega arith in
    h ∙ ap (λ xs. xs ++ cells_of (chosen_layer (assignment_of values) u.vars (k + 1))) e ∙ ap (λ j. patch_cells u values k ++ cells_of (chosen_layer (assignment_of values) u.vars j)) next ∙ ap (patch_cells u values) (sym next)
