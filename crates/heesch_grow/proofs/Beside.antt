-- The cells beside a shape.
use Rattle.std.proofs.Common.{◌≡◌, ℕ, ◌+◌, ◌<◌, ◌≤◌, ◌⊎◌, Bool, true, false, ◌||◌, List, [], ◌∷◌, ◌++◌, length, take, get_or, Contains, IsPermutation, IsSorted, sym, ap, ◌∙◌, subst, arith, inl, inr, true≢false}
use Rattle.std.specs.Prelude.{◌≤ℤ◌, Some, slice_get, unwrap_or}
use Rattle.std.specs.List.{IsDistinct}
use Rattle.std.proofs.Math.Seq.{take-length}
use Rattle.std.proofs.lemmas.Int.{ints}
use Rattle.std.proofs.lemmas.Bool.{cases_order, or_cases}
use Rattle.std.proofs.lemmas.List.Folds.{list_any-append}
use Rattle.std.proofs.lemmas.List.Sorted.{list_any-IsPermutation}
use Rattle.std.proofs.lemmas.Map.Keys.{IsDistinct-push, IsDistinct-IsPermutation}
use Rattle.heesch_grid.specs.declared.Cell.{Cell}
use Rattle.heesch_grid.specs.Cells.{same_cell, cell_before, cell_cmp, has, IsCellListOf}
use Rattle.heesch_grid.specs.Geometry.{Geometry, IsGrid, IsCell, Adjacent}
use Rattle.heesch_grid.specs.Listing.{ListsExactly}
use Rattle.heesch_grid.specs.Pairs.{has-true, or-left, or-right, same_cell-true, same_cell-refl}
use Rattle.heesch_grid.specs.Polyform.{IsPolyform}
use Rattle.heesch_grid.proofs.CellFacts.{has-is, has-false}
use Rattle.heesch_grid.proofs.GrowthOfLists.{not_has}
use Rattle.heesch_grid.proofs.SortFacts.{compared}
use Rattle.heesch_grid.proofs.ListFacts.{member_cases, member_here, member_there, no_member, All-from_members}
use Rattle.std.proofs.lemmas.List.Elements.{All-contains}
use Rattle.heesch_shape.specs.Reach.{IsNextTo}
use Rattle.heesch_shape.specs.Walks.{HaveSame}
use Rattle.heesch_shape.proofs.Loops.{has_more}
use Rattle.heesch_shape.proofs.Made.{same_cell_laws}
use Rattle.heesch_shape.proofs.Parting.{same_cell_flips}
use Rattle.heesch_shape.proofs.Sets.{rises_from_sorted}
use Rattle.heesch_shape.proofs.Words.{list_of_same}
use Rattle.heesch_grow.specs.Collects.{Collects}
use Rattle.heesch_grow.specs.Generator.{IsBeside, SomeCellIsBeside}
use Rattle.heesch_grow.proofs.Adding.{adjacent_at, place_in}

-- ---- there is one

-- a cell with the greatest first coordinate
record HasGreatest (xs : List Cell) : Type 0 where
  cell : Cell
  inside : Contains xs cell
  greatest : (d : Cell) → Contains xs d → d.a ≤ℤ cell.a

keeps_greatest : (x : Cell) (xs : List Cell) (h : HasGreatest xs) → x.a ≤ℤ h.cell.a → HasGreatest (x ∷ xs)
keeps_greatest x xs h below = record {
  cell = h.cell;
  inside = member_there x xs h.cell h.inside;
  greatest = λ d m. elim (member_cases x xs d m) [
    | inl e ↦ let f : d.a ≡ x.a = ap (λ (c : Cell). c.a) (sym e) in omega (arith, ints)
    | inr n ↦ h.greatest d n
  ];
}

new_greatest : (x : Cell) (xs : List Cell) → ((d : Cell) → Contains xs d → d.a ≤ℤ x.a) → HasGreatest (x ∷ xs)
new_greatest x xs above = record {
  cell = x;
  inside = member_here x xs;
  greatest = λ d m. elim (member_cases x xs d m) [
    | inl e ↦ let f : d.a ≡ x.a = ap (λ (c : Cell). c.a) (sym e) in omega (arith, ints)
    | inr n ↦ above d n
  ];
}

greatest_of : (x : Cell) (xs : List Cell) → HasGreatest (x ∷ xs)
greatest_of x [] = new_greatest x [] (λ d m. absurd (no_member d m))
greatest_of x (y ∷ ys) =
    let h = greatest_of y ys in
    elim (compared x.a h.cell.a) [
      | inl below ↦ keeps_greatest x (y ∷ ys) h (omega (arith, ints))
      | inr o ↦ elim o [
        | inl same ↦ keeps_greatest x (y ∷ ys) h (omega (arith, ints))
        | inr above ↦ new_greatest x (y ∷ ys) (λ d m. let l = h.greatest d m in omega (arith, ints))
      ]
    ]

has_greatest : (xs : List Cell) → 0 < length xs → HasGreatest xs
has_greatest [] l = absurd (omega arith)
has_greatest (x ∷ xs) l = greatest_of x xs

pub some_cell_is_beside : SomeCellIsBeside
some_cell_is_beside g shape law form =
    let top = has_greatest shape form.some in
    let top_in : IsCell g top.cell = All-contains (IsCell g) shape top.cell form.is_set.in_grid top.inside in
    let next = law.greater_a top.cell top_in in (
      next.0,
      record {
        outside = λ m. let l = top.greatest next.0 m in let k = next.2 in absurd (omega (arith, ints));
        member = top.cell;
        inside = top.inside;
        adjacent = next.1;
      },
    )

-- ---- collecting them

-- the cell is one of the first i neighbours of c
pub record IsNeighbourBelow (g : Geometry) (c : Cell) (i : ℕ) (d : Cell) : Type 0 where
  pub place : ℕ
  pub below : place < i
  pub is_at : slice_get (g.adjacent c) place ≡ Some d

-- what a test of a copy of the list answered
pub told : (mid copy : List Cell) (d : Cell) (answer b : Bool) → copy ≡ mid → answer ≡ has copy d → answer ≡ b → has mid d ≡ b
told mid copy d answer b e h k = ap (λ zs. has zs d) (sym e) ∙ sym h ∙ k

module _ (g : Geometry) (law : IsGrid g) (shape : List Cell) where
  module _ (c : Cell) (c_in : IsCell g c) (inside : has shape c ≡ true) where
    same_place : (i : ℕ) (d e : Cell) → slice_get (g.adjacent c) i ≡ Some d → slice_get (g.adjacent c) i ≡ Some e → d ≡ e
    same_place i d e p q = ap (λ o. unwrap_or o d) (sym p ∙ q)

    -- of the first i + 1 neighbours one is the next or of the first i
    by_place : (i : ℕ) (d e : Cell) → slice_get (g.adjacent c) i ≡ Some d → IsNeighbourBelow g c (i + 1) e → (d ≡ e) ⊎ IsNeighbourBelow g c i e
    by_place i d e at h =
        elim (cases_order h.place i) [
          | inl s ↦ inl (same_place i d e at (ap (slice_get (g.adjacent c)) (sym s) ∙ h.is_at))
          | inr o ↦ elim o [ inl less ↦ inr (record { place = h.place; below = less; is_at = h.is_at }) | inr more ↦ absurd (let l = h.below in omega arith) ]
        ]

    has_push : (new : List Cell) (d e : Cell) → has (new ++ d ∷ []) e ≡ (has new e || (same_cell e d || false))
    has_push new d e = list_any-append (same_cell e) new (d ∷ [])

    pub collects_push : (i : ℕ) (d : Cell) (old new : List Cell) → slice_get (g.adjacent c) i ≡ Some d → has shape d ≡ false → has new d ≡ false → Collects g shape (IsNeighbourBelow g c i) old new → Collects g shape (IsNeighbourBelow g c (i + 1)) old (new ++ d ∷ [])
    collects_push i d old new at outside fresh h = record {
      collection = record {
        distinct = IsDistinct-push {eq = same_cell} same_cell_laws new d h.collection.distinct fresh;
        only = λ e k. elim (or_cases (has new e) (same_cell e d || false) (sym (has_push new d e) ∙ k)) [
          | inl m ↦ h.collection.only e m
          | inr s ↦ elim (or_cases (same_cell e d) false s) [
            | inl t ↦ subst (IsBeside g shape) (sym (same_cell-true e d t)) (record { outside = has-false shape d outside; member = c; inside = has-true shape c inside; adjacent = adjacent_at g law shape c d i c_in at })
            | inr n ↦ absurd (true≢false (sym n))
          ]
        ];
      };
      kept = λ e k. has_push new d e ∙ or-left (has new e) (same_cell e d || false) (h.kept e k);
      all = λ e k o. has_push new d e ∙ elim (by_place i d e at k) [
        | inl s ↦ or-right (has new e) (same_cell e d || false) (or-left (same_cell e d) false (subst (λ z. same_cell z d ≡ true) s (same_cell-refl d)))
        | inr m ↦ or-left (has new e) (same_cell e d || false) (h.all e m o)
      ];
    }

    pub collects_skip : (i : ℕ) (d : Cell) (old new : List Cell) → slice_get (g.adjacent c) i ≡ Some d → (has shape d ≡ true) ⊎ (has new d ≡ true) → Collects g shape (IsNeighbourBelow g c i) old new → Collects g shape (IsNeighbourBelow g c (i + 1)) old new
    collects_skip i d old new at why h = record {
      collection = h.collection;
      kept = h.kept;
      all = λ e k o. elim (by_place i d e at k) [
        | inl s ↦ elim why [
          | inl within ↦ absurd (true≢false (sym within ∙ ap (has shape) s ∙ o))
          | inr there ↦ subst (λ z. has new z ≡ true) s there
        ]
        | inr m ↦ h.all e m o
      ];
    }

    pub collects_end : (i : ℕ) (old new : List Cell) → g.adjacent_count ≤ i → Collects g shape (IsNeighbourBelow g c i) old new → Collects g shape (Adjacent g c) old new
    collects_end i old new long h = record {
      collection = h.collection;
      kept = h.kept;
      all = λ d a o.
          let l = law.adjacent_listed c c_in in
          let k = place_in (g.adjacent c) d (l.0.every d a) in
          h.all d (record { place = k.0; below = (let count = l.1 in let below = k.1 in omega arith); is_at = k.2 }) o;
    }

  -- ---- beside the cells of the shape in turn
  none_distinct : IsDistinct same_cell []
  unfolding IsDistinct
  none_distinct = tt

  pub nothing_yet : Collects g shape (IsNextTo g []) [] []
  nothing_yet = record {
    collection = record { distinct = none_distinct; only = λ d h. absurd (true≢false (sym h)) };
    kept = λ d h. h;
    all = λ d h o. absurd (true≢false (sym h.is_in));
  }

  pub one_more_cell : (n : ℕ) (x : Cell) (mid new : List Cell) → n < length shape → Collects g shape (IsNextTo g (take n shape)) [] mid → Collects g shape (Adjacent g (get_or shape n x)) mid new → Collects g shape (IsNextTo g (take (n + 1) shape)) [] new
  one_more_cell n x mid new less a b = record {
    collection = b.collection;
    kept = λ d h. absurd (true≢false (sym h));
    all = λ d h o. elim (or_cases (has (take n shape) h.from) (same_cell h.from (get_or shape n x)) (sym (has_more shape n x h.from less) ∙ h.is_in)) [
      | inl k ↦ b.kept d (a.all d (record { from = h.from; is_in = k; adjacent = h.adjacent }) o)
      | inr k ↦ b.all d (subst (λ z. Adjacent g z d) (same_cell-true h.from (get_or shape n x) k) h.adjacent) o
    ];
  }

  -- ---- and sorted
  pub listed : (n : ℕ) (items ys : List Cell) → n ≡ length shape → Collects g shape (IsNextTo g (take n shape)) [] items → IsPermutation items ys → IsSorted cell_cmp ys → ListsExactly cell_before (IsBeside g shape) ys
  listed n items ys e h p sorted =
      let same : HaveSame ys items = record { same = λ c. sym (list_any-IsPermutation (same_cell c) items ys p) } in
      let list : IsCellListOf items ys = list_of_same items ys (rises_from_sorted ys (IsDistinct-IsPermutation same_cell same_cell_flips items ys p h.collection.distinct) sorted) same in
      record {
        rising = list.rising;
        only = All-from_members (IsBeside g shape) ys (λ d m. h.collection.only d (sym (same.same d) ∙ has-is ys d m));
        every = λ d b.
            let whole : take n shape ≡ shape = ap (λ k. take k shape) e ∙ take-length shape in
            let near : IsNextTo g (take n shape) d = record { from = b.member; is_in = ap (λ zs. has zs b.member) whole ∙ has-is shape b.member b.inside; adjacent = b.adjacent } in
            has-true ys d (same.same d ∙ h.all d near (not_has shape d b.outside));
      }

  pub some_listed : (ys : List Cell) → IsPolyform g shape → ListsExactly cell_before (IsBeside g shape) ys → 0 < length ys
  some_listed ys form l = let c = some_cell_is_beside g shape law form in nonempty ys c.0 (l.every c.0 c.1)
    where
      nonempty : (ys : List Cell) (c : Cell) → Contains ys c → 0 < length ys
      nonempty [] c m = absurd (no_member c m)
      nonempty (y ∷ ys) c m = omega arith
