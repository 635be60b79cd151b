-- Steps of a loop that adds the children of a shape.
use Rattle.std.proofs.Common.{◌≡◌, ℕ, zero, suc, ◌+◌, ◌<◌, ◌≤◌, ◌⊎◌, true, List, [], ◌∷◌, ◌++◌, length, take, get_or, Contains, sym, ap, ◌∙◌, subst, arith, inl, inr, true≢false}
use Rattle.std.specs.Prelude.{Some, slice_get, unwrap_or}
use Rattle.std.proofs.lemmas.Int.{ints}
use Rattle.std.proofs.lemmas.Bool.{cases_order, or_cases}
use Rattle.std.proofs.lemmas.List.Elements.{Contains-append_cases, Contains-append_left, Contains-append_right}
use Rattle.heesch_grid.specs.declared.Cell.{Cell}
use Rattle.heesch_grid.specs.Cells.{same_cell, cell_before, has}
use Rattle.heesch_grid.specs.Vectors.{IsWithin}
use Rattle.heesch_grid.specs.Geometry.{Geometry, IsGrid, IsCell, Adjacent}
use Rattle.heesch_grid.specs.Polyform.{IsCanonicalListOf}
use Rattle.heesch_grid.specs.Statements.{IsGrownFrom}
use Rattle.heesch_grid.specs.Pairs.{has-true, or-left, or-right, same_cell-true}
use Rattle.heesch_grid.proofs.CellFacts.{has-is, cell_before-irreflexive, cell_before-asymmetric}
use Rattle.heesch_grid.proofs.ListFacts.{member_cases, member_here, no_member, member_at, same_listing}
use Rattle.heesch_grid.proofs.GridFacts.{adjacent_exact, adjacent_near}
use Rattle.heesch_grid.proofs.Pinned.{one_canonical_list}
use Rattle.heesch_grow.specs.Adds.{Adds, IsWith, IsChildBelow, IsChildAt, IsChildOfSome}
use Rattle.heesch_grid.proofs.GrowthOfLists.{not_has}
use Rattle.heesch_shape.specs.Reach.{IsNextTo}
use Rattle.heesch_shape.proofs.Loops.{has_at, has_more}
use Rattle.std.proofs.Math.Seq.{take-length}

-- the cell at a place of a list that was read
pub read_inside : (xs read : List Cell) (i : ℕ) (d : Cell) → read ≡ xs → i < length read → has xs (get_or read i d) ≡ true
read_inside xs read i d e less = subst (λ zs. has zs (get_or read i d) ≡ true) e (has_at read i d less)

-- a member has a place
pub place_in : (xs : List Cell) (x : Cell) → Contains xs x → (k : ℕ) × (k < length xs) × (slice_get xs k ≡ Some x)
place_in [] x m = absurd (no_member x m)
place_in (y ∷ xs) x m =
    elim (member_cases y xs x m) [
      | inl e ↦ (0, omega arith, ap (λ z. Some z) e)
      | inr h ↦ let r = place_in xs x h in (suc r.0, (let l = r.1 in omega arith), r.2)
    ]

module _ (g : Geometry) (law : IsGrid g) (parent : List Cell) where
  -- one list for each added cell
  one_with : (d : Cell) (r s : List Cell) → IsWith g parent d r → IsWith g parent d s → r ≡ s
  one_with d r s x y =
      let e : x.cells ≡ y.cells = same_listing cell_before cell_before-irreflexive cell_before-asymmetric (Contains (d ∷ parent)) x.cells y.cells x.is_list y.is_list in
      one_canonical_list g y.cells r s (subst (λ cs. IsCanonicalListOf g cs r) e x.canonical) y.canonical

  pub near_added : (c d : Cell) → IsWithin 100000 c → Adjacent g c d → IsWithin 1000000 d
  near_added c d w a =
      let n = adjacent_near g law c d a in
      record { a_low = omega (arith, ints, w.a_low, n.a_low); a_high = omega (arith, ints, w.a_high, n.a_high); b_low = omega (arith, ints, w.b_low, n.b_low); b_high = omega (arith, ints, w.b_high, n.b_high) }

  pub adjacent_at : (c d : Cell) (i : ℕ) → IsCell g c → slice_get (g.adjacent c) i ≡ Some d → Adjacent g c d
  adjacent_at c d i c_in e = (adjacent_exact g law c d c_in).0 (has-is (g.adjacent c) d (member_at (g.adjacent c) i d e))

  module _ (c : Cell) (c_in : IsCell g c) (inside : has parent c ≡ true) where
    grown_from : (d : Cell) (r : List Cell) → Adjacent g c d → IsWith g parent d r → IsGrownFrom g parent r
    grown_from d r a w = record {
      member = c;
      added = d;
      inside = has-true parent c inside;
      adjacent = a;
      outside = λ m. true≢false (sym (has-is parent d m) ∙ w.outside);
      cells = w.cells;
      is_list = w.is_list;
      canonical = w.canonical;
    }

    pub adds_none : (old : List (List Cell)) → Adds (IsGrownFrom g parent) (IsChildBelow g parent c 0) old old
    adds_none old = record { kept = λ r m. m; only = λ r m. inl m; all = λ r h. absurd (let l = h.below in omega arith) }

    same_place : (i : ℕ) (d e : Cell) → slice_get (g.adjacent c) i ≡ Some d → slice_get (g.adjacent c) i ≡ Some e → d ≡ e
    same_place i d e p q = ap (λ o. unwrap_or o d) (sym p ∙ q)

    pub adds_one : (i : ℕ) (d : Cell) (r : List Cell) (old new : List (List Cell)) → slice_get (g.adjacent c) i ≡ Some d → IsWith g parent d r → Adds (IsGrownFrom g parent) (IsChildBelow g parent c i) old new → Adds (IsGrownFrom g parent) (IsChildBelow g parent c (i + 1)) old (new ++ r ∷ [])
    adds_one i d r old new at w a = record {
      kept = λ s m. Contains-append_left new (r ∷ []) s (a.kept s m);
      only = λ s m. elim (Contains-append_cases new (r ∷ []) s m) [
        | inl h ↦ a.only s h
        | inr h ↦ elim (member_cases r [] s h) [ inl e ↦ inr (subst (IsGrownFrom g parent) e (grown_from d r (adjacent_at c d i c_in at) w)) | inr n ↦ absurd (no_member s n) ]
      ];
      all = λ s h. elim (cases_order h.place i) [
        | inl e ↦
            let same : d ≡ h.added = same_place i d h.added at (ap (slice_get (g.adjacent c)) (sym e) ∙ h.is_added) in
            let one : r ≡ s = one_with h.added r s (subst (λ z. IsWith g parent z r) same w) h.is_with in
            subst (Contains (new ++ r ∷ [])) one (Contains-append_right new (r ∷ []) r (member_here r []))
        | inr o ↦ elim o [
          | inl less ↦ Contains-append_left new (r ∷ []) s (a.all s (record { place = h.place; below = less; added = h.added; is_added = h.is_added; is_with = h.is_with }))
          | inr more ↦ absurd (let l = h.below in omega arith)
        ]
      ];
    }

    pub adds_no_more : (earlier : List Cell) (i : ℕ) (d : Cell) (old new : List (List Cell)) → slice_get (g.adjacent c) i ≡ Some d → (has parent d ≡ true) ⊎ IsNextTo g earlier d → ((r : List Cell) → IsChildOfSome g parent earlier r → Contains old r) → Adds (IsGrownFrom g parent) (IsChildBelow g parent c i) old new → Adds (IsGrownFrom g parent) (IsChildBelow g parent c (i + 1)) old new
    adds_no_more earlier i d old new at why done a = record {
      kept = a.kept;
      only = a.only;
      all = λ s h. elim (cases_order h.place i) [
        | inl e ↦
            let same : d ≡ h.added = same_place i d h.added at (ap (slice_get (g.adjacent c)) (sym e) ∙ h.is_added) in
            elim why [
              | inl within ↦ absurd (true≢false (sym within ∙ ap (has parent) same ∙ h.is_with.outside))
              | inr near ↦ a.kept s (done s (record { from = near.from; inside = near.is_in; is_child = record { added = h.added; adjacent = subst (Adjacent g near.from) same near.adjacent; is_with = h.is_with } }))
            ]
        | inr o ↦ elim o [
          | inl less ↦ a.all s (record { place = h.place; below = less; added = h.added; is_added = h.is_added; is_with = h.is_with })
          | inr more ↦ absurd (let l = h.below in omega arith)
        ]
      ];
    }

    pub adds_end : (i : ℕ) (old new : List (List Cell)) → g.adjacent_count ≤ i → Adds (IsGrownFrom g parent) (IsChildBelow g parent c i) old new → Adds (IsGrownFrom g parent) (IsChildAt g parent c) old new
    adds_end i old new long a = record {
      kept = a.kept;
      only = a.only;
      all = λ s h.
          let l = law.adjacent_listed c c_in in
          let k = place_in (g.adjacent c) h.added (l.0.every h.added h.adjacent) in
          a.all s (record { place = k.0; below = (let count = l.1 in let below = k.1 in omega arith); added = h.added; is_added = k.2; is_with = h.is_with });
    }

  -- ---- the cells of the parent in turn
  pub all_none : (old : List (List Cell)) → Adds (IsGrownFrom g parent) (IsChildOfSome g parent []) old old
  all_none old = record { kept = λ r m. m; only = λ r m. inl m; all = λ r h. absurd (true≢false (sym h.inside)) }

  pub all_more : (n : ℕ) (x : Cell) (old mid new : List (List Cell)) → n < length parent → Adds (IsGrownFrom g parent) (IsChildOfSome g parent (take n parent)) old mid → Adds (IsGrownFrom g parent) (IsChildAt g parent (get_or parent n x)) mid new → Adds (IsGrownFrom g parent) (IsChildOfSome g parent (take (n + 1) parent)) old new
  all_more n x old mid new less a b = record {
    kept = λ r m. b.kept r (a.kept r m);
    only = λ r m. elim (b.only r m) [ inl h ↦ a.only r h | inr k ↦ inr k ];
    all = λ r h. elim (or_cases (has (take n parent) h.from) (same_cell h.from (get_or parent n x)) (sym (has_more parent n x h.from less) ∙ h.inside)) [
      | inl k ↦ b.kept r (a.all r (record { from = h.from; inside = k; is_child = h.is_child }))
      | inr k ↦ b.all r (subst (λ z. IsChildAt g parent z r) (same_cell-true h.from (get_or parent n x) k) h.is_child)
    ];
  }

  pub all_end : (n : ℕ) (old new : List (List Cell)) → n ≡ length parent → Adds (IsGrownFrom g parent) (IsChildOfSome g parent (take n parent)) old new → Adds (IsGrownFrom g parent) (IsGrownFrom g parent) old new
  all_end n old new e a = record {
    kept = a.kept;
    only = a.only;
    all = λ r h. a.all r (record {
      from = h.member;
      inside = ap (λ zs. has zs h.member) (ap (λ m. take m parent) e ∙ take-length parent) ∙ has-is parent h.member h.inside;
      is_child = record { added = h.added; adjacent = h.adjacent; is_with = record { outside = not_has parent h.added h.outside; cells = h.cells; is_list = h.is_list; canonical = h.canonical } };
    });
  }

-- a member of the first cells of a list is one of the list
pub has_take : (xs : List Cell) (n : ℕ) (d : Cell) → has (take n xs) d ≡ true → has xs d ≡ true
has_take xs zero d h = absurd (true≢false (sym h))
has_take [] (suc n) d h = absurd (true≢false (sym h))
has_take (x ∷ xs) (suc n) d h = elim (or_cases (same_cell d x) (has (take n xs) d) h) [ inl e ↦ or-left (same_cell d x) (has xs d) e | inr k ↦ or-right (same_cell d x) (has xs d) (has_take xs n d k) ]
