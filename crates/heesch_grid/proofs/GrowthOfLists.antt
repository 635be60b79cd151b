-- The free polyforms of n + 1 cells are the canonical lists of those of n cells with one adjacent cell added.
use Rattle.std.proofs.Common.{◌≡◌, refl, sym, ap, subst, ◌∙◌, ℕ, suc, ◌+◌, ◌<◌, ◌≤◌, not-suc-le-zero, List, [], ◌∷◌, map, length, Bool, true, false, cond, not, ◌&&◌, ◌==◌, ◌⊎◌, inl, inr, arith, Contains, true≢false}
use Rattle.std.specs.Prelude.{IsTrue, ⊤}
use Rattle.std.proofs.lemmas.List.Elements.{All-contains, All-cons}
use Rattle.std.proofs.lemmas.Bool.{and_parts, or_parts, cases_Bool, not-true}
use Rattle.heesch_grid.specs.declared.Cell.{Cell}
use Rattle.heesch_grid.specs.Listing.{IsRising}
use Rattle.heesch_grid.specs.Cells.{same_cell, cell_before, has, IsCellListOf}
use Rattle.heesch_grid.specs.Geometry.{Geometry, IsCell, Adjacent, are_two_cells, shared_corners, apply, image, IsGrid}
use Rattle.heesch_grid.specs.Polyform.{Joined, start, next, IsPolyform, IsImageOf, IsCanonicalListOf, IsFreePolyform}
use Rattle.heesch_grid.specs.Statements.{without, HasRemovableCell, IsGrownFrom, GrowthOfFreeLists}
use Rattle.heesch_grid.proofs.ListFacts.{member_cases, member_here, member_there, All-from_members, member_filter, filter_member, same_rising, rising_filter}
use Rattle.heesch_grid.proofs.CellFacts.{has-false, cell_before-irreflexive, cell_before-asymmetric}
use Rattle.heesch_grid.proofs.Growth.{Crossing, crossing, joined_trans, joined_within}
use Rattle.heesch_grid.proofs.GridFacts.{Adjacent-symmetric, growth_law}
use Rattle.heesch_grid.proofs.WindowFacts.{map_member, member_map}
use Rattle.heesch_grid.proofs.IsometryFacts.{Composite, composite, Inverse, inverse_of, injective, adjacent_kept, image_polyform}
use Rattle.heesch_grid.proofs.SortFacts.{sorted, placed_in, sorted_list, sorted_has, has_sorted}
use Rattle.heesch_grid.proofs.CanonicalFacts.{Canonical, canonical}
use Rattle.heesch_grid.specs.Pairs.{same_cell-true, same_cell-is, has-true}

-- ---- lengths of lists without repeats

abbrev pub NoRepeat : List Cell → Type 0
NoRepeat [] = ⊤
NoRepeat (c ∷ cs) = (has cs c ≡ false) × NoRepeat cs

pub placed_length : (c : Cell) (ds : List Cell) → has ds c ≡ false → length (placed_in c ds) ≡ suc (length ds)
unfolding placed_in
placed_length c [] f = refl
placed_length c (d ∷ ds) f =
    let apart = or_parts (same_cell c d) (has ds c) f in
    step (cell_before c d) (same_cell c d) apart.0 (placed_length c ds apart.1)
  where
    step : (b s : Bool) → s ≡ false → length (placed_in c ds) ≡ suc (length ds) → length (cond b (c ∷ d ∷ ds) (cond s (d ∷ ds) (d ∷ placed_in c ds))) ≡ suc (suc (length ds))
    step true s e h = refl
    step false true e h = absurd (true≢false e)
    step false false e h = ap suc h

pub not_has : (xs : List Cell) (c : Cell) → (Contains xs c → ⊥) → has xs c ≡ false
not_has xs c n = elim (cases_Bool (has xs c)) [ inl t ↦ absurd (n (has-true xs c t)) | inr f ↦ f ]

pub sorted_length : (cs : List Cell) → NoRepeat cs → length (sorted cs) ≡ length cs
unfolding sorted
sorted_length [] n = refl
sorted_length (c ∷ cs) n = placed_length c (sorted cs) (not_has (sorted cs) c (λ m. has-false cs c n.0 (has_sorted cs c m))) ∙ ap suc (sorted_length cs n.1)

pub rising_no_repeat : (xs : List Cell) → IsRising cell_before xs → NoRepeat xs
rising_no_repeat [] r = tt
rising_no_repeat (x ∷ xs) r = (not_has xs x (λ m. true≢false (sym (All-contains (λ y. IsTrue (cell_before x y)) xs x r.0 m) ∙ cell_before-irreflexive x)), rising_no_repeat xs r.1)

pub map_no_repeat : (f : Cell → Cell) → ((c d : Cell) → f c ≡ f d → c ≡ d) → (xs : List Cell) → NoRepeat xs → NoRepeat (map f xs)
map_no_repeat f one [] n = tt
map_no_repeat f one (x ∷ xs) n =
    (not_has (map f xs) (f x) (λ m. let r = map_member f xs (f x) m in has-false xs x n.0 (subst (λ z. Contains xs z) (one r.0 x r.2) r.1)), map_no_repeat f one xs n.1)

pub map_length : (f : Cell → Cell) (xs : List Cell) → length (map f xs) ≡ length xs
map_length f [] = refl
map_length f (x ∷ xs) = ap suc (map_length f xs)

-- a cell list is as long as a list without repeats of the same members
pub list_length : (xs ys : List Cell) → IsCellListOf xs ys → NoRepeat xs → length ys ≡ length xs
list_length xs ys l n =
    ap length (same_rising cell_before cell_before-irreflexive cell_before-asymmetric ys (sorted xs) l.rising (sorted_list xs).rising (λ x m. sorted_has xs x (All-contains (Contains xs) ys x l.only m)) (λ x m. l.every x (has_sorted xs x m)))
    ∙ sorted_length xs n

without_members : (xs : List Cell) (c x : Cell) → Contains (without xs c) x → Contains xs x × (c ≡ x → ⊥)
without_members xs c x m =
    let q = filter_member (λ d. not (same_cell c d)) xs x m in
    (q.0, λ e. true≢false (sym (same_cell-is c x e) ∙ not-true (same_cell c x) q.1))

members_without : (xs : List Cell) (c x : Cell) → Contains xs x → (c ≡ x) ⊎ Contains (without xs c) x
members_without xs c x m =
    elim (cases_Bool (same_cell c x)) [ inl t ↦ inl (same_cell-true c x t) | inr f ↦ inr (member_filter (λ d. not (same_cell c d)) xs x m (ap not f)) ]

without_length : (xs : List Cell) (c : Cell) → IsRising cell_before xs → Contains xs c → length xs ≡ suc (length (without xs c))
without_length xs c r m =
    list_length (c ∷ without xs c) xs
    (record {
      rising = r;
      only = All-from_members (Contains (c ∷ without xs c)) xs (λ x k. elim (members_without xs c x k) [ inl e ↦ subst (λ z. Contains (c ∷ without xs c) z) e (member_here c (without xs c)) | inr h ↦ member_there c (without xs c) x h ]);
      every = λ x k. elim (member_cases c (without xs c) x k) [ inl e ↦ subst (λ z. Contains xs z) e m | inr h ↦ (without_members xs c x h).0 ];
    })
    (not_has (without xs c) c (λ k. (without_members xs c c k).1 refl), rising_no_repeat (without xs c) (rising_filter cell_before (λ d. not (same_cell c d)) xs r))

-- ---- images of images

module _ (g : Geometry) (law : IsGrid g) where
  pub image_then : (xs ys zs : List Cell) → IsImageOf g xs ys → IsImageOf g ys zs → IsImageOf g xs zs
  image_then xs ys zs i k =
      let c : Composite g law i.by k.by = composite g law i.by k.by i.is_isometry k.is_isometry in
      record {
        by = c.by;
        is_isometry = c.is_isometry;
        is_list = record {
          rising = k.is_list.rising;
          only = All-from_members (Contains (image g c.by xs)) zs (λ z m.
              let r = map_member (apply g k.by) ys z (All-contains (Contains (image g k.by ys)) zs z k.is_list.only m) in
              let s = map_member (apply g i.by) xs r.0 (All-contains (Contains (image g i.by xs)) ys r.0 i.is_list.only r.1) in
              subst (λ w. Contains (image g c.by xs) w) (c.is s.0 ∙ ap (apply g k.by) s.2 ∙ r.2) (member_map (apply g c.by) xs s.0 s.1));
          every = λ z m.
              let r = map_member (apply g c.by) xs z m in
              subst (λ w. Contains zs w) (sym (c.is r.0) ∙ r.2) (k.is_list.every (apply g k.by (apply g i.by r.0)) (member_map (apply g k.by) ys (apply g i.by r.0) (i.is_list.every (apply g i.by r.0) (member_map (apply g i.by) xs r.0 r.1))));
        };
      }

  pub image_back : (xs ys : List Cell) → IsRising cell_before xs → IsImageOf g xs ys → IsImageOf g ys xs
  image_back xs ys rising i =
      let h : Inverse g law i.by = inverse_of g law i.by i.is_isometry in
      record {
        by = h.by;
        is_isometry = h.is_isometry;
        is_list = record {
          rising = rising;
          only = All-from_members (Contains (image g h.by ys)) xs (λ x m.
              subst (λ w. Contains (image g h.by ys) w) (h.undoes x) (member_map (apply g h.by) ys (apply g i.by x) (i.is_list.every (apply g i.by x) (member_map (apply g i.by) xs x m))));
          every = λ w m.
              let r = map_member (apply g h.by) ys w m in
              let s = map_member (apply g i.by) xs r.0 (All-contains (Contains (image g i.by xs)) ys r.0 i.is_list.only r.1) in
              subst (λ z. Contains xs z) (sym (h.undoes s.0) ∙ ap (apply g h.by) s.2 ∙ r.2) s.1;
        };
      }

  -- an image has the same canonical list
  pub canonical_of_image : (xs ys result : List Cell) → IsRising cell_before xs → IsImageOf g xs ys → IsCanonicalListOf g xs result → IsCanonicalListOf g ys result
  canonical_of_image xs ys result rising i c = record {
    is_image = image_then ys xs result (image_back xs ys rising i) c.is_image;
    normalised = c.normalised;
    least = λ other k n. c.least other (image_then xs ys other i k) n;
  }

  pub image_length : (xs ys : List Cell) → IsRising cell_before xs → IsImageOf g xs ys → length ys ≡ length xs
  image_length xs ys rising i =
      list_length (image g i.by xs) ys i.is_list (map_no_repeat (apply g i.by) (injective g law i.by i.is_isometry) xs (rising_no_repeat xs rising)) ∙ map_length (apply g i.by) xs

  -- ---- both directions

  first_of_list : (xs : List Cell) → 0 < length xs → (x : Cell) × Contains xs x
  first_of_list [] l = absurd (not-suc-le-zero l)
  first_of_list (x ∷ xs) l = (x, member_here x xs)

  grown : (n : ℕ) (result : List Cell) → 1 ≤ n → IsFreePolyform g (n + 1) result → (parent : List Cell) × IsFreePolyform g n parent × IsGrownFrom g parent result
  grown n result some f =
      let xs : List Cell = f.cells in
      let form : IsPolyform g xs = f.polyform in
      let size : length xs ≡ n + 1 = f.size in
      let r : HasRemovableCell g xs = growth_law g law xs form (omega arith) in
      let c : Cell = r.0 in
      let rest : List Cell = without xs c in
      let rest_form : IsPolyform g rest = r.2 in
      let rest_size : length xs ≡ suc (length rest) = without_length xs c form.is_set.rising r.1 in
      let p : Canonical g rest = canonical g law rest rest_form.some in
      let i : IsImageOf g rest p.result = p.is.is_image in
      let x = first_of_list rest rest_form.some in
      let k : Crossing g xs rest = crossing g xs rest x.0 c (form.joined x.0 c (without_members xs c x.0 x.1).0 r.1) x.1 (not_has rest c (λ m. (without_members xs c c m).1 refl)) in
      let found : c ≡ k.found = elim (members_without xs c k.found k.in_set) [ inl e ↦ e | inr m ↦ absurd (has-false rest k.found k.outside m) ] in
      let added : Cell = apply g i.by c in
      let member : Cell = apply g i.by k.member in (
        p.result,
        record { cells = rest; polyform = rest_form; size = omega arith; canonical = p.is },
        record {
          member = member;
          added = added;
          inside = i.is_list.every member (member_map (apply g i.by) rest k.member k.inside);
          adjacent = adjacent_kept g law i.by i.is_isometry k.member c (subst (λ z. Adjacent g k.member z) (sym found) k.adjacent);
          outside = λ m.
              let s = map_member (apply g i.by) rest added (All-contains (Contains (image g i.by rest)) p.result added i.is_list.only m) in
              (without_members xs c s.0 s.1).1 (sym (injective g law i.by i.is_isometry s.0 c s.2));
          cells = sorted (added ∷ p.result);
          is_list = sorted_list (added ∷ p.result);
          canonical = canonical_of_image xs (sorted (added ∷ p.result)) result form.is_set.rising
              (record {
                by = i.by;
                is_isometry = i.is_isometry;
                is_list = record {
                  rising = (sorted_list (added ∷ p.result)).rising;
                  only = All-from_members (Contains (image g i.by xs)) (sorted (added ∷ p.result)) (λ z m. elim (member_cases added p.result z (has_sorted (added ∷ p.result) z m)) [
                    | inl e ↦ subst (λ w. Contains (image g i.by xs) w) e (member_map (apply g i.by) xs c r.1)
                    | inr h ↦
                        let s = map_member (apply g i.by) rest z (All-contains (Contains (image g i.by rest)) p.result z i.is_list.only h) in
                        subst (λ w. Contains (image g i.by xs) w) s.2 (member_map (apply g i.by) xs s.0 (without_members xs c s.0 s.1).0)
                  ]);
                  every = λ z m.
                      let s = map_member (apply g i.by) xs z m in
                      sorted_has (added ∷ p.result) z (elim (members_without xs c s.0 s.1) [
                        | inl e ↦ subst (λ w. Contains (added ∷ p.result) w) (ap (apply g i.by) e ∙ s.2) (member_here added p.result)
                        | inr h ↦ member_there added p.result z (subst (λ w. Contains p.result w) s.2 (i.is_list.every (apply g i.by s.0) (member_map (apply g i.by) rest s.0 h)))
                      ]);
                };
              })
              f.canonical;
        },
      )

  record Ways (cells : List Cell) (c d : Cell) : Type 0 where
    to : Joined g cells c d
    from : Joined g cells d c

  grown_back : (n : ℕ) (result parent : List Cell) → IsFreePolyform g n parent → IsGrownFrom g parent result → IsFreePolyform g (n + 1) result
  grown_back n result parent f w =
      let form : IsPolyform g parent = image_polyform g law f.cells parent f.polyform f.canonical.is_image in
      let size : length parent ≡ n = image_length f.cells parent f.polyform.is_set.rising f.canonical.is_image ∙ f.size in
      let added_cell : IsCell g w.added = (and_parts (g.is_cell w.added) (not (same_cell w.member w.added)) (and_parts (g.is_cell w.member) (g.is_cell w.added && not (same_cell w.member w.added)) (and_parts (are_two_cells g w.member w.added) (shared_corners g w.member w.added == 2) w.adjacent).0).1).0 in
      let longer : length w.cells ≡ suc (length parent) = list_length (w.added ∷ parent) w.cells w.is_list (not_has parent w.added w.outside, rising_no_repeat parent form.is_set.rising) in
      let in_cells : (x : Cell) → Contains parent x → Contains w.cells x = λ x m. w.is_list.every x (member_there w.added parent x m) in
      let has_added : Contains w.cells w.added = w.is_list.every w.added (member_here w.added parent) in
      let ways : (x : Cell) → Contains w.cells x → Ways w.cells w.member x =
      λ x m. elim (member_cases w.added parent x (All-contains (Contains (w.added ∷ parent)) w.cells x w.is_list.only m)) [
        | inl e ↦ subst (λ z. Ways w.cells w.member z) e (record { to = next start w.adjacent has_added; from = next start (Adjacent-symmetric g law w.member w.added w.adjacent) (in_cells w.member w.inside) })
        | inr h ↦ record { to = joined_within g parent w.cells in_cells w.member x (form.joined w.member x w.inside h); from = joined_within g parent w.cells in_cells x w.member (form.joined x w.member h w.inside) }
      ]
      in
      record {
        cells = w.cells;
        polyform = record {
          is_set = record {
            rising = w.is_list.rising;
            in_grid = All-from_members (IsCell g) w.cells (λ x m. All-contains (IsCell g) (w.added ∷ parent) x (All-cons (IsCell g) w.added parent added_cell form.is_set.in_grid) (All-contains (Contains (w.added ∷ parent)) w.cells x w.is_list.only m));
          };
          some = omega arith;
          joined = λ c d m k. joined_trans g w.cells c w.member d (ways c m).from (ways d k).to;
        };
        size = omega arith;
        canonical = w.canonical;
      }

-- the law of growth of the free lists
pub growth_of_free_lists : GrowthOfFreeLists
growth_of_free_lists g n result law some = ((λ f. grown g law n result some f), (λ w. grown_back g law n result w.0 w.1 w.2))
