-- Masks of tiles, one cell and one tile more.
use Rattle.std.proofs.Common.{◌≡◌, ◌≢◌, refl, sym, ap, subst, ◌∙◌, ℕ, zero, suc, ◌+◌, ◌-◌, ◌*◌, ◌/◌, ◌%◌, ◌^◌, ◌<◌, ◌≤◌, List, [], ◌∷◌, ◌++◌, map, filter, length, take, get_or, Bool, true, false, cond, ◌⊎◌, inl, inr, arith, bit_or, Contains, true≢false}
use Rattle.std.specs.Prelude.{Some, None, nat_lt, slice_index, unwrap_or}
use Rattle.std.specs.List.{range_with_len, slice_get}
use Rattle.std.specs.Int.{bit_at, w64}
use Rattle.std.proofs.lemmas.Nat.Bits.{bit_at-zero, bit_at-lt, bit_at_set_same, bit_at_set_other, ones_shr, bit_at_ones, bit_at_ones_above, same_from_bits}
use Rattle.std.proofs.lemmas.Bool.{cases_Bool, cases_order}
use Rattle.std.proofs.lemmas.List.{length-map, length-append, map-append, get_or_append_left}
use Rattle.std.proofs.lemmas.List.Elements.{All-contains, filter-append, Contains-append_left, Contains-append_right}
use Rattle.std.proofs.lemmas.Option.{slice_get_within}
use Rattle.std.proofs.Math.Seq.{get_or-append_seam}
use Rattle.heesch_grid.specs.declared.Cell.{Cell}
use Rattle.heesch_grid.specs.declared.isometries.Iso.{Iso}
use Rattle.heesch_grid.specs.Cells.{same_cell, cell_before}
use Rattle.heesch_grid.specs.Geometry.{Geometry, IsGrid, IsCell, IsIsometry, apply}
use Rattle.heesch_grid.specs.Lattice.{Triple, IsTriple, IsReduced}
use Rattle.heesch_grid.specs.Listing.{IsRising}
use Rattle.heesch_grid.specs.Pairs.{same_cell-true, same_cell-is}
use Rattle.heesch_grid.proofs.ListFacts.{member_cases, member_here, no_member, member_at}
use Rattle.heesch_grid.proofs.CellFacts.{cell_before-irreflexive}
use Rattle.heesch_tiling.specs.Counting.{residue, tile_residues, times_in, window_size, in_window}
use Rattle.heesch_tiling.proofs.Tallies.{times_append, tile_more, times_begun}
use Rattle.heesch_torus.specs.Formula.{reduced_cells}
use Rattle.heesch_torus.specs.Trying.{tried}
use Rattle.heesch_torus.specs.Masks.{ArePoints, IsMaskOf, HasDouble, AddsMasks, HasMasksFrom}
use Rattle.heesch_torus.proofs.Numbering.{range_more, reduced_listed}
use Rattle.heesch_torus.proofs.Excluding.{range_split}
use Rattle.heesch_torus.proofs.Moving.{residue_moved}
use Rattle.heesch_torus.proofs.Tried.{moved_in, moved_within, image_is, rows, columns, of_turn}

-- ---- elements by their numbers

get_seam : {X : Type 0} (xs : List X) (y : X) (ys : List X) → slice_get (xs ++ y ∷ ys) (length xs) ≡ Some y
get_seam [] y ys = refl
get_seam (x ∷ xs) y ys = get_seam xs y ys

pub element : (xs : List Cell) (k : ℕ) → k < length xs → (c : Cell) × (slice_get xs k ≡ Some c)
element [] k l = absurd (omega arith)
element (x ∷ xs) zero l = (x, refl)
element (x ∷ xs) (suc k) l = element xs k (omega arith)

none_some : {X : Type 0} (x : X) → None ≡ Some x → ⊥
none_some x e = cc

pub index_once : (xs : List Cell) → IsRising cell_before xs → (j k : ℕ) (c : Cell) → slice_get xs j ≡ Some c → slice_get xs k ≡ Some c → j ≡ k
index_once [] r j k c p q = absurd (none_some c p)
index_once (x ∷ xs) r zero zero c p q = refl
index_once (x ∷ xs) r zero (suc k) c p q = absurd (not_first x xs r c k (ap (λ o. unwrap_or o x) p) q)
  where
    not_first : (x : Cell) (xs : List Cell) → IsRising cell_before (x ∷ xs) → (c : Cell) (k : ℕ) → x ≡ c → slice_get xs k ≡ Some c → ⊥
    not_first x xs r c k e q = true≢false (sym (All-contains (λ y. cell_before x y ≡ true) xs c r.0 (member_at xs k c q)) ∙ ap (λ z. cell_before z c) e ∙ cell_before-irreflexive c)
index_once (x ∷ xs) r (suc j) zero c p q = absurd (not_first x xs r c j (ap (λ o. unwrap_or o x) q) p)
  where
    not_first : (x : Cell) (xs : List Cell) → IsRising cell_before (x ∷ xs) → (c : Cell) (k : ℕ) → x ≡ c → slice_get xs k ≡ Some c → ⊥
    not_first x xs r c k e q = true≢false (sym (All-contains (λ y. cell_before x y ≡ true) xs c r.0 (member_at xs k c q)) ∙ ap (λ z. cell_before z c) e ∙ cell_before-irreflexive c)
index_once (x ∷ xs) r (suc j) (suc k) c p q = ap suc (index_once xs r.1 j k c p q)

-- ---- the numbers of the cells of the window

module _ (g : Geometry) (t : Triple) where
  abbrev is_cell_at : ℕ → Bool
  is_cell_at k = g.is_cell (in_window g t k)

  -- how many cells stand before a pair
  abbrev pub cells_until : ℕ → ℕ
  cells_until n = length (filter (λ k. g.is_cell (in_window g t k)) (range_with_len 0 n))

  cells_more : (n : ℕ) (b : Bool) → is_cell_at n ≡ b → cells_until (n + 1) ≡ cells_until n + cond b 1 0
  cells_more n b e =
      let next : n + 1 ≡ suc n = omega arith in
      let start : 0 + n ≡ n = omega arith in
      ap cells_until next
      ∙ ap (λ ks. length (filter is_cell_at ks)) (range_more 0 n ∙ ap (λ k. range_with_len 0 n ++ k ∷ []) start)
      ∙ ap length (filter-append is_cell_at (range_with_len 0 n) (n ∷ []))
      ∙ length-append (filter is_cell_at (range_with_len 0 n)) (filter is_cell_at (n ∷ []))
      ∙ ap (λ k. cells_until n + k) (ap (λ c. length (cond c (n ∷ []) [])) e ∙ one b)
    where
      one : (b : Bool) → length (cond b (n ∷ []) []) ≡ cond b 1 0
      one true = refl
      one false = refl

  pub record Numbered (k : ℕ) (numbers : List ℕ) (count : ℕ) : Type 0 where
    pub long : length numbers ≡ k
    pub each : (n : ℕ) → n < k → slice_index numbers n ≡ cells_until n
    pub count_is : count ≡ cells_until k
    pub few : count ≤ k

  pub numbered_more : (k : ℕ) (old new : List ℕ) (count now : ℕ) (b : Bool) → is_cell_at k ≡ b → new ≡ old ++ count ∷ [] → now ≡ count + cond b 1 0 → Numbered k old count → Numbered (k + 1) new now
  numbered_more k old new count now b cell e is h = record {
    long = ap length e ∙ length-append old (count ∷ []) ∙ ap (λ n. n + 1) h.long;
    each = λ n l. elim (cases_order n k) [
      | inl same ↦ (λ i. slice_index (e i) ((same ∙ sym h.long) i)) ∙ get_or-append_seam old count [] 0 ∙ h.count_is ∙ ap cells_until (sym same)
      | inr o ↦ elim o [
        | inl less ↦ ap (λ xs. slice_index xs n) e ∙ get_or_append_left old (count ∷ []) 0 n (let long = h.long in omega arith) ∙ h.each n less
        | inr more ↦ absurd (omega arith)
      ]
    ];
    count_is = is ∙ ap (λ n. n + cond b 1 0) h.count_is ∙ sym (cells_more k b cell);
    few = by_cell b is h.few;
  }
    where
      by_cell : (b : Bool) → now ≡ count + cond b 1 0 → count ≤ k → now ≤ k + 1
      by_cell true is few = omega arith
      by_cell false is few = omega arith

  pub number_gives : (n size : ℕ) → n < size → is_cell_at n ≡ true → slice_get (map (in_window g t) (filter is_cell_at (range_with_len 0 size))) (cells_until n) ≡ Some (in_window g t n)
  number_gives n size less cell =
      let rest : ℕ = size - (n + 1) in
      let split : size ≡ n + suc (size - (n + 1)) = omega arith in
      let start : 0 + n ≡ n = omega arith in
      let before : List ℕ = filter is_cell_at (range_with_len 0 n) in
      let after : List ℕ = filter is_cell_at (range_with_len (n + 1) (size - (n + 1))) in
      let all : filter is_cell_at (range_with_len 0 size) ≡ filter is_cell_at (range_with_len 0 n) ++ n ∷ filter is_cell_at (range_with_len (n + 1) (size - (n + 1))) =
      ap (λ m. filter is_cell_at (range_with_len 0 m)) split
      ∙ ap (filter is_cell_at) (range_split 0 n (suc rest) ∙ ap (λ a. range_with_len 0 n ++ range_with_len a (suc rest)) start)
      ∙ filter-append is_cell_at (range_with_len 0 n) (range_with_len n (suc rest))
      ∙ ap (λ b. filter is_cell_at (range_with_len 0 n) ++ cond b (n ∷ filter is_cell_at (range_with_len (n + 1) rest)) (filter is_cell_at (range_with_len (n + 1) rest))) cell in
      ap (λ ks. slice_get (map (in_window g t) ks) (cells_until n)) all
      ∙ ap (λ cs. slice_get cs (cells_until n)) (map-append (in_window g t) before (n ∷ after))
      ∙ ap (λ k. slice_get (map (in_window g t) before ++ in_window g t n ∷ map (in_window g t) after) k) (sym (length-map before (in_window g t)))
      ∙ get_seam (map (in_window g t) before) (in_window g t n) (map (in_window g t) after)

  pub numbered_points : (k : ℕ) (numbers : List ℕ) (count : ℕ) → k ≡ window_size g t → Numbered k numbers count → ArePoints g t numbers count
  numbered_points k numbers count last h = record {
    all = h.long ∙ last;
    each = λ n l cell. ap (slice_get (reduced_cells g t)) (h.each n (subst (λ m. n < m) (sym last) l)) ∙ number_gives n (window_size g t) l cell;
    count_is = h.count_is ∙ ap cells_until last ∙ sym (length-map (filter is_cell_at (range_with_len 0 (window_size g t))) (in_window g t));
  }

-- ---- the mask of all points

pub all_bits : (count : ℕ) → 1 ≤ count → count ≤ 64 → (k : ℕ) → bit_at ((2 ^ 64 - 1) / 2 ^ (64 - count)) k ≡ cond (nat_lt k count) 1 0
all_bits count some few k =
    let width : 64 - (64 - count) ≡ count = omega arith in
    ap (λ m. bit_at m k) (ones_shr 64 (64 - count) (omega arith) ∙ ap (λ n. 2 ^ n - 1) width) ∙ by_order (nat_lt k count) refl
  where
    less : (m n : ℕ) → nat_lt m n ≡ true → m < n
    less m n h = grind arith

    not_less : (m n : ℕ) → nat_lt m n ≡ false → n ≤ m
    not_less m n h = grind arith

    by_order : (b : Bool) → nat_lt k count ≡ b → bit_at (2 ^ count - 1) k ≡ cond b 1 0
    by_order true e = bit_at_ones count k (less k count e)
    by_order false e = bit_at_ones_above count k (not_less k count e)

-- ---- masks

module _ (g : Geometry) (t : Triple) where
  pub one_mask : (shape : List Cell) (by : Iso) (m n : ℕ) → IsMaskOf g shape t by m → IsMaskOf g shape t by n → m ≡ n
  one_mask shape by m n p q = same_from_bits m n (λ k. elim (cases_order k (length (reduced_cells g t))) [
    | inl e ↦ p.others k (omega arith) ∙ sym (q.others k (omega arith))
    | inr o ↦ elim o [
      | inl less ↦ let c = element (reduced_cells g t) k less in p.cells k c.0 c.1 ∙ sym (q.cells k c.0 c.1)
      | inr more ↦ p.others k (omega arith) ∙ sym (q.others k (omega arith))
    ]
  ])

  pub no_mask : (by : Iso) → IsMaskOf g [] t by 0
  no_mask by = record { cells = λ k c e. bit_at-zero k; others = λ k l. bit_at-zero k }

  module _ (law : IsGrid g) (triple : IsTriple t) (cells : List Cell) (by : Iso) (i : ℕ) (d : Cell) (k mask : ℕ) (less : i < length cells) (few : length (reduced_cells g t) ≤ 64) (at : slice_get (reduced_cells g t) k ≡ Some (residue g t (apply g by (get_or cells i d)))) (old : IsMaskOf g (take i cells) t by mask) where
    abbrev r : Cell
    r = residue g t (apply g by (get_or cells i d))

    below : k < length (reduced_cells g t)
    below = slice_get_within (reduced_cells g t) k r at

    pub point_below : k < 64
    point_below = let l = below in omega arith

    times_more : (c : Cell) (b : Bool) → same_cell c r ≡ b → times_in (tile_residues g (take (i + 1) cells) t by) c ≡ times_in (tile_residues g (take i cells) t by) c + cond b 1 0
    times_more c b e =
        ap (λ xs. times_in xs c) (tile_more g t by cells i d less)
        ∙ times_append (tile_residues g (take i cells) t by) (r ∷ []) c
        ∙ ap (λ n. times_in (tile_residues g (take i cells) t by) c + n) (ap (λ z. length (cond z (r ∷ []) [])) e ∙ one b)
      where
        one : (b : Bool) → length (cond b (r ∷ []) []) ≡ cond b 1 0
        one true = refl
        one false = refl

    pub mask_more : bit_at mask k ≡ 0 → IsMaskOf g (take (i + 1) cells) t by (bit_or mask (1 * 2 ^ k % 2 ^ 64))
    mask_more free = record {
      cells = λ j c e. elim (cases_order j k) [
        | inl same ↦ here j c e same
        | inr o ↦ other j c e (λ s. elim o [ inl l ↦ omega arith | inr l ↦ omega arith ])
      ];
      others = λ j l. let b = below in bit_at_set_other w64 mask k point_below j (λ e. omega arith) ∙ old.others j l;
    }
      where
        some_same : (c d : Cell) → Some c ≡ Some d → c ≡ d
        some_same c d e = ap (λ o. unwrap_or o c) e

        here : (j : ℕ) (c : Cell) → slice_get (reduced_cells g t) j ≡ Some c → j ≡ k → bit_at (bit_or mask (1 * 2 ^ k % 2 ^ 64)) j ≡ times_in (tile_residues g (take (i + 1) cells) t by) c
        here j c e same =
            let c_is : c ≡ r = some_same c r (sym e ∙ ap (slice_get (reduced_cells g t)) same ∙ at) in
            let before : bit_at mask j ≡ times_in (tile_residues g (take i cells) t by) c = old.cells j c e in
            let none : bit_at mask j ≡ 0 = ap (bit_at mask) same ∙ free in
            let set : bit_at (bit_or mask (1 * 2 ^ k % 2 ^ 64)) j ≡ 1 = ap (bit_at (bit_or mask (1 * 2 ^ k % 2 ^ 64))) same ∙ bit_at_set_same w64 mask k point_below in
            let more : times_in (tile_residues g (take (i + 1) cells) t by) c ≡ times_in (tile_residues g (take i cells) t by) c + 1 = times_more c true (same_cell-is c r c_is) in
            omega (arith, set, more, before, none)

        other : (j : ℕ) (c : Cell) → slice_get (reduced_cells g t) j ≡ Some c → j ≢ k → bit_at (bit_or mask (1 * 2 ^ k % 2 ^ 64)) j ≡ times_in (tile_residues g (take (i + 1) cells) t by) c
        other j c e apart =
            let differs : same_cell c r ≡ false = elim (cases_Bool (same_cell c r)) [
              | inl s ↦ absurd (apart (index_once (reduced_cells g t) (reduced_listed g t law triple).rising j k r (e ∙ ap Some (same_cell-true c r s)) at))
              | inr f ↦ f
            ] in
            let same : bit_at (bit_or mask (1 * 2 ^ k % 2 ^ 64)) j ≡ bit_at mask j = bit_at_set_other w64 mask k point_below j apart in
            let before : bit_at mask j ≡ times_in (tile_residues g (take i cells) t by) c = old.cells j c e in
            let more : times_in (tile_residues g (take (i + 1) cells) t by) c ≡ times_in (tile_residues g (take i cells) t by) c + 0 = times_more c false differs in
            omega (arith, same, before, more)

    pub mask_double : bit_at mask k ≡ 1 → HasDouble g cells t by
    mask_double set =
        let before : bit_at mask k ≡ times_in (tile_residues g (take i cells) t by) r = old.cells k r at in
        let more : times_in (tile_residues g (take (i + 1) cells) t by) r ≡ times_in (tile_residues g (take i cells) t by) r + 1 = times_more r true (same_cell-is r r refl) in
        let most = times_begun g t by cells (i + 1) r in
        record {
          cell = r;
          reduced = All-contains (IsReduced g t) (reduced_cells g t) r (reduced_listed g t law triple).only (member_at (reduced_cells g t) k r at);
          twice = omega (arith, before, more, most, set);
        }

-- ---- masks of tiles

index_of : (xs : List Cell) (x : Cell) → Contains xs x → (n : ℕ) × (slice_get xs n ≡ Some x)
index_of [] x m = absurd (no_member x m)
index_of (y ∷ xs) x m = elim (member_cases y xs x m) [ inl e ↦ (0, ap Some e) | inr h ↦ let r = index_of xs x h in (suc r.0, r.1) ]

module _ (g : Geometry) (shape : List Cell) (t : Triple) (law : IsGrid g) (triple : IsTriple t) where
  pub double_unmasked : (by : Iso) (m : ℕ) → HasDouble g shape t by → ¬ IsMaskOf g shape t by m
  double_unmasked by m double is =
      let k = index_of (reduced_cells g t) double.cell ((reduced_listed g t law triple).every double.cell double.reduced) in
      let e = is.cells k.0 double.cell k.1 in
      let few = bit_at-lt m k.0 in
      let two = double.twice in
      omega (arith, e, few, two)

  pub adds_no_masks : (turn : ℕ) (old : List ℕ) → AddsMasks g shape t turn 0 old old
  adds_no_masks turn old = record { kept = λ m k. k; only = λ m k. inl k; every = λ j l m is. absurd (omega arith); few = omega arith }

  module _ (turn k : ℕ) (start old : List ℕ) (h : AddsMasks g shape t turn k start old) where
    pub adds_double : HasDouble g shape t (tried t turn k) → AddsMasks g shape t turn (k + 1) start old
    adds_double double = record {
      kept = h.kept;
      only = λ m i. elim (h.only m i) [ inl o ↦ inl o | inr n ↦ inr (n.0, (let l : n.0 < k = n.1 in omega arith), n.2) ];
      every = λ j l m is. elim (cases_order j k) [
        | inl same ↦ absurd (double_unmasked (tried t turn k) m double (subst (λ n. IsMaskOf g shape t (tried t turn n) m) same is))
        | inr o ↦ elim o [ inl less ↦ h.every j less m is | inr more ↦ absurd (omega arith) ]
      ];
      few = let few = h.few in omega arith;
    }

    pub adds_mask : (mask : ℕ) (new : List ℕ) → IsMaskOf g shape t (tried t turn k) mask → new ≡ old ++ mask ∷ [] → AddsMasks g shape t turn (k + 1) start new
    adds_mask mask new is e = subst (AddsMasks g shape t turn (k + 1) start) (sym e) (record {
      kept = λ m i. Contains-append_left old (mask ∷ []) m (h.kept m i);
      only = λ m i. by_part m i;
      every = λ j l m mask_is. elim (cases_order j k) [
        | inl same ↦ subst (Contains (old ++ mask ∷ [])) (one_mask g t shape (tried t turn k) mask m is (subst (λ n. IsMaskOf g shape t (tried t turn n) m) same mask_is)) (Contains-append_right old (mask ∷ []) mask (member_here mask []))
        | inr o ↦ elim o [ inl less ↦ Contains-append_left old (mask ∷ []) m (h.every j less m mask_is) | inr more ↦ absurd (omega arith) ]
      ];
      few = let few = h.few in let long = length-append old (mask ∷ []) in omega arith;
    })
      where
        append_cases : (xs ys : List ℕ) (m : ℕ) → Contains (xs ++ ys) m → Contains xs m ⊎ Contains ys m
        append_cases [] ys m i = inr i
        append_cases (x ∷ xs) ys m i = elim (member_cases x (xs ++ ys) m i) [
          | inl e ↦ inl (subst (Contains (x ∷ xs)) e (member_here x xs))
          | inr r ↦ elim (append_cases xs ys m r) [ inl a ↦ inl (there x xs m a) | inr b ↦ inr b ]
        ]
          where
            there : (x : ℕ) (xs : List ℕ) (m : ℕ) → Contains xs m → Contains (x ∷ xs) m
            there x xs m a = Contains-append_right (x ∷ []) xs m a

        by_part : (m : ℕ) → Contains (old ++ mask ∷ []) m → Contains start m ⊎ ((j : ℕ) × (j < k + 1) × IsMaskOf g shape t (tried t turn j) m)
        by_part m i = elim (append_cases old (mask ∷ []) m i) [
          | inl o ↦ elim (h.only m o) [ inl s ↦ inl s | inr n ↦ inr (n.0, (let l : n.0 < k = n.1 in omega arith), n.2) ]
          | inr n ↦ inr (k, omega arith, elim (member_cases mask [] m n) [ inl e ↦ subst (IsMaskOf g shape t (tried t turn k)) e is | inr none ↦ absurd (no_member m none) ])
        ]

  -- ---- the masks of later turns

  -- a tile and the one that a lattice vector moves it to have the same reduced cells
  module _ (form : (c : Cell) → Contains shape c → IsCell g c) where
    same_residues : (by : Iso) → IsIsometry g by → (cells : List Cell) → ((c : Cell) → Contains cells c → IsCell g c) → tile_residues g cells t (moved_in g law shape t triple by) ≡ tile_residues g cells t by
    same_residues by p [] cell = refl
    same_residues by p (c ∷ cells) cell = λ n.
        (ap (residue g t) (image_is g law shape t triple by c) ∙ residue_moved g law t triple (columns g law shape t triple by) (rows g law shape t triple by) (apply g by c) (law.cells_kept by p c (cell c (member_here c cells)))) n
        ∷ same_residues by p cells (λ d m. cell d (Contains-append_right (c ∷ []) cells d m)) n

    mask_within : (by : Iso) → IsIsometry g by → (m : ℕ) → IsMaskOf g shape t by m → IsMaskOf g shape t (moved_in g law shape t triple by) m
    mask_within by p m is = record { cells = λ k c e. is.cells k c e ∙ ap (λ xs. times_in xs c) (sym (same_residues by p shape form)); others = is.others }

    pub masks_of_turn : (turn : ℕ) (old new : List ℕ) → turn < g.turns → HasMasksFrom g shape t (turn + 1) old → AddsMasks g shape t turn (t.p * t.q) old new → HasMasksFrom g shape t turn new
    masks_of_turn turn old new below h a = record {
      only = λ m i. elim (a.only m i) [ inl o ↦ let x = h.only m o in let low = x.2 in (x.0, x.1, omega arith, x.3) | inr n ↦ (tried t turn n.0, below, omega arith, n.2) ];
      every = λ by p low m is. elim (cases_order by.turn turn) [
        | inl same ↦
            let j = of_turn t triple (moved_in g law shape t triple by) turn (moved_within g law shape t triple by) same in
            a.every j.0 j.1 m (subst (λ x. IsMaskOf g shape t x m) j.2 (mask_within by p m is))
        | inr o ↦ elim o [ inl less ↦ absurd (omega arith) | inr more ↦ a.kept m (h.every by p (omega arith) m is) ]
      ];
      few = rows_more (g.turns - (turn + 1)) (g.turns - turn) (t.p * t.q) (omega arith) h.few a.few;
    }
      where
        rows_more : (x y n : ℕ) → y ≡ suc x → length old ≤ x * n → length new ≤ length old + n → length new ≤ y * n
        rows_more x y n e few more = let product : suc x * n ≡ n + x * n = grind arith in subst (λ z. length new ≤ z * n) (sym e) (omega (arith, product, few, more))
