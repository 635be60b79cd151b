-- Covers as masks of tiles: each cover has one of which a tile of its least turn stands at (0, 0), and its masks have each point once.
use Rattle.std.proofs.Common.{◌≡◌, refl, sym, ap, subst, ◌∙◌, ℕ, zero, suc, ◌+◌, ◌*◌, ◌%◌, ◌^◌, ◌<◌, ◌≤◌, List, [], ◌∷◌, ◌++◌, map, length, take, get_or, cond, ◌⊎◌, inl, inr, arith, bit_or, All, Contains}
use Rattle.std.specs.Prelude.{ℤ, pos, neg_ℤ, ◌+ℤ◌, ◌≤ℤ◌, ◌<ℤ◌, ◌==◌, Some, None, nat_lt}
use Rattle.std.specs.List.{slice_get}
use Rattle.std.specs.Int.{bit_at}
use Rattle.std.proofs.lemmas.Int.{ints}
use Rattle.std.proofs.lemmas.Nat.Bits.{bit_at-zero, bit_at-lt}
use Rattle.std.proofs.lemmas.Bool.{cases_order}
use Rattle.std.proofs.lemmas.List.{map-append, take_all}
use Rattle.std.proofs.lemmas.List.Sums.{sum_by-cons, sum_by_push}
use Rattle.std.proofs.lemmas.List.Elements.{All-contains}
use Rattle.heesch_grid.specs.declared.Cell.{Cell}
use Rattle.heesch_grid.specs.declared.isometries.Iso.{Iso}
use Rattle.heesch_grid.specs.Listing.{HoldsOnce}
use Rattle.heesch_grid.specs.Geometry.{Geometry, IsGrid, IsCell, IsIsometry, apply, image}
use Rattle.heesch_grid.specs.Lattice.{Triple, IsTriple, IsReduced}
use Rattle.heesch_grid.specs.Polyform.{IsPolyform}
use Rattle.heesch_grid.specs.Tiling.{HasCell, IsPeriodicCover}
use Rattle.heesch_grid.proofs.ListFacts.{member_cases, member_here, member_there, no_member, member_at, All-from_members}
use Rattle.heesch_grid.proofs.ReductionFacts.{reduced, is_reduced}
use Rattle.heesch_grid.proofs.WindowFacts.{map_member}
use Rattle.heesch_tiling.specs.Counting.{residue, tile_cells, tile_residues, residues, times_in}
use Rattle.heesch_tiling.proofs.Covers.{covers, covers_once}
use Rattle.heesch_tiling.proofs.Tallies.{times_append}
use Rattle.heesch_torus.specs.Formula.{reduced_cells}
use Rattle.heesch_torus.specs.Beside.{with_bit, FillBeside}
use Rattle.heesch_torus.specs.Masks.{IsMaskOf, HasDouble, HasMasksFrom}
use Rattle.heesch_torus.specs.Covers.{HasAllPoints, unmoved, IsTileMask, AreExactMasks, HasNoCoverAt}
use Rattle.heesch_torus.proofs.Beside.{bit_cases, index_of}
use Rattle.heesch_torus.proofs.Images.{in_grid}
use Rattle.heesch_torus.proofs.Numbering.{reduced_listed}
use Rattle.heesch_torus.proofs.Shifted.{shifted, shifted_cover}
use Rattle.heesch_torus.proofs.Masking.{one_mask, no_mask, mask_more, mask_double}

-- ---- bits of one mask more

bit_counts : (m k : ℕ) → cond (bit_at m k == 1) 1 0 ≡ bit_at m k
bit_counts m k = elim (bit_cases m k) [
  | inl z ↦ ap (λ n. cond (n == 1) 1 0) z ∙ sym z
  | inr o ↦ ap (λ n. cond (n == 1) 1 0) o ∙ sym o
]

pub with_cons : (k m : ℕ) (ms : List ℕ) → with_bit k (m ∷ ms) ≡ bit_at m k + with_bit k ms
with_cons k m ms = sum_by-cons (λ m. cond (bit_at m k == 1) 1 0) m ms ∙ ap (λ n. n + with_bit k ms) (bit_counts m k)

pub with_push : (k m : ℕ) (ms : List ℕ) → with_bit k (ms ++ m ∷ []) ≡ with_bit k ms + bit_at m k
with_push k m ms = sum_by_push (λ m. cond (bit_at m k == 1) 1 0) ms m ∙ ap (λ n. with_bit k ms + n) (bit_counts m k)

append_cases : (xs ys : List ℕ) (m : ℕ) → Contains (xs ++ ys) m → Contains xs m ⊎ Contains ys m
append_cases [] ys m i = inr i
append_cases (x ∷ xs) ys m i = elim (member_cases x (xs ++ ys) m i) [
  | inl e ↦ inl (subst (Contains (x ∷ xs)) e (member_here x xs))
  | inr r ↦ elim (append_cases xs ys m r) [ inl a ↦ inl (member_there x xs m a) | inr b ↦ inr b ]
]

element : (xs : List Cell) (k : ℕ) → k < length xs → (c : Cell) × (slice_get xs k ≡ Some c)
element [] k l = absurd (omega arith)
element (x ∷ xs) zero l = (x, refl)
element (x ∷ xs) (suc k) l = element xs k (omega arith)

less_bit : (k n : ℕ) → k < n → ◌≡◌ {A = ℕ} (cond (nat_lt k n) 1 0) 1
less_bit k n l = grind arith

more_bit : (k n : ℕ) → n ≤ k → ◌≡◌ {A = ℕ} (cond (nat_lt k n) 1 0) 0
more_bit k n l = grind arith

module _ (g : Geometry) (law : IsGrid g) (t : Triple) (triple : IsTriple t) where
  -- some reduced cell
  first_of : (xs : List Cell) → 1 ≤ length xs → (c : Cell) × Contains xs c
  first_of [] l = absurd (omega arith)
  first_of (x ∷ xs) l = (x, member_here x xs)

  some_cell : (c : Cell) × IsCell g c
  some_cell =
      let some = law.per_range.0 in
      let count : length law.block.0 ≡ g.per = law.block.2 in
      let c = first_of law.block.0 (omega arith) in
      (c.0, (All-contains (λ (c : Cell). IsCell g c × (pos 0 ≤ℤ c.a) × (c.a <ℤ pos g.unit) × (pos 0 ≤ℤ c.b) × (c.b <ℤ pos g.unit)) law.block.0 c.0 law.block.1.only c.1).0)

  pub some_points : 1 ≤ length (reduced_cells g t)
  some_points =
      let c = some_cell in
      some_member (reduced_cells g t) (reduced g law t triple c.0) ((reduced_listed g t law triple).every (reduced g law t triple c.0) (is_reduced g law t triple c.0 c.1))
    where
      some_member : (xs : List Cell) (x : Cell) → Contains xs x → 1 ≤ length xs
      some_member [] x m = absurd (no_member x m)
      some_member (y ∷ xs) x m = omega arith

module _ (g : Geometry) (shape : List Cell) (t : Triple) where
  -- ---- a mask within the full word, and masks with the first

  pub within_full : (full : ℕ) → HasAllPoints g t full → (by : Iso) (m : ℕ) → IsMaskOf g shape t by m → (k : ℕ) → bit_at m k ≤ bit_at full k
  within_full full all by m is k = elim (cases_order k (length (reduced_cells g t))) [
    | inl e ↦ past (omega arith)
    | inr o ↦ elim o [
      | inl l ↦ let one = all k in let few = bit_at-lt m k in let e = less_bit k (length (reduced_cells g t)) l in omega arith
      | inr l ↦ past (omega arith)
    ]
  ]
    where
      past : length (reduced_cells g t) ≤ k → bit_at m k ≤ bit_at full k
      past l = let none = is.others k l in omega arith

  pub filled_with : (turn : ℕ) → turn < g.turns → (masks : List ℕ) → HasMasksFrom g shape t turn masks → (full first : ℕ) → IsMaskOf g shape t (unmoved turn) first → (found now : List ℕ) → now ≡ found ++ first ∷ [] → All (Contains masks) found × FillBeside first full found → AreExactMasks g shape t full now
  filled_with turn below masks have full first is found now e h = subst (AreExactMasks g shape t full) (sym e) (record {
    tiles = λ m i. elim (append_cases found (first ∷ []) m i) [
      | inl a ↦ let x = have.only m (All-contains (Contains masks) found m h.0 a) in (x.0, x.1, x.3)
      | inr b ↦ elim (member_cases first [] m b) [ inl e ↦ subst (IsTileMask g shape t) e (unmoved turn, below, is) | inr none ↦ absurd (no_member m none) ]
    ];
    fill = λ k l. let z = bit_at-zero k in let p = with_push k first found in let f = h.1 k l in omega arith;
  })

  pub none_with : (turn full first : ℕ) → IsMaskOf g shape t (unmoved turn) first → (masks : List ℕ) → ((found : List ℕ) → All (Contains masks) found → ¬ FillBeside first full found) → (other : ℕ) → IsMaskOf g shape t (unmoved turn) other → (found : List ℕ) → All (Contains masks) found → ¬ FillBeside other full found
  none_with turn full first is masks none other other_is found inside fills = none found inside (subst (λ m. FillBeside m full found) (one_mask g t shape (unmoved turn) other first other_is is) fills)

module _ (g : Geometry) (law : IsGrid g) (shape : List Cell) (form : IsPolyform g shape) (t : Triple) (triple : IsTriple t) where
  -- ---- each tile has a mask, or some reduced cell twice

  image_residue : (by : Iso) → IsIsometry g by → (c : Cell) → IsCell g c → IsReduced g t (residue g t (apply g by c))
  image_residue by p c cell = is_reduced g law t triple (apply g by c) (law.cells_kept by p c cell)

  has_mask : (by : Iso) → IsIsometry g by → length (reduced_cells g t) ≤ 64 → ((m : ℕ) × IsMaskOf g shape t by m) ⊎ HasDouble g shape t by
  has_mask by p few = elim (so_far (length shape) (omega arith)) [
    | inl m ↦ inl (m.0, subst (λ cs. IsMaskOf g cs t by m.0) (take_all (length shape) shape (omega arith)) m.1)
    | inr d ↦ inr d
  ]
    where
      member_get : (xs : List Cell) (i : ℕ) (d : Cell) → i < length xs → Contains xs (get_or xs i d)
      member_get [] i d l = absurd (omega arith)
      member_get (x ∷ xs) zero d l = member_here x xs
      member_get (x ∷ xs) (suc i) d l = member_there x xs (get_or xs i d) (member_get xs i d (omega arith))

      zero_cell : Cell
      zero_cell = record { a = pos 0; b = pos 0 }

      so_far : (i : ℕ) → i ≤ length shape → ((m : ℕ) × IsMaskOf g (take i shape) t by m) ⊎ HasDouble g shape t by
      so_far zero l = inl (0, no_mask g t by)
      so_far (suc i) l = elim (so_far i (omega arith)) [
        | inr d ↦ inr d
        | inl m ↦
            let c : Cell = get_or shape i zero_cell in
            let cell : IsCell g (get_or shape i zero_cell) = in_grid g shape form c (member_get shape i zero_cell (omega arith)) in
            let k = index_of (reduced_cells g t) (residue g t (apply g by c)) ((reduced_listed g t law triple).every (residue g t (apply g by c)) (image_residue by p c cell)) in
            let next : i + 1 ≡ suc i = omega arith in
            elim (bit_cases m.0 k.0) [
              | inl free ↦ inl (bit_or m.0 (1 * 2 ^ k.0 % 2 ^ 64), subst (λ n. IsMaskOf g (take n shape) t by (bit_or m.0 (1 * 2 ^ k.0 % 2 ^ 64))) next (mask_more g t law triple shape by i zero_cell k.0 m.0 (omega arith) few k.1 m.1 free))
              | inr set ↦ inr (mask_double g t law triple shape by i zero_cell k.0 m.0 (omega arith) few k.1 m.1 set)
            ]
      ]

  -- ---- the masks of tiles

  tile_more : (by : Iso) (places : List Iso) (c : Cell) → times_in (residues g shape t (by ∷ places)) c ≡ times_in (tile_residues g shape t by) c + times_in (residues g shape t places) c
  tile_more by places c = ap (λ xs. times_in xs c) (map-append (residue g t) (image g by shape) (tile_cells g shape places)) ∙ times_append (tile_residues g shape t by) (residues g shape t places) c

  record MasksOf (places : List Iso) : Type 0 where
    list : List ℕ
    each : (m : ℕ) → Contains list m → (by : Iso) × Contains places by × IsMaskOf g shape t by m
    cells : (k : ℕ) (c : Cell) → slice_get (reduced_cells g t) k ≡ Some c → with_bit k list ≡ times_in (residues g shape t places) c
    others : (k : ℕ) → length (reduced_cells g t) ≤ k → with_bit k list ≡ 0

  masks_of : (places : List Iso) → ((by : Iso) → Contains places by → (m : ℕ) × IsMaskOf g shape t by m) → MasksOf places
  masks_of [] h = record { list = []; each = λ m i. absurd (no_member m i); cells = λ k c e. refl; others = λ k l. refl }
  masks_of (by ∷ places) h =
      let m = h by (member_here by places) in
      let rest : MasksOf places = masks_of places (λ x i. h x (member_there by places x i)) in
      record {
        list = m.0 ∷ rest.list;
        each = λ n i. elim (member_cases m.0 rest.list n i) [
          | inl e ↦ (by, member_here by places, subst (IsMaskOf g shape t by) e m.1)
          | inr r ↦ let x = rest.each n r in (x.0, member_there by places x.0 x.1, x.2)
        ];
        cells = λ k c e. with_cons k m.0 rest.list ∙ (λ i. m.1.cells k c e i + rest.cells k c e i) ∙ sym (tile_more by places c);
        others = λ k l. with_cons k m.0 rest.list ∙ (λ i. m.1.others k l i + rest.others k l i);
      }

  times_of_place : (places : List Iso) (by : Iso) (c : Cell) → Contains places by → times_in (tile_residues g shape t by) c ≤ times_in (residues g shape t places) c
  times_of_place [] by c m = absurd (no_member by m)
  times_of_place (x ∷ places) by c m =
      let more = tile_more x places c in
      elim (member_cases x places by m) [
        | inl e ↦ subst (λ z. times_in (tile_residues g shape t z) c ≤ times_in (residues g shape t (x ∷ places)) c) e (omega arith)
        | inr r ↦ let rest = times_of_place places by c r in omega arith
      ]

  -- tiles of a cover have masks
  module _ (places : List Iso) (cover : IsPeriodicCover g shape t places) (few : length (reduced_cells g t) ≤ 64) where
    once : (c : Cell) → IsReduced g t c → times_in (residues g shape t places) c ≡ 1
    once = covers_once g law shape form t triple places cover.isometries cover

    cover_masks : (by : Iso) → Contains places by → (m : ℕ) × IsMaskOf g shape t by m
    cover_masks by i = elim (has_mask by (All-contains (IsIsometry g) places by cover.isometries i) few) [
      | inl m ↦ m
      | inr double ↦
          let two = double.twice in
          let most = times_of_place places by double.cell i in
          let one = once double.cell double.reduced in
          absurd (omega arith)
    ]

  pub no_cover_at : (turn : ℕ) (masks : List ℕ) (full : ℕ) → turn < g.turns → length (reduced_cells g t) ≤ 64 → HasMasksFrom g shape t turn masks → HasAllPoints g t full → ((first : ℕ) → IsMaskOf g shape t (unmoved turn) first → (found : List ℕ) → All (Contains masks) found → ¬ FillBeside first full found) → HasNoCoverAt g shape t turn
  no_cover_at turn masks full below few have all none rest later cover =
      let place : List Iso = unmoved turn ∷ rest in
      let mask : (by : Iso) → Contains (unmoved turn ∷ rest) by → (m : ℕ) × IsMaskOf g shape t by m = cover_masks (unmoved turn ∷ rest) cover few in
      let first = mask (unmoved turn) (member_here (unmoved turn) rest) in
      let others : MasksOf rest = masks_of rest (λ by i. mask by (member_there (unmoved turn) rest by i)) in
      none first.0 first.1 others.list
      (All-from_members (Contains masks) others.list (λ m i.
      let x = others.each m i in
      let isometry : IsIsometry g x.0 × (turn ≤ x.0.turn) = All-contains (λ x. IsIsometry g x × (turn ≤ x.turn)) rest x.0 later x.1 in
      have.every x.0 isometry.0 isometry.1 m x.2))
      (λ k l. elim (cases_order k (length (reduced_cells g t))) [
        | inl e ↦ past first others k (omega arith)
        | inr o ↦ elim o [
          | inl less ↦
              let c = element (reduced_cells g t) k less in
              let red : IsReduced g t c.0 = All-contains (IsReduced g t) (reduced_cells g t) c.0 (reduced_listed g t law triple).only (member_at (reduced_cells g t) k c.0 c.1) in
              let a = first.1.cells k c.0 c.1 in
              let b = others.cells k c.0 c.1 in
              let both = tile_more (unmoved turn) rest c.0 in
              let one = once (unmoved turn ∷ rest) cover few c.0 red in
              let f = all k in
              let e = less_bit k (length (reduced_cells g t)) less in
              omega arith
          | inr more ↦ past first others k (omega arith)
        ]
      ])
    where
      past : (first : (m : ℕ) × IsMaskOf g shape t (unmoved turn) m) (others : MasksOf rest) (k : ℕ) → length (reduced_cells g t) ≤ k → bit_at first.0 k + with_bit k others.list ≡ bit_at full k
      past first others k l =
          let a = first.1.others k l in
          let b = others.others k l in
          let f = all k in
          let e = more_bit k (length (reduced_cells g t)) l in
          omega arith

  -- ---- a tile of the least turn, moved to (0, 0)

  record LeastFirst (places : List Iso) : Type 0 where
    by : Iso
    rest : List Iso
    later : (x : Iso) → Contains rest x → by.turn ≤ x.turn
    inside : (x : Iso) → Contains (by ∷ rest) x → Contains places x
    same : (c : Cell) → times_in (residues g shape t (by ∷ rest)) c ≡ times_in (residues g shape t places) c

  least_first : (x : Iso) (places : List Iso) → LeastFirst (x ∷ places)
  least_first x [] = record { by = x; rest = []; later = λ y i. absurd (no_member y i); inside = λ y i. i; same = λ c. refl }
  least_first x (y ∷ places) =
      let l : LeastFirst (y ∷ places) = least_first y places in
      elim (cases_order x.turn l.by.turn) [
        | inl e ↦ keep l (omega arith)
        | inr o ↦ elim o [ inl less ↦ keep l (omega arith) | inr more ↦ swap l (omega arith) ]
      ]
    where
      keep : (l : LeastFirst (y ∷ places)) → x.turn ≤ l.by.turn → LeastFirst (x ∷ y ∷ places)
      keep l low = record {
        by = x;
        rest = l.by ∷ l.rest;
        later = λ z i. elim (member_cases l.by l.rest z i) [
          | inl e ↦ subst (λ (w : Iso). x.turn ≤ w.turn) e low
          | inr r ↦ let after = l.later z r in omega arith
        ];
        inside = λ z i. elim (member_cases x (l.by ∷ l.rest) z i) [
          | inl e ↦ subst (Contains (x ∷ y ∷ places)) e (member_here x (y ∷ places))
          | inr r ↦ member_there x (y ∷ places) z (l.inside z r)
        ];
        same = λ c. tile_more x (l.by ∷ l.rest) c ∙ ap (λ n. times_in (tile_residues g shape t x) c + n) (l.same c) ∙ sym (tile_more x (y ∷ places) c);
      }

      swap : (l : LeastFirst (y ∷ places)) → l.by.turn ≤ x.turn → LeastFirst (x ∷ y ∷ places)
      swap l low = record {
        by = l.by;
        rest = x ∷ l.rest;
        later = λ z i. elim (member_cases x l.rest z i) [
          | inl e ↦ subst (λ (w : Iso). l.by.turn ≤ w.turn) e low
          | inr r ↦ l.later z r
        ];
        inside = λ z i. elim (member_cases l.by (x ∷ l.rest) z i) [
          | inl e ↦ member_there x (y ∷ places) z (l.inside z (subst (Contains (l.by ∷ l.rest)) e (member_here l.by l.rest)))
          | inr r ↦ elim (member_cases x l.rest z r) [
            | inl e ↦ subst (Contains (x ∷ y ∷ places)) e (member_here x (y ∷ places))
            | inr s ↦ member_there x (y ∷ places) z (l.inside z (member_there l.by l.rest z s))
          ]
        ];
        same = λ c.
            let a = tile_more l.by (x ∷ l.rest) c in
            let b = tile_more x l.rest c in
            let d = tile_more l.by l.rest c in
            let e = l.same c in
            let f = tile_more x (y ∷ places) c in
            omega arith;
      }

  -- with no such cover for any turn there is none
  pub no_cover : ((turn : ℕ) → turn < g.turns → HasNoCoverAt g shape t turn) → (places : List Iso) → ¬ IsPeriodicCover g shape t places
  no_cover none [] cover =
      let c = some_cell g law t triple in
      let o : HoldsOnce (HasCell g shape t [] c.0) = cover.exactly_one c.0 c.1 in
      none_there o.holds.by o.holds.is_place
    where
      none_there : (by : Iso) → None ≡ Some by → ⊥
      none_there by e = cc
  no_cover none (x ∷ places) cover =
      let l : LeastFirst (x ∷ places) = least_first x places in
      let da : ℤ = neg_ℤ l.by.da in
      let db : ℤ = neg_ℤ l.by.db in
      let isometry : (y : Iso) → Contains (l.by ∷ l.rest) y → IsIsometry g y = λ y i. All-contains (IsIsometry g) (x ∷ places) y cover.isometries (l.inside y i) in
      let isometries : All (IsIsometry g) (l.by ∷ l.rest) = All-from_members (IsIsometry g) (l.by ∷ l.rest) isometry in
      let ordered : IsPeriodicCover g shape t (l.by ∷ l.rest) = covers g law shape form t triple (l.by ∷ l.rest) isometries (λ r red. l.same r ∙ covers_once g law shape form t triple (x ∷ places) cover.isometries cover r red) in
      let still : shifted (neg_ℤ l.by.da) (neg_ℤ l.by.db) l.by ≡ unmoved l.by.turn = λ i. record { turn = l.by.turn; da = gone l.by.da i; db = gone l.by.db i } in
      none l.by.turn (isometry l.by (member_here l.by l.rest)) (map (shifted da db) l.rest)
      (All-from_members (λ y. IsIsometry g y × (l.by.turn ≤ y.turn)) (map (shifted da db) l.rest) (λ y m.
      let z = map_member (shifted da db) l.rest y m in
      subst (λ (w : Iso). IsIsometry g w × (l.by.turn ≤ w.turn)) z.2 (isometry z.0 (member_there l.by l.rest z.0 z.1), l.later z.0 z.1)))
      (subst (λ (y : Iso). IsPeriodicCover g shape t (y ∷ map (shifted (neg_ℤ l.by.da) (neg_ℤ l.by.db)) l.rest)) still (shifted_cover g law shape t da db (l.by ∷ l.rest) ordered))
    where
      gone : (z : ℤ) → z +ℤ neg_ℤ z ≡ pos 0
      gone z = omega (arith, ints)
