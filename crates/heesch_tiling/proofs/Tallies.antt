-- Counts by the numbers of cells: one more cell, one more list of cells, and what full counts say.
use Rattle.std.proofs.Common.{◌≡◌, ◌↔◌, refl, sym, ap, subst, ◌∙◌, ℕ, suc, ◌+◌, ◌<◌, ◌≤◌, List, [], ◌∷◌, ◌++◌, map, filter, length, take, drop, get_or, Bool, true, false, cond, inl, inr, arith, All}
use Rattle.std.specs.Prelude.{ℤ, ◌*◌, ◌≢◌, slice_index, slice_set}
use Rattle.std.proofs.lemmas.Bool.{cases_Bool, cases_order, true≢false}
use Rattle.std.proofs.lemmas.List.{length-take-le, length-set, get_or-set_same, get_or-set_other, take_more, take-append-drop}
use Rattle.std.proofs.lemmas.List.Elements.{All-cons}
use Rattle.heesch_grid.specs.declared.Cell.{Cell}
use Rattle.heesch_grid.specs.declared.isometries.Iso.{Iso}
use Rattle.heesch_grid.specs.Cells.{same_cell}
use Rattle.heesch_grid.specs.Pairs.{same_cell-true, same_cell-is}
use Rattle.heesch_grid.specs.Geometry.{Geometry, IsGrid, IsIsometry, apply, image}
use Rattle.heesch_grid.specs.Polyform.{IsPolyform}
use Rattle.heesch_grid.specs.Lattice.{Triple, IsTriple, IsReduced}
use Rattle.heesch_grid.specs.Tiling.{IsPeriodicCover, no_move, half_turned}
use Rattle.heesch_tiling.specs.Counting.{residue, tile_residues, residues, times_in, window_size, in_window, AreCounts, AddsCounts, HasRepeat, IsFull}
use Rattle.heesch_tiling.proofs.Steps.{map_append, map_length, append_none, residues_more}
use Rattle.heesch_tiling.proofs.Spots.{one_number, wide_some, window_reduced, same_test, none_reduced}
use Rattle.heesch_tiling.proofs.Covers.{covers_once}
use Rattle.heesch_tiling.proofs.Verdicts.{exact, never_amiss}

-- ---- how often a cell stands in a list
pub times_append : (xs ys : List Cell) (c : Cell) → times_in (xs ++ ys) c ≡ times_in xs c + times_in ys c
times_append [] ys c = omega arith
times_append (x ∷ xs) ys c = kept (times_append xs ys c) (same_cell c x)
  where
    kept : times_in (xs ++ ys) c ≡ times_in xs c + times_in ys c → (b : Bool) → length (cond b (x ∷ filter (same_cell c) (xs ++ ys)) (filter (same_cell c) (xs ++ ys))) ≡ length (cond b (x ∷ filter (same_cell c) xs) (filter (same_cell c) xs)) + times_in ys c
    kept e true = omega (arith, e)
    kept e false = e

pub times_few : (xs : List Cell) (c : Cell) → times_in xs c ≤ length xs
times_few [] c = omega arith
times_few (x ∷ xs) c = kept (times_few xs c) (same_cell c x)
  where
    kept : times_in xs c ≤ length xs → (b : Bool) → length (cond b (x ∷ filter (same_cell c) xs) (filter (same_cell c) xs)) ≤ suc (length xs)
    kept l true = omega (arith, l)
    kept l false = omega (arith, l)

times_here : (r c : Cell) → c ≡ r → times_in (r ∷ []) c ≡ 1
times_here r c e = ap (λ b. length (cond b (r ∷ []) [])) (same_cell-is c r e)

times_elsewhere : (r c : Cell) → c ≢ r → times_in (r ∷ []) c ≡ 0
times_elsewhere r c d =
    elim (cases_Bool (same_cell c r)) [
      | inl t ↦ absurd (d (same_cell-true c r t))
      | inr f ↦ ap (λ b. length (cond b (r ∷ []) [])) f
    ]

-- ---- the cells of one tile, one more at a time
module _ (g : Geometry) (t : Triple) (by : Iso) where
  pub tile_more : (cells : List Cell) (i : ℕ) (d : Cell) → i < length cells → tile_residues g (take (i + 1) cells) t by ≡ tile_residues g (take i cells) t by ++ residue g t (apply g by (get_or cells i d)) ∷ []
  tile_more cells i d less =
      ap (λ xs. tile_residues g xs t by) (take_more cells i d less)
      ∙ ap (map (residue g t)) (map_append (apply g by) (take i cells) (get_or cells i d ∷ []))
      ∙ map_append (residue g t) (image g by (take i cells)) (apply g by (get_or cells i d) ∷ [])

  pub times_begun : (cells : List Cell) (n : ℕ) (c : Cell) → times_in (tile_residues g (take n cells) t by) c ≤ times_in (tile_residues g cells t by) c
  times_begun cells n c =
      let whole : tile_residues g cells t by ≡ tile_residues g (take n cells) t by ++ tile_residues g (drop n cells) t by =
      ap (λ xs. tile_residues g xs t by) (sym (take-append-drop n cells))
      ∙ ap (map (residue g t)) (map_append (apply g by) (take n cells) (drop n cells))
      ∙ map_append (residue g t) (image g by (take n cells)) (image g by (drop n cells)) in
      let e = ap (λ xs. times_in xs c) whole ∙ times_append (tile_residues g (take n cells) t by) (tile_residues g (drop n cells) t by) c in
      omega (arith, e)

  pub tile_length : (cells : List Cell) (i : ℕ) → i < length cells → length (tile_residues g (take i cells) t by) ≡ i
  tile_length cells i less = map_length (residue g t) (image g by (take i cells)) ∙ map_length (apply g by) (take i cells) ∙ length-take-le i cells (omega (arith, less))

-- ---- counts
module _ (g : Geometry) (t : Triple) where
  pub adds_none : (counts : List ℕ) → AddsCounts g t [] counts counts
  adds_none counts = record { same = refl; each = λ k l. omega arith }

  pub then_counts : (xs ys : List Cell) (old new : List ℕ) → AreCounts g t xs old → AddsCounts g t ys old new → AreCounts g t (xs ++ ys) new
  then_counts xs ys old new are adds = record {
    all = adds.same ∙ are.all;
    each = λ k l. adds.each k (subst (λ n. k < n) (sym are.all) l) ∙ ap (λ n. n + times_in ys (in_window g t k)) (are.each k l) ∙ sym (times_append xs ys (in_window g t k));
  }

  module _ (some : 1 ≤ g.unit * t.p) where
    pub adds_one : (xs : List Cell) (old now : List ℕ) → AddsCounts g t xs old now → (k : ℕ) (r : Cell) (v : ℕ) → k < length old → in_window g t k ≡ r → v ≡ slice_index now k + 1 → AddsCounts g t (xs ++ r ∷ []) old (slice_set now k v)
    adds_one xs old now adds k r v less is more = record {
      same = length-set now k v ∙ adds.same;
      each = λ j l.
          let both = times_append xs (r ∷ []) (in_window g t j) in
          let before = adds.each j l in
          elim (cases_order j k) [
            | inl e ↦
                let one = times_here r (in_window g t j) (ap (in_window g t) e ∙ is) in
                let set : slice_index (slice_set now k v) j ≡ v = ap (slice_index (slice_set now k v)) e ∙ get_or-set_same now k v 0 (subst (λ n. k < n) (sym adds.same) less) in
                let same : slice_index now k ≡ slice_index now j = ap (slice_index now) (sym e) in
                omega (arith, both, before, one, set, same, more)
            | inr o ↦
                let apart : j ≢ k = λ e. elim o [ inl a ↦ omega (arith, a, e) | inr b ↦ omega (arith, b, e) ] in
                let none = times_elsewhere r (in_window g t j) (λ e. apart (one_number (g.unit * t.p) j k some (e ∙ sym is))) in
                let set : slice_index (slice_set now k v) j ≡ slice_index now j = get_or-set_other now k j v 0 apart in
                omega (arith, both, before, none, set)
          ];
    }

  -- the tile whose cell, one of its first, is marked already
  pub repeats : (by : Iso) (cells : List Cell) (old now : List ℕ) (i : ℕ) (d : Cell) (k : ℕ) → i < length cells → AddsCounts g t (tile_residues g (take i cells) t by) old now → k < length old → in_window g t k ≡ residue g t (apply g by (get_or cells i d)) → IsReduced g t (in_window g t k) → 1 ≤ slice_index now k → HasRepeat g t (tile_residues g cells t by) old
  repeats by cells old now i d k less adds below is red some =
      let c : Cell = in_window g t k in
      let r : Cell = residue g t (apply g by (get_or cells i d)) in
      let more = ap (λ xs. times_in xs c) (tile_more g t by cells i d less) ∙ times_append (tile_residues g (take i cells) t by) (r ∷ []) c in
      let one = times_here r c is in
      let begun = times_begun g t by cells (i + 1) c in
      let before = adds.each k below in
      record { at = k; below = below; reduced = red; twice = omega (arith, more, one, begun, before, some) }

-- one cell of a tile more
pub adds_next : (g : Geometry) → IsGrid g → (t : Triple) → IsTriple t → (by : Iso) (cells : List Cell) (i : ℕ) (d : Cell) → i < length cells → (old now : List ℕ) → length old ≡ window_size g t → AddsCounts g t (tile_residues g (take i cells) t by) old now →
    (k : ℕ) → in_window g t k ≡ residue g t (apply g by (get_or cells i d)) → k < window_size g t → (v : ℕ) → v ≡ slice_index now k + 1 → AddsCounts g t (tile_residues g (take (i + 1) cells) t by) old (slice_set now k v)
adds_next g law t triple by cells i d less old now all adds k is below v more =
    subst (λ (xs : List Cell). AddsCounts g t xs old (slice_set now k v)) (sym (tile_more g t by cells i d less))
    (adds_one g t (wide_some g law t triple) (tile_residues g (take i cells) t by) old now adds k (residue g t (apply g by (get_or cells i d))) v (subst (λ n. k < n) (sym all) below) is more)

-- one tile more
pub counts_next : (g : Geometry) (t : Triple) (cells : List Cell) (places : List Iso) (i : ℕ) (d : Iso) → i < length places → (old new : List ℕ) → AreCounts g t (residues g cells t (take i places)) old → AddsCounts g t (tile_residues g cells t (get_or places i d)) old new →
    AreCounts g t (residues g cells t (take (i + 1) places)) new
counts_next g t cells places i d less old new are adds =
    subst (λ (xs : List Cell). AreCounts g t xs new) (sym (residues_more g cells t places i d less)) (then_counts g t (residues g cells t (take i places)) (tile_residues g cells t (get_or places i d)) old new are adds)

-- ---- full counts
module _ (g : Geometry) (law : IsGrid g) (shape : List Cell) (form : IsPolyform g shape) (t : Triple) (triple : IsTriple t) (places : List Iso) (isometries : All (IsIsometry g) places) where
  pub full_covers : (counts : List ℕ) → AreCounts g t (residues g shape t places) counts → IsFull g t counts ↔ IsPeriodicCover g shape t places
  full_covers counts are = (
    (λ full. exact g law shape form t triple places isometries (none_reduced g law t triple (residues g shape t places) counts are 1 1 full)),
    (λ cover k l. same_test g law t triple (residues g shape t places) counts are 1 1 k l ∙ never_amiss g law shape form t triple places isometries cover (in_window g t k) (λ h. window_reduced g law t triple k l h)),
  )

  pub repeat_never : (r : Cell) → IsReduced g t r → 2 ≤ times_in (residues g shape t places) r → ¬ IsPeriodicCover g shape t places
  repeat_never r red two cover = let one = covers_once g law shape form t triple places isometries cover r red in absurd (omega (arith, one, two))

-- the reduced cells of one tile, and of two
pub one_tile : (g : Geometry) (shape : List Cell) (t : Triple) (a : Iso) → residues g shape t (a ∷ []) ≡ tile_residues g shape t a
one_tile g shape t a = ap (map (residue g t)) (append_none (image g a shape))

pub two_tiles : (g : Geometry) (shape : List Cell) (t : Triple) (a b : Iso) → residues g shape t (a ∷ b ∷ []) ≡ tile_residues g shape t a ++ tile_residues g shape t b
two_tiles g shape t a b =
    map_append (residue g t) (image g a shape) (image g b shape ++ []) ∙ ap (λ xs. tile_residues g shape t a ++ xs) (ap (map (residue g t)) (append_none (image g b shape)))

-- a test of full counts, and one that no cover passes
decides : (b : Bool) (P Q : Type 0) → (b ≡ true) ↔ P → P ↔ Q → (b ≡ true) ↔ Q
decides b P Q test same = ((λ e. same.0 (test.0 e)), (λ q. test.1 (same.1 q)))

never_decides : (b : Bool) (Q : Type 0) → b ≡ false → ¬ Q → (b ≡ true) ↔ Q
never_decides b Q off never = ((λ e. absurd (true≢false (sym e ∙ off))), (λ q. absurd (never q)))

-- ---- the shape alone, and the shape with its image under a half-turn
All-none : (P : Iso → Type 0) → All P []
All-none P k d l = absurd (omega arith)

module _ (g : Geometry) (law : IsGrid g) (shape : List Cell) (form : IsPolyform g shape) (t : Triple) (triple : IsTriple t) where
  unmoved : All (IsIsometry g) (no_move ∷ [])
  unmoved = All-cons (IsIsometry g) no_move [] law.turns_range.0 (All-none (IsIsometry g))

  alone : (marks : List ℕ) → AreCounts g t (tile_residues g shape t no_move) marks → IsFull g t marks ↔ IsPeriodicCover g shape t (no_move ∷ [])
  alone marks are = full_covers g law shape form t triple (no_move ∷ []) unmoved marks (subst (λ (xs : List Cell). AreCounts g t xs marks) (sym (one_tile g shape t no_move)) are)

  -- the count of a cell that the shape has twice
  repeat_count : (old : List ℕ) → AreCounts g t [] old → (r : HasRepeat g t (tile_residues g shape t no_move) old) → 2 ≤ times_in (tile_residues g shape t no_move) (in_window g t r.at)
  repeat_count old none r =
      let zero_count = none.each r.at (subst (λ n. r.at < n) none.all r.below) in
      let twice = r.twice in
      omega (arith, zero_count, twice)

  -- what is full of its marks is a cover
  pub alone_decides : (old marks : List ℕ) → AreCounts g t [] old → AddsCounts g t (tile_residues g shape t no_move) old marks → (b : Bool) → (b ≡ true) ↔ IsFull g t marks → (b ≡ true) ↔ IsPeriodicCover g shape t (no_move ∷ [])
  alone_decides old marks none adds b test = decides b (IsFull g t marks) (IsPeriodicCover g shape t (no_move ∷ [])) test (alone marks (then_counts g t [] (tile_residues g shape t no_move) old marks none adds))

  alone_never : (old : List ℕ) → AreCounts g t [] old → HasRepeat g t (tile_residues g shape t no_move) old → ¬ IsPeriodicCover g shape t (no_move ∷ [])
  alone_never old none r =
      let same = ap (λ xs. times_in xs (in_window g t r.at)) (one_tile g shape t no_move) in
      let two = repeat_count old none r in
      repeat_never g law shape form t triple (no_move ∷ []) unmoved (in_window g t r.at) r.reduced (omega (arith, same, two))

  -- what has a repeat is none
  pub alone_fails : (old : List ℕ) → AreCounts g t [] old → HasRepeat g t (tile_residues g shape t no_move) old → (b : Bool) → b ≡ false → (b ≡ true) ↔ IsPeriodicCover g shape t (no_move ∷ [])
  alone_fails old none r b off = never_decides b (IsPeriodicCover g shape t (no_move ∷ [])) off (alone_never old none r)

  module _ (a b : ℤ) where
    turned : All (IsIsometry g) (no_move ∷ half_turned g a b ∷ [])
    turned = All-cons (IsIsometry g) no_move (half_turned g a b ∷ []) law.turns_range.0 (All-cons (IsIsometry g) (half_turned g a b) [] law.half_turn_below (All-none (IsIsometry g)))

    times_of_two : (c : Cell) → times_in (residues g shape t (no_move ∷ half_turned g a b ∷ [])) c ≡ times_in (tile_residues g shape t no_move) c + times_in (tile_residues g shape t (half_turned g a b)) c
    times_of_two c = ap (λ xs. times_in xs c) (two_tiles g shape t no_move (half_turned g a b)) ∙ times_append (tile_residues g shape t no_move) (tile_residues g shape t (half_turned g a b)) c

    both : (base marks : List ℕ) → AreCounts g t (tile_residues g shape t no_move) base → AddsCounts g t (tile_residues g shape t (half_turned g a b)) base marks → IsFull g t marks ↔ IsPeriodicCover g shape t (no_move ∷ half_turned g a b ∷ [])
    both base marks are adds =
        full_covers g law shape form t triple (no_move ∷ half_turned g a b ∷ []) turned marks
        (subst (λ (xs : List Cell). AreCounts g t xs marks) (sym (two_tiles g shape t no_move (half_turned g a b))) (then_counts g t (tile_residues g shape t no_move) (tile_residues g shape t (half_turned g a b)) base marks are adds))

    both_never : (base : List ℕ) → AreCounts g t (tile_residues g shape t no_move) base → HasRepeat g t (tile_residues g shape t (half_turned g a b)) base → ¬ IsPeriodicCover g shape t (no_move ∷ half_turned g a b ∷ [])
    both_never base are r =
        let before = are.each r.at (subst (λ n. r.at < n) are.all r.below) in
        let sum = times_of_two (in_window g t r.at) in
        let twice = r.twice in
        repeat_never g law shape form t triple (no_move ∷ half_turned g a b ∷ []) turned (in_window g t r.at) r.reduced (omega (arith, before, sum, twice))

    pub first_never : (old : List ℕ) → AreCounts g t [] old → HasRepeat g t (tile_residues g shape t no_move) old → ¬ IsPeriodicCover g shape t (no_move ∷ half_turned g a b ∷ [])
    first_never old none r =
        let two = repeat_count old none r in
        let sum = times_of_two (in_window g t r.at) in
        repeat_never g law shape form t triple (no_move ∷ half_turned g a b ∷ []) turned (in_window g t r.at) r.reduced (omega (arith, two, sum))

    module _ (base copied : List ℕ) (same : copied ≡ base) (are : AreCounts g t (tile_residues g shape t no_move) base) (by : Iso) (is : by ≡ half_turned g a b) where
      copied_are : AreCounts g t (tile_residues g shape t no_move) copied
      copied_are = subst (λ (ns : List ℕ). AreCounts g t (tile_residues g shape t no_move) ns) (sym same) are

      -- what is full of the marks of both is a cover
      pub both_decides : (marks : List ℕ) → AddsCounts g t (tile_residues g shape t by) copied marks → (test : Bool) → (test ≡ true) ↔ IsFull g t marks → (test ≡ true) ↔ IsPeriodicCover g shape t (no_move ∷ half_turned g a b ∷ [])
      both_decides marks adds test full =
          decides test (IsFull g t marks) (IsPeriodicCover g shape t (no_move ∷ half_turned g a b ∷ [])) full
          (both copied marks copied_are (subst (λ (x : Iso). AddsCounts g t (tile_residues g shape t x) copied marks) is adds))

      -- what has a repeat is none
      pub both_fails : HasRepeat g t (tile_residues g shape t by) copied → (test : Bool) → test ≡ false → (test ≡ true) ↔ IsPeriodicCover g shape t (no_move ∷ half_turned g a b ∷ [])
      both_fails r test off =
          never_decides test (IsPeriodicCover g shape t (no_move ∷ half_turned g a b ∷ [])) off (both_never copied copied_are (subst (λ (x : Iso). HasRepeat g t (tile_residues g shape t x) copied) is r))
