-- Tiles as the numbers of their reduced cells: their words, one step further, and the table of a step.
use Rattle.std.proofs.Common.{◌≡◌, refl, sym, ap, subst, ◌∙◌, ℕ, zero, suc, ◌+◌, ◌*◌, ◌/◌, ◌%◌, ◌<◌, ◌≤◌, List, [], ◌∷◌, ◌++◌, map, filter, length, Bool, true, false, cond, ◌==◌, inl, inr, arith, All, Contains}
use Rattle.std.specs.Prelude.{ℤ, pos, ◌+ℤ◌, Option, Some, None, is_some, IfSome, IfNone, slice_index}
use Rattle.std.specs.List.{range_with_len, slice_get, count_by}
use Rattle.std.proofs.lemmas.Bool.{cases_Bool, cases_lt}
use Rattle.std.proofs.lemmas.Int.{ints}
use Rattle.std.proofs.lemmas.List.{length-map, map-append}
use Rattle.std.proofs.lemmas.List.Elements.{All-contains, filter-append}
use Rattle.std.proofs.lemmas.List.Sums.{sum_by-cons}
use Rattle.std.proofs.lemmas.Nat.{div-mul-add, mod-mul-add}
use Rattle.std.proofs.lemmas.Option.{slice_get_within}
use Rattle.heesch_grid.specs.declared.Cell.{Cell}
use Rattle.heesch_grid.specs.declared.isometries.Iso.{Iso}
use Rattle.heesch_grid.specs.Cells.{same_cell, cell_before}
use Rattle.heesch_grid.specs.Geometry.{Geometry, IsGrid, IsCell, IsIsometry, apply, moved}
use Rattle.heesch_grid.specs.Lattice.{Triple, IsReduced}
use Rattle.heesch_grid.specs.Listing.{IsRising}
use Rattle.heesch_grid.specs.Pairs.{same_cell-true, same_cell-is}
use Rattle.heesch_grid.proofs.ListFacts.{member_cases, member_here, member_there, member_at, no_member, All-from_members}
use Rattle.heesch_grid.proofs.CellFacts.{has-is}
use Rattle.heesch_grid.proofs.ReductionFacts.{is_reduced}
use Rattle.heesch_tiling.specs.Counting.{residue, tile_residues, times_in, window_size, in_window}
use Rattle.heesch_tiling.proofs.Steps.{append_none}
use Rattle.heesch_torus.specs.Formula.{reduced_cells}
use Rattle.heesch_torus.specs.Trying.{tried}
use Rattle.heesch_torus.specs.Masks.{IsMaskable, IsMaskOf, HasDouble, AddsMasks}
use Rattle.heesch_torus.specs.Stepping.{AreNumbersOf, ArePointsOf, IsStep, one_further, HasBits, HasTwice}
use Rattle.heesch_torus.specs.Covers.{unmoved}
use Rattle.heesch_torus.proofs.Masking.{index_once, element, double_unmasked, adds_double, adds_mask, number_gives, cells_until}
use Rattle.heesch_torus.proofs.Moving.{further, moved_cell, residues_further, residues_round}
use Rattle.heesch_torus.proofs.Numbering.{range_more, reduced_listed}

-- ---- lists of numbers, and what they number

cons_first : {X : Type 0} (x y : X) (xs ys : List X) → x ∷ xs ≡ y ∷ ys → x ≡ y
cons_first x y xs ys e = cc

cons_rest : {X : Type 0} (x y : X) (xs ys : List X) → x ∷ xs ≡ y ∷ ys → xs ≡ ys
cons_rest x y xs ys e = cc

cons_none : {X : Type 0} (x : X) (xs : List X) → x ∷ xs ≡ [] → ⊥
cons_none x xs e = cc

none_cons : {X : Type 0} (x : X) (xs : List X) → [] ≡ x ∷ xs → ⊥
none_cons x xs e = cc

some_same : (c d : Cell) → Some c ≡ Some d → c ≡ d
some_same c d e = cc

same_number : (m n : ℕ) → (m == n) ≡ true → m ≡ n
same_number m n e = grind arith

other_number : (m n : ℕ) → m < n → (m == n) ≡ false
other_number m n l = grind arith

is_number : (m n : ℕ) → m ≡ n → (m == n) ≡ true
is_number m n e = grind arith

times_cons : (c r : Cell) (rs : List Cell) (b : Bool) → same_cell c r ≡ b → times_in (r ∷ rs) c ≡ cond b 1 0 + times_in rs c
times_cons c r rs b e = ap (λ z. length (cond z (r ∷ filter (same_cell c) rs) (filter (same_cell c) rs))) e ∙ one b
  where
    one : (b : Bool) → length (cond b (r ∷ filter (same_cell c) rs) (filter (same_cell c) rs)) ≡ cond b 1 0 + times_in rs c
    one true = omega arith
    one false = omega arith

count_cons : (k q : ℕ) (points : List ℕ) (b : Bool) → (q == k) ≡ b → count_by (λ p. p == k) (q ∷ points) ≡ cond b 1 0 + count_by (λ p. p == k) points
count_cons k q points b e = sum_by-cons (λ p. cond (p == k) 1 0) q points ∙ ap (λ z. cond z 1 0 + count_by (λ p. p == k) points) e

-- moving cells leaves as many that are one
times_map : (f : Cell → Cell) (rs : List Cell) (c : Cell) → times_in rs c ≤ times_in (map f rs) (f c)
times_map f [] c = omega arith
times_map f (r ∷ rs) c =
    let rest = times_map f rs c in
    elim (cases_Bool (same_cell c r)) [
      | inl same ↦
          let here = times_cons c r rs true same in
          let there = times_cons (f c) (f r) (map f rs) true (same_cell-is (f c) (f r) (ap f (same_cell-true c r same))) in
          omega (arith, here, there, rest)
      | inr other ↦
          let here = times_cons c r rs false other in
          by_test here rest (same_cell (f c) (f r)) refl
    ]
  where
    by_test : times_in (r ∷ rs) c ≡ cond false 1 0 + times_in rs c → times_in rs c ≤ times_in (map f rs) (f c) → (b : Bool) → same_cell (f c) (f r) ≡ b → times_in (r ∷ rs) c ≤ times_in (f r ∷ map f rs) (f c)
    by_test here rest true e = let there = times_cons (f c) (f r) (map f rs) true e in omega (arith, here, there, rest)
    by_test here rest false e = let there = times_cons (f c) (f r) (map f rs) false e in omega (arith, here, there, rest)

module _ (xs : List Cell) where
  abbrev Number : List ℕ → List Cell → Type 0
  Number points rs = map (slice_get xs) points ≡ map Some rs

  number_below : (points : List ℕ) (rs : List Cell) → Number points rs → (p : ℕ) → Contains points p → p < length xs
  number_below [] rs e p i = absurd (no_member p i)
  number_below (q ∷ points) [] e p i = absurd (cons_none (slice_get xs q) (map (slice_get xs) points) e)
  number_below (q ∷ points) (r ∷ rs) e p i = elim (member_cases q points p i) [
    | inl same ↦ subst (λ n. n < length xs) same (slice_get_within xs q r (cons_first (slice_get xs q) (Some r) (map (slice_get xs) points) (map Some rs) e))
    | inr rest ↦ number_below points rs (cons_rest (slice_get xs q) (Some r) (map (slice_get xs) points) (map Some rs) e) p rest
  ]

  pub numbers_long : (points : List ℕ) (rs : List Cell) → Number points rs → length points ≡ length rs
  numbers_long points rs e = sym (length-map points (slice_get xs)) ∙ ap length e ∙ length-map rs Some

  pub numbers_more : (points : List ℕ) (rs : List Cell) (p : ℕ) (r : Cell) → Number points rs → slice_get xs p ≡ Some r → Number (points ++ p ∷ []) (rs ++ r ∷ [])
  numbers_more points rs p r e at =
      map-append (slice_get xs) points (p ∷ [])
      ∙ (λ i. e i ++ at i ∷ [])
      ∙ sym (map-append Some rs (r ∷ []))

  -- a number stands as often as its cell
  times_is : IsRising cell_before xs → (points : List ℕ) (rs : List Cell) → Number points rs → (k : ℕ) (c : Cell) → slice_get xs k ≡ Some c → times_in rs c ≡ count_by (λ p. p == k) points
  times_is rising [] [] e k c at = refl
  times_is rising [] (r ∷ rs) e k c at = absurd (none_cons (Some r) (map Some rs) e)
  times_is rising (q ∷ points) [] e k c at = absurd (cons_none (slice_get xs q) (map (slice_get xs) points) e)
  times_is rising (q ∷ points) (r ∷ rs) e k c at =
      let first : slice_get xs q ≡ Some r = cons_first (slice_get xs q) (Some r) (map (slice_get xs) points) (map Some rs) e in
      let rest : times_in rs c ≡ count_by (λ p. p == k) points = times_is rising points rs (cons_rest (slice_get xs q) (Some r) (map (slice_get xs) points) (map Some rs) e) k c at in
      let same : same_cell c r ≡ (q == k) = same_test first (q == k) refl in
      times_cons c r rs (q == k) same ∙ ap (λ n. cond (q == k) 1 0 + n) rest ∙ sym (count_cons k q points (q == k) refl)
    where
      same_test : slice_get xs q ≡ Some r → (b : Bool) → (q == k) ≡ b → same_cell c r ≡ b
      same_test first true e = same_cell-is c r (some_same c r (sym at ∙ ap (slice_get xs) (sym (same_number q k e)) ∙ first))
      same_test first false e = elim (cases_Bool (same_cell c r)) [
        | inl s ↦ absurd (differ (index_once xs rising q k r first (at ∙ ap Some (same_cell-true c r s))) e)
        | inr f ↦ f
      ]
        where
          differ : q ≡ k → (q == k) ≡ false → ⊥
          differ s f = let t : (q == k) ≡ true = is_number q k s in cc

  -- and a number that is no cell's stands nowhere
  no_times : (points : List ℕ) → ((p : ℕ) → Contains points p → p < length xs) → (k : ℕ) → length xs ≤ k → count_by (λ p. p == k) points ≡ 0
  no_times [] below k more = refl
  no_times (q ∷ points) below k more =
      let less : q < length xs = below q (member_here q points) in
      let first : count_by (λ p. p == k) (q ∷ points) ≡ 0 + count_by (λ p. p == k) points = count_cons k q points false (other_number q k (omega arith)) in
      let rest : count_by (λ p. p == k) points ≡ 0 = no_times points (λ p m. below p (member_there q points p m)) k more in
      omega (arith, first, rest)

  -- by a step from each number
  numbers_moved : (f : Cell → Cell) (step points : List ℕ) (rs : List Cell) → ((k : ℕ) (c : Cell) → slice_get xs k ≡ Some c → slice_get xs (slice_index step k) ≡ Some (f c)) → Number points rs → Number (map (slice_index step) points) (map f rs)
  numbers_moved f step [] [] each e = refl
  numbers_moved f step [] (r ∷ rs) each e = absurd (none_cons (Some r) (map Some rs) e)
  numbers_moved f step (q ∷ points) [] each e = absurd (cons_none (slice_get xs q) (map (slice_get xs) points) e)
  numbers_moved f step (q ∷ points) (r ∷ rs) each e = λ i.
      each q r (cons_first (slice_get xs q) (Some r) (map (slice_get xs) points) (map Some rs) e) i
      ∷ numbers_moved f step points rs each (cons_rest (slice_get xs q) (Some r) (map (slice_get xs) points) (map Some rs) e) i

  -- what the step has for the number of a cell
  step_at : (f : Cell → Cell) (ys : List Cell) (step : List ℕ) → Number step (map f ys) → (k : ℕ) (c : Cell) → slice_get ys k ≡ Some c → slice_get xs (slice_index step k) ≡ Some (f c)
  step_at f [] step e k c at = absurd (nowhere c at)
    where
      nowhere : (c : Cell) → slice_get [] k ≡ Some c → ⊥
      nowhere c at = let l : k < 0 = slice_get_within [] k c at in omega arith
  step_at f (y ∷ ys) [] e k c at = absurd (none_cons (Some (f y)) (map Some (map f ys)) e)
  step_at f (y ∷ ys) (q ∷ step) e zero c at = cons_first (slice_get xs q) (Some (f y)) (map (slice_get xs) step) (map Some (map f ys)) e ∙ ap (λ z. Some (f z)) (some_same y c at)
  step_at f (y ∷ ys) (q ∷ step) e (suc k) c at = step_at f ys step (cons_rest (slice_get xs q) (Some (f y)) (map (slice_get xs) step) (map Some (map f ys)) e) k c at

-- ---- tiles by their points

module _ (g : Geometry) (law : IsGrid g) (shape : List Cell) (t : Triple) (numbers : List ℕ) (m : IsMaskable g shape t numbers) where
  abbrev reduced : List Cell
  reduced = reduced_cells g t

  form : (c : Cell) → Contains shape c → IsCell g c
  form c i = (m.cells c (has-is shape c i)).0

  pub points_few : (by : Iso) (points : List ℕ) → ArePointsOf g shape t by points → All (λ p. p < 64) points
  points_few by points are = let few = m.few in All-from_members (λ p. p < 64) points (λ p i. let less = number_below (reduced_cells g t) points (tile_residues g shape t by) are p i in omega arith)

  pub points_within : (by : Iso) (points step : List ℕ) (da db : ℤ) → ArePointsOf g shape t by points → IsStep g t da db step → All (λ p. p < length step) points
  points_within by points step da db are is =
      let long : length step ≡ length (reduced_cells g t) = numbers_long (reduced_cells g t) step (map (one_further g t da db) (reduced_cells g t)) is ∙ length-map (reduced_cells g t) (one_further g t da db) in
      All-from_members (λ p. p < length step) points (λ p i. let less = number_below (reduced_cells g t) points (tile_residues g shape t by) are p i in omega (arith, long, less))

  pub word_mask : (by : Iso) (points : List ℕ) (word : ℕ) → ArePointsOf g shape t by points → HasBits points word → IsMaskOf g shape t by word
  word_mask by points word are bits = record {
    cells = λ k c at. bits k ∙ sym (times_is (reduced_cells g t) (reduced_listed g t law m.triple).rising points (tile_residues g shape t by) are k c at);
    others = λ k more. bits k ∙ no_times (reduced_cells g t) points (number_below (reduced_cells g t) points (tile_residues g shape t by) are) k more;
  }

  pub twice_double : (by : Iso) (points : List ℕ) → ArePointsOf g shape t by points → HasTwice points → HasDouble g shape t by
  twice_double by points are twice = elim (cases_lt twice.0 (length (reduced_cells g t))) [
    | inl less ↦
        let c = element (reduced_cells g t) twice.0 less in
        let times = times_is (reduced_cells g t) (reduced_listed g t law m.triple).rising points (tile_residues g shape t by) are twice.0 c.0 c.1 in
        let two = twice.1 in
        record {
          cell = c.0;
          reduced = All-contains (IsReduced g t) (reduced_cells g t) c.0 (reduced_listed g t law m.triple).only (member_at (reduced_cells g t) twice.0 c.0 c.1);
          twice = omega (arith, times, two);
        }
    | inr more ↦
        let none = no_times (reduced_cells g t) points (number_below (reduced_cells g t) points (tile_residues g shape t by) are) twice.0 more in
        let two = twice.1 in
        absurd (omega (arith, none, two))
  ]

  -- a step leads to the points of the tile one step further
  pub points_stepped : (by : Iso) (da db : ℤ) → IsIsometry g by → (step points : List ℕ) → IsStep g t da db step → ArePointsOf g shape t by points → ArePointsOf g shape t (further by da db) (map (slice_index step) points)
  points_stepped by da db p step points is are =
      numbers_moved (reduced_cells g t) (one_further g t da db) step points (tile_residues g shape t by) (step_at (reduced_cells g t) (one_further g t da db) (reduced_cells g t) step is) are
      ∙ ap (map Some) (sym (residues_further g law t m.triple by da db p shape form))

  -- p steps to the right lead back
  pub points_round : (by : Iso) → IsIsometry g by → (points : List ℕ) → ArePointsOf g shape t (further by (pos t.p) (pos 0)) points → ArePointsOf g shape t by points
  points_round by p points are = are ∙ ap (map Some) (residues_round g law t m.triple by p shape form)

  -- where the first tile of a turn has a cell twice, each has
  double_further : (by : Iso) (da db : ℤ) → IsIsometry g by → HasDouble g shape t by → HasDouble g shape t (further by da db)
  double_further by da db p double =
      let cell : IsCell g (moved g da db double.cell) = moved_cell g law t m.triple da db double.cell double.reduced.in_grid in
      let most = times_map (one_further g t da db) (tile_residues g shape t by) double.cell in
      let same : times_in (tile_residues g shape t (further by da db)) (one_further g t da db double.cell) ≡ times_in (map (one_further g t da db) (tile_residues g shape t by)) (one_further g t da db double.cell) = ap (λ rs. times_in rs (one_further g t da db double.cell)) (residues_further g law t m.triple by da db p shape form) in
      let two = double.twice in
      record { cell = one_further g t da db double.cell; reduced = is_reduced g law t m.triple (moved g da db double.cell) cell; twice = omega (arith, most, same, two) }

  pub none_added : (turn count : ℕ) (old : List ℕ) → turn < g.turns → HasDouble g shape t (unmoved turn) → AddsMasks g shape t turn count old old
  none_added turn count old p double = record {
    kept = λ m i. i;
    only = λ m i. inl i;
    every = λ j l mask is. absurd (double_unmasked g shape t law m.triple (tried t turn j) mask (subst (HasDouble g shape t) (at j) (double_further (unmoved turn) (pos (j % t.p)) (pos (j / t.p)) p double)) is);
    few = omega arith;
  }
    where
      none_before : (z : ℤ) → pos 0 +ℤ z ≡ z
      none_before z = omega (arith, ints)

      at : (j : ℕ) → further (unmoved turn) (pos (j % t.p)) (pos (j / t.p)) ≡ tried t turn j
      at j = λ i. record { turn = turn; da = none_before (pos (j % t.p)) i; db = none_before (pos (j / t.p)) i }

-- ---- the tiles of a turn, row by row

abbrev pub tile_at : ℕ → ℕ → ℕ → Iso
tile_at turn da db = record { turn = turn; da = pos da; db = pos db }

tried_at : (t : Triple) (turn da db : ℕ) → da < t.p → tried t turn (db * t.p + da) ≡ tile_at turn da db
tried_at t turn da db less = λ i. record { turn = turn; da = pos (mod-mul-add db t.p da less i); db = pos (div-mul-add db t.p da less i) }

module _ (g : Geometry) (law : IsGrid g) (shape : List Cell) (t : Triple) (numbers : List ℕ) (m : IsMaskable g shape t numbers) (turn : ℕ) (below : turn < g.turns) where
  module _ (da db : ℕ) (points : List ℕ) (are : ArePointsOf g shape t (tile_at turn da db) points) where
    -- one step to the right, and one up from the end of a row
    pub tile_right : (step now : List ℕ) → IsStep g t (pos 1) (pos 0) step → now ≡ map (slice_index step) points → ArePointsOf g shape t (tile_at turn (da + 1) db) now
    tile_right step now is e =
        let there : further (tile_at turn da db) (pos 1) (pos 0) ≡ tile_at turn (da + 1) db = λ i. record { turn = turn; da = one_more da i; db = no_more db i } in
        subst (λ (ps : List ℕ). ArePointsOf g shape t (tile_at turn (da + 1) db) ps) (sym e)
        (subst (λ (by : Iso). ArePointsOf g shape t by (map (slice_index step) points)) there (points_stepped g law shape t numbers m (tile_at turn da db) (pos 1) (pos 0) below step points is are))
      where
        one_more : (x : ℕ) → pos x +ℤ pos 1 ≡ pos (x + 1)
        one_more x = omega (arith, ints)

        no_more : (x : ℕ) → pos x +ℤ pos 0 ≡ pos x
        no_more x = omega (arith, ints)

    pub tile_up : da ≡ t.p → (step now : List ℕ) → IsStep g t (pos 0) (pos 1) step → now ≡ map (slice_index step) points → ArePointsOf g shape t (tile_at turn 0 (db + 1)) now
    tile_up last step now is e =
        let there : further (tile_at turn da db) (pos 0) (pos 1) ≡ further (tile_at turn 0 (db + 1)) (pos t.p) (pos 0) = λ i. record { turn = turn; da = across da t.p last i; db = up db i } in
        subst (λ (ps : List ℕ). ArePointsOf g shape t (tile_at turn 0 (db + 1)) ps) (sym e)
        (points_round g law shape t numbers m (tile_at turn 0 (db + 1)) below (map (slice_index step) points)
        (subst (λ (by : Iso). ArePointsOf g shape t by (map (slice_index step) points)) there (points_stepped g law shape t numbers m (tile_at turn da db) (pos 0) (pos 1) below step points is are)))
      where
        across : (x p : ℕ) → x ≡ p → pos x +ℤ pos 0 ≡ pos 0 +ℤ pos p
        across x p e = omega (arith, ints, e)

        up : (x : ℕ) → pos x +ℤ pos 1 ≡ pos (x + 1) +ℤ pos 0
        up x = omega (arith, ints)

    module _ (less : da < t.p) (start old : List ℕ) (h : AddsMasks g shape t turn (db * t.p + da) start old) where
      next : (db * t.p + da) + 1 ≡ db * t.p + (da + 1)
      next = omega arith

      pub tile_added : (word : ℕ) (new : List ℕ) → HasBits points word → new ≡ old ++ word ∷ [] → AddsMasks g shape t turn (db * t.p + (da + 1)) start new
      tile_added word new bits e =
          let is : IsMaskOf g shape t (tried t turn (db * t.p + da)) word = subst (λ (by : Iso). IsMaskOf g shape t by word) (sym (tried_at t turn da db less)) (word_mask g law shape t numbers m (tile_at turn da db) points word are bits) in
          subst (λ n. AddsMasks g shape t turn n start new) next (adds_mask g shape t law m.triple turn (db * t.p + da) start old h word new is e)

      pub tile_left_out : HasTwice points → AddsMasks g shape t turn (db * t.p + (da + 1)) start old
      tile_left_out twice =
          let double : HasDouble g shape t (tried t turn (db * t.p + da)) = subst (HasDouble g shape t) (sym (tried_at t turn da db less)) (twice_double g law shape t numbers m (tile_at turn da db) points are twice) in
          subst (λ n. AddsMasks g shape t turn n start old) next (adds_double g shape t law m.triple turn (db * t.p + da) start old h double)

  pub row_added : (db : ℕ) (start old : List ℕ) (da : ℕ) → da ≡ t.p → AddsMasks g shape t turn (db * t.p + da) start old → AddsMasks g shape t turn ((db + 1) * t.p) start old
  row_added db start old da last h = subst (λ n. AddsMasks g shape t turn n start old) (sum db t.p da last) h
    where
      sum : (db p da : ℕ) → da ≡ p → db * p + da ≡ (db + 1) * p
      sum db p da last = grind arith

-- ---- the table of a step

module _ (g : Geometry) (t : Triple) where
  -- the cells before a pair of the window
  abbrev pub cells_before : ℕ → List Cell
  cells_before k = map (in_window g t) (filter (λ n. g.is_cell (in_window g t n)) (range_with_len 0 k))

  before_more : (k : ℕ) (b : Bool) → g.is_cell (in_window g t k) ≡ b → cells_before (k + 1) ≡ cells_before k ++ cond b (in_window g t k ∷ []) []
  before_more k b e =
      let next : k + 1 ≡ suc k = omega arith in
      let start : 0 + k ≡ k = omega arith in
      ap cells_before next
      ∙ ap (λ ks. map (in_window g t) (filter (λ n. g.is_cell (in_window g t n)) ks)) (range_more 0 k ∙ ap (λ n. range_with_len 0 k ++ n ∷ []) start)
      ∙ ap (map (in_window g t)) (filter-append (λ n. g.is_cell (in_window g t n)) (range_with_len 0 k) (k ∷ []))
      ∙ map-append (in_window g t) (filter (λ n. g.is_cell (in_window g t n)) (range_with_len 0 k)) (cond (g.is_cell (in_window g t k)) (k ∷ []) [])
      ∙ ap (λ cs. cells_before k ++ cs) (ap (λ z. map (in_window g t) (cond z (k ∷ []) [])) e ∙ one b)
    where
      one : (b : Bool) → map (in_window g t) (cond b (k ∷ []) []) ≡ cond b (in_window g t k ∷ []) []
      one true = refl
      one false = refl

  -- the table as far as the k-th pair of the window
  abbrev pub Begun : ℤ → ℤ → ℕ → List ℕ → Type 0
  Begun da db k step = AreNumbersOf g t (map (one_further g t da db) (cells_before k)) step

  pub step_more : (da db : ℤ) (k p : ℕ) (old new : List ℕ) → g.is_cell (in_window g t k) ≡ true → slice_get (reduced_cells g t) p ≡ Some (one_further g t da db (in_window g t k)) → new ≡ old ++ p ∷ [] → Begun da db k old → Begun da db (k + 1) new
  step_more da db k p old new cell at is begun =
      ap (map (slice_get (reduced_cells g t))) is
      ∙ numbers_more (reduced_cells g t) old (map (one_further g t da db) (cells_before k)) p (one_further g t da db (in_window g t k)) begun at
      ∙ ap (map Some) (sym (map-append (one_further g t da db) (cells_before k) (in_window g t k ∷ [])) ∙ ap (map (one_further g t da db)) (sym (before_more k true cell)))

  pub step_same : (da db : ℤ) (k : ℕ) (step : List ℕ) → g.is_cell (in_window g t k) ≡ false → Begun da db k step → Begun da db (k + 1) step
  step_same da db k step none begun = begun ∙ ap (λ cs. map Some (map (one_further g t da db) cs)) (sym (append_none (cells_before k)) ∙ sym (before_more k false none))

  pub step_room : (da db : ℤ) (k : ℕ) (step : List ℕ) → k < window_size g t → g.is_cell (in_window g t k) ≡ true → Begun da db k step → length step < length (reduced_cells g t)
  step_room da db k step less cell begun =
      let long : length step ≡ length (map (one_further g t da db) (cells_before k)) = numbers_long (reduced_cells g t) step (map (one_further g t da db) (cells_before k)) begun in
      let same : length (map (one_further g t da db) (cells_before k)) ≡ cells_until g t k = length-map (cells_before k) (one_further g t da db) ∙ length-map (filter (λ n. g.is_cell (in_window g t n)) (range_with_len 0 k)) (in_window g t) in
      let below : cells_until g t k < length (reduced_cells g t) = slice_get_within (reduced_cells g t) (cells_until g t k) (in_window g t k) (number_gives g t k (window_size g t) less cell) in
      omega (arith, long, same, below)

  -- a translation by turn 0 is a move alone
  pub translation_moves : IsGrid g → (by : Iso) (k : ℕ) (c : Cell) → by.turn ≡ 0 → c ≡ in_window g t k → residue g t (apply g by c) ≡ one_further g t by.da by.db (in_window g t k)
  translation_moves law by k c turn is = ap (residue g t) (ap (λ n. moved g by.da by.db (g.turn n c)) turn ∙ ap (moved g by.da by.db) (law.identity c ∙ is))

-- ---- what an answer holds

pub some_kept : (P Q : ℕ → Type 0) (o : Option ℕ) → ((m : ℕ) → P m → Q m) → IfSome o P → IfSome o Q
some_kept P Q (Some m) f h = f m h
some_kept P Q None f h = h

pub none_kept : (P Q : Type 0) (o : Option ℕ) → (P → Q) → IfNone o P → IfNone o Q
none_kept P Q (Some m) f h = h
none_kept P Q None f h = f h

pub none_holds : (P : Type 0) (o : Option ℕ) → is_some o ≡ false → IfNone o P → P
none_holds P (Some m) e h = absurd (let bad : true ≡ false = e in cc)
none_holds P None e h = h
