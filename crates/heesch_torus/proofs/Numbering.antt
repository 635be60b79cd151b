-- The lists of variables by the numbers of cells, and the clauses of these lists.
use Rattle.std.proofs.Common.{◌≡◌, ◌≢◌, refl, sym, ap, subst, ◌∙◌, ℕ, zero, suc, ◌+◌, ◌*◌, ◌<◌, ◌≤◌, List, [], ◌∷◌, ◌++◌, map, filter, length, take, get_or, Bool, true, false, cond, ◌||◌, inl, inr, arith, All, Contains, true≢false, ltb-true}
use Rattle.std.specs.Prelude.{IsTrue, Some, None, nat_lt, slice_index_or, slice_set, filter_map}
use Rattle.std.specs.List.{enumerate_from, range_with_len, AllAdjacentBelow, cons_option}
use Rattle.std.proofs.lemmas.Bool.{cases_Bool, cases_order}
use Rattle.std.proofs.lemmas.List.{append_assoc, map-append, length-set, length-append, get_or-set_same, get_or-set_other, map_more, length-map, length-take-le, get_or-map, get_or_default}
use Rattle.std.proofs.lemmas.List.Elements.{All-map, filter-append}
use Rattle.heesch_cnf.specs.declared.literal.Lit.{Lit}
use Rattle.heesch_cnf.specs.Clauses.{IsClause}
use Rattle.heesch_grid.specs.declared.Cell.{Cell}
use Rattle.heesch_grid.specs.Listing.{IsRising, ListsExactly}
use Rattle.heesch_grid.specs.Cells.{same_cell, cell_before, has}
use Rattle.heesch_grid.specs.Clauses.{clause_of, no_variable}
use Rattle.heesch_grid.specs.Geometry.{Geometry, IsGrid}
use Rattle.heesch_grid.specs.Lattice.{Triple, IsTriple, IsReduced}
use Rattle.heesch_grid.specs.Pairs.{same_cell-true, same_cell-is}
use Rattle.heesch_grid.proofs.ListFacts.{member_cases, member_here, member_there, no_member, All-from_members, rising_filter, filter_member, member_filter}
use Rattle.heesch_grid.proofs.CellFacts.{cell_before-irreflexive}
use Rattle.heesch_grid.proofs.ClauseFacts.{entries_rising}
use Rattle.heesch_grid.proofs.SortFacts.{before-total}
use Rattle.heesch_grid.proofs.WindowFacts.{map_member, member_map, member_range}
use Rattle.heesch_shape.proofs.Loops.{has_more}
use Rattle.heesch_tiling.specs.Counting.{window_size, in_window}
use Rattle.heesch_tiling.proofs.Steps.{append_none}
use Rattle.heesch_tiling.proofs.Spots.{one_number, wide_some, window_reduced, reduced_number, spots_in_order}
use Rattle.heesch_cert.specs.Literals.{literals}
use Rattle.heesch_torus.specs.Variables.{TorusVariable, sets_of}
use Rattle.heesch_torus.specs.Covering.{having, AreCovering, AddsNumber, AreNumbers, lists_before, cell_lists}
use Rattle.heesch_torus.specs.Formula.{AddsClauses, reduced_cells}

abbrev Entry : Type 0
Entry = ℕ × List Cell

-- ---- numbered lists, one more at a time

pub enumerate_more : {X : Type 0} (n : ℕ) (xs : List X) (y : X) → enumerate_from n (xs ++ y ∷ []) ≡ enumerate_from n xs ++ (n + length xs, y) ∷ []
enumerate_more n [] y = let e : n ≡ n + 0 = omega arith in ap (λ k. (k, y) ∷ []) e
enumerate_more n (x ∷ xs) y = let e : (n + 1) + length xs ≡ n + suc (length xs) = omega arith in ap (λ zs. (n, x) ∷ zs) (enumerate_more (n + 1) xs y ∙ ap (λ k. enumerate_from (n + 1) xs ++ (k, y) ∷ []) e)

pub range_more : (a n : ℕ) → range_with_len a (suc n) ≡ range_with_len a n ++ (a + n) ∷ []
range_more a zero = let e : a ≡ a + 0 = omega arith in ap (λ k. k ∷ []) e
range_more a (suc n) = let e : (a + 1) + n ≡ a + suc n = omega arith in ap (λ zs. a ∷ zs) (range_more (a + 1) n ∙ ap (λ k. range_with_len (a + 1) n ++ k ∷ []) e)

numbers_kept : (b : Bool) (n : ℕ) (s : List Cell) → map (λ (x : Entry). x.0) (cond b ((n, s) ∷ []) []) ≡ cond b (n ∷ []) []
numbers_kept true n s = refl
numbers_kept false n s = refl

pub having_more : (c : Cell) (sets : List (List Cell)) (s : List Cell) → having c (sets ++ s ∷ []) ≡ having c sets ++ cond (has s c) ((1 + length sets) ∷ []) []
having_more c sets s =
    let test : Entry → Bool = λ (x : Entry). has x.1 c in
    ap (λ es. map (λ (x : Entry). x.0) (filter test es)) (enumerate_more 1 sets s)
    ∙ ap (map (λ (x : Entry). x.0)) (filter-append test (enumerate_from 1 sets) ((1 + length sets, s) ∷ []))
    ∙ map-append (λ (x : Entry). x.0) (filter test (enumerate_from 1 sets)) (cond (has s c) ((1 + length sets, s) ∷ []) [])
    ∙ ap (λ ns. having c sets ++ ns) (numbers_kept (has s c) (1 + length sets) s)

-- ---- one variable more

-- a cell of a rising list isn't among those before it
pub rising_new : (xs : List Cell) (i : ℕ) (d : Cell) → IsRising cell_before xs → i < length xs → has (take i xs) (get_or xs i d) ≡ false
rising_new [] i d r l = absurd (omega arith)
rising_new (x ∷ xs) zero d r l = refl
rising_new (x ∷ xs) (suc i) d r l =
    let before : cell_before x (get_or xs i d) ≡ true = r.0 i d (omega arith) in
    let first : same_cell (get_or xs i d) x ≡ false = elim (cases_Bool (same_cell (get_or xs i d) x)) [
      | inl e ↦ absurd (true≢false (sym before ∙ ap (cell_before x) (same_cell-true (get_or xs i d) x e) ∙ cell_before-irreflexive x))
      | inr f ↦ f
    ] in
    ap (λ b. b || has (take i xs) (get_or xs i d)) first ∙ rising_new xs i d r.1 (omega arith)

or-none : (b : Bool) → (b || false) ≡ b
or-none true = refl
or-none false = refl

module _ (g : Geometry) (t : Triple) where
  module _ (law : IsGrid g) (triple : IsTriple t) where
    pub adds_cell : (cells : List Cell) (i : ℕ) (d : Cell) (v n : ℕ) (old now : List (List ℕ)) → IsRising cell_before cells → i < length cells → n < length now → in_window g t n ≡ get_or cells i d → AddsNumber g t (take i cells) v old now → AddsNumber g t (take (i + 1) cells) v old (slice_set now n (slice_index_or now n [] ++ v ∷ []))
    adds_cell cells i d v n old now rising less below is a = record {
      same = length-set now n (slice_index_or now n [] ++ v ∷ []) ∙ a.same;
      each = λ k l. elim (cases_order k n) [
        | inl e ↦ at_cell k l e
        | inr o ↦ elsewhere k l (λ e. elim o [ inl m ↦ omega (arith, m, e) | inr m ↦ omega (arith, m, e) ])
      ];
    }
      where
        at_cell : (k : ℕ) → k < length old → k ≡ n → slice_index_or (slice_set now n (slice_index_or now n [] ++ v ∷ [])) k [] ≡ slice_index_or old k [] ++ cond (has (take (i + 1) cells) (in_window g t k)) (v ∷ []) []
        at_cell k l e =
            let c : Cell = get_or cells i d in
            let here : in_window g t k ≡ get_or cells i d = ap (in_window g t) e ∙ is in
            let was : has (take i cells) (in_window g t k) ≡ false = ap (has (take i cells)) here ∙ rising_new cells i d rising less in
            let now_has : has (take (i + 1) cells) (in_window g t k) ≡ true =
            has_more cells i d (in_window g t k) less ∙ (λ j. was j || same_cell-is (in_window g t k) (get_or cells i d) here j) in
            let before : slice_index_or now k [] ≡ slice_index_or old k [] = a.each k l ∙ ap (λ b. slice_index_or old k [] ++ cond b (v ∷ []) []) was ∙ append_none (slice_index_or old k []) in
            ap (λ m. slice_index_or (slice_set now n (slice_index_or now n [] ++ v ∷ [])) m []) e
            ∙ get_or-set_same now n (slice_index_or now n [] ++ v ∷ []) [] below
            ∙ ap (λ m. slice_index_or now m [] ++ v ∷ []) (sym e)
            ∙ ap (λ xs. xs ++ v ∷ []) before
            ∙ sym (ap (λ b. slice_index_or old k [] ++ cond b (v ∷ []) []) now_has)

        elsewhere : (k : ℕ) → k < length old → k ≢ n → slice_index_or (slice_set now n (slice_index_or now n [] ++ v ∷ [])) k [] ≡ slice_index_or old k [] ++ cond (has (take (i + 1) cells) (in_window g t k)) (v ∷ []) []
        elsewhere k l apart =
            let other : same_cell (in_window g t k) (get_or cells i d) ≡ false = elim (cases_Bool (same_cell (in_window g t k) (get_or cells i d))) [
              | inl e ↦ absurd (apart (one_number (g.unit * t.p) k n (wide_some g law t triple) (same_cell-true (in_window g t k) (get_or cells i d) e ∙ sym is)))
              | inr f ↦ f
            ] in
            let same : has (take (i + 1) cells) (in_window g t k) ≡ has (take i cells) (in_window g t k) =
            has_more cells i d (in_window g t k) less ∙ ap (λ b. has (take i cells) (in_window g t k) || b) other ∙ or-none (has (take i cells) (in_window g t k)) in
            get_or-set_other now n k (slice_index_or now n [] ++ v ∷ []) [] apart
            ∙ a.each k l ∙ sym (ap (λ b. slice_index_or old k [] ++ cond b (v ∷ []) []) same)

  pub then_covering : (sets : List (List Cell)) (s : List Cell) (v : ℕ) (old new : List (List ℕ)) → v ≡ 1 + length sets → AreCovering g t sets old → AddsNumber g t s v old new → AreCovering g t (sets ++ s ∷ []) new
  then_covering sets s v old new number c a = record {
    all = a.same ∙ c.all;
    each = λ k l.
        a.each k (subst (λ n. k < n) (sym c.all) l)
        ∙ (λ j. c.each k l j ++ cond (has s (in_window g t k)) (number j ∷ []) [])
        ∙ sym (having_more (in_window g t k) sets s);
  }

-- the set of a place
pub set_at : (vars : List TorusVariable) (i : ℕ) (x : TorusVariable) → i < length vars → x ≡ get_or vars i x → get_or (sets_of vars) i [] ≡ x.cells
set_at vars i x less is = get_or-map (λ (x : TorusVariable). x.cells) vars i x [] less ∙ ap (λ (x : TorusVariable). x.cells) (sym is)

pub sets_before : (vars : List TorusVariable) (i : ℕ) → i < length vars → i < length (sets_of vars)
sets_before vars i less = let e = length-map vars (λ (x : TorusVariable). x.cells) in omega arith

-- the sets of one place more, and their number
pub sets_more : (vars : List TorusVariable) (i : ℕ) (x : TorusVariable) → i < length vars → x ≡ get_or vars i x → (sets_of (take (i + 1) vars) ≡ sets_of (take i vars) ++ x.cells ∷ []) × (i + 1 ≡ 1 + length (sets_of (take i vars)))
sets_more vars i x less is = (
  map_more (λ (x : TorusVariable). x.cells) vars i x less ∙ ap (λ (y : TorusVariable). sets_of (take i vars) ++ y.cells ∷ []) (sym is),
  (let e = length-map (take i vars) (λ (x : TorusVariable). x.cells) in let f = length-take-le i vars (omega arith) in omega arith),
)

-- ---- lists of numbers

pub numbers_between : (n : ℕ) (sets : List (List Cell)) (x : Entry) → Contains (enumerate_from n sets) x → (n ≤ x.0) × (x.0 < n + length sets)
numbers_between n [] x m = absurd (no_member x m)
numbers_between n (s ∷ sets) x m =
    elim (member_cases (n, s) (enumerate_from (n + 1) sets) x m) [
      | inl e ↦ let same : n ≡ x.0 = ap (λ (y : Entry). y.0) e in (omega arith, omega arith)
      | inr h ↦ let r = numbers_between (n + 1) sets x h in let low = r.0 in let high = r.1 in (omega arith, omega arith)
    ]

pub rising_map : {X Y : Type 0} (f : X → Y) (before : Y → Y → Bool) (xs : List X) → IsRising (λ x y. before (f x) (f y)) xs → IsRising before (map f xs)
rising_map f before [] r = tt
rising_map f before (x ∷ xs) r = (All-map (λ y. IsTrue (before (f x) y)) f xs r.0, rising_map f before xs r.1)

pub having_numbers : (c : Cell) (sets : List (List Cell)) → AreNumbers (length sets) (having c sets)
having_numbers c sets =
    let test : Entry → Bool = λ (x : Entry). has x.1 c in
    record {
      in_range = All-from_members (λ v. (1 ≤ v) × (v ≤ length sets)) (having c sets) (λ v m.
          let x = map_member (λ (x : Entry). x.0) (filter test (enumerate_from 1 sets)) v m in
          let r = numbers_between 1 sets x.0 (filter_member test (enumerate_from 1 sets) x.0 x.1).0 in
          let low = r.0 in let high = r.1 in let is = x.2 in
          (omega arith, omega arith));
      rising = rising_map (λ (x : Entry). x.0) nat_lt (filter test (enumerate_from 1 sets)) (rising_filter (λ (x y : Entry). nat_lt x.0 y.0) test (enumerate_from 1 sets) (entries_rising sets 1));
    }

pub covering_numbers : (g : Geometry) (t : Triple) (sets : List (List Cell)) (lists : List (List ℕ)) → AreCovering g t sets lists → All (AreNumbers (length sets)) lists
covering_numbers g t sets lists c = λ k d l.
    subst (AreNumbers (length sets)) (sym (get_or_default lists k d [] l ∙ c.each k (subst (λ n. k < n) c.all l))) (having_numbers (in_window g t k) sets)

-- ---- clauses of lists

adjacent : (ns : List ℕ) → IsRising nat_lt ns → AllAdjacentBelow (λ (l m : Lit). l.var < m.var) (map literals.plus ns) (length (map literals.plus ns))
adjacent [] r k d l = absurd (omega arith)
adjacent (n ∷ []) r k d l = absurd (omega arith)
adjacent (n ∷ m ∷ ns) r zero d l = ltb-true n m (r.0 0 n (omega arith))
adjacent (n ∷ m ∷ ns) r (suc k) d l =
    let next : suc k + 1 ≡ suc (k + 1) = omega arith in
    subst (λ j. (get_or (map literals.plus (m ∷ ns)) k d).var < (get_or (map literals.plus (n ∷ m ∷ ns)) j d).var) (sym next) (adjacent (m ∷ ns) r.1 k d (omega arith))

pub numbers_clause : (vars : ℕ) (ns : List ℕ) → AreNumbers vars ns → IsClause vars (map literals.plus ns)
numbers_clause vars ns a = record { in_range = All-map (λ (l : Lit). (1 ≤ l.var) × (l.var ≤ vars)) literals.plus ns a.in_range; rising = adjacent ns a.rising }

kept_clause : (test : Entry → Bool) (es : List Entry) → map literals.plus (map (λ (x : Entry). x.0) (filter test es)) ≡ filter_map (λ x. cond (no_variable x) (Some (literals.minus x.0)) (cond (test x) (Some (literals.plus x.0)) None)) es
kept_clause test [] = refl
kept_clause test (e ∷ es) = one (test e) (kept_clause test es)
  where
    one : (b : Bool) → map literals.plus (map (λ (x : Entry). x.0) (filter test es)) ≡ filter_map (λ x. cond (no_variable x) (Some (literals.minus x.0)) (cond (test x) (Some (literals.plus x.0)) None)) es → map literals.plus (map (λ (x : Entry). x.0) (cond b (e ∷ filter test es) (filter test es))) ≡ cons_option (cond b (Some (literals.plus e.0)) None) (filter_map (λ x. cond (no_variable x) (Some (literals.minus x.0)) (cond (test x) (Some (literals.plus x.0)) None)) es)
    one true h = ap (λ ls. literals.plus e.0 ∷ ls) h
    one false h = h

pub having_clause : (c : Cell) (sets : List (List Cell)) → map literals.plus (having c sets) ≡ clause_of literals no_variable (λ (x : Entry). has x.1 c) sets
having_clause c sets = kept_clause (λ (x : Entry). has x.1 c) (enumerate_from 1 sets)

-- what agrees on the members of a list
pub map_agree : {X Y : Type 0} (f h : X → Y) (xs : List X) → ((x : X) → Contains xs x → f x ≡ h x) → map f xs ≡ map h xs
map_agree f h [] e = refl
map_agree f h (x ∷ xs) e = λ i. e x (member_here x xs) i ∷ map_agree f h xs (λ y m. e y (member_there x xs y m)) i

pub map_twice : {X Y Z : Type 0} (f : X → Y) (h : Y → Z) (xs : List X) → map h (map f xs) ≡ map (λ x. h (f x)) xs
map_twice f h [] = refl
map_twice f h (x ∷ xs) = ap (λ zs. h (f x) ∷ zs) (map_twice f h xs)

pub in_range_below : (a n k : ℕ) → Contains (range_with_len a n) k → (a ≤ k) × (k < a + n)
in_range_below a zero k m = absurd (no_member k m)
in_range_below a (suc n) k m =
    elim (member_cases a (range_with_len (a + 1) n) k m) [
      | inl e ↦ (omega arith, omega arith)
      | inr h ↦ let r = in_range_below (a + 1) n k h in let low = r.0 in let high = r.1 in (omega arith, omega arith)
    ]

pub below_count : (n k : ℕ) → Contains (range_with_len 0 n) k → k < n
below_count n k m = let high = (in_range_below 0 n k m).1 in omega arith

module _ (g : Geometry) (t : Triple) where
  abbrev is_cell_at : ℕ → Bool
  is_cell_at k = g.is_cell (in_window g t k)

  -- the list of one cell more, and of one pair that is none
  pub list_more : (lists : List (List ℕ)) (k : ℕ) → is_cell_at k ≡ true → lists_before g t lists (k + 1) ≡ lists_before g t lists k ++ slice_index_or lists k [] ∷ []
  list_more lists k h =
      let next : k + 1 ≡ suc k = omega arith in
      let now : 0 + k ≡ k = omega arith in
      ap (lists_before g t lists) next
      ∙ ap (λ ks. map (λ k. slice_index_or lists k []) (filter is_cell_at ks)) (range_more 0 k ∙ ap (λ n. range_with_len 0 k ++ n ∷ []) now)
      ∙ ap (map (λ k. slice_index_or lists k [])) (filter-append is_cell_at (range_with_len 0 k) (k ∷ []) ∙ ap (λ b. filter is_cell_at (range_with_len 0 k) ++ cond b (k ∷ []) []) h)
      ∙ map-append (λ k. slice_index_or lists k []) (filter is_cell_at (range_with_len 0 k)) (k ∷ [])

  pub list_none : (lists : List (List ℕ)) (k : ℕ) → is_cell_at k ≡ false → lists_before g t lists (k + 1) ≡ lists_before g t lists k
  list_none lists k h =
      let next : k + 1 ≡ suc k = omega arith in
      let now : 0 + k ≡ k = omega arith in
      ap (lists_before g t lists) next
      ∙ ap (λ ks. map (λ k. slice_index_or lists k []) (filter is_cell_at ks)) (range_more 0 k ∙ ap (λ n. range_with_len 0 k ++ n ∷ []) now)
      ∙ ap (map (λ k. slice_index_or lists k [])) (filter-append is_cell_at (range_with_len 0 k) (k ∷ []) ∙ ap (λ b. filter is_cell_at (range_with_len 0 k) ++ cond b (k ∷ []) []) h ∙ append_none (filter is_cell_at (range_with_len 0 k)))

  -- the clauses of the lists are those of the reduced cells
  pub list_clauses : (sets : List (List Cell)) (lists : List (List ℕ)) → AreCovering g t sets lists → map (map literals.plus) (cell_lists g t lists) ≡ map (λ c. clause_of literals no_variable (λ (x : Entry). has x.1 c) sets) (reduced_cells g t)
  list_clauses sets lists c =
      let ks = filter is_cell_at (range_with_len 0 (window_size g t)) in
      ap (λ n. map (map literals.plus) (lists_before g t lists n)) c.all
      ∙ map_twice (λ k. slice_index_or lists k []) (map literals.plus) ks
      ∙ map_agree (λ k. map literals.plus (slice_index_or lists k [])) (λ k. clause_of literals no_variable (λ (x : Entry). has x.1 (in_window g t k)) sets) ks
      (λ k m. ap (map literals.plus) (c.each k (below_count (window_size g t) k (filter_member is_cell_at (range_with_len 0 (window_size g t)) k m).0)) ∙ having_clause (in_window g t k) sets)
      ∙ sym (map_twice (in_window g t) (λ c. clause_of literals no_variable (λ (x : Entry). has x.1 c) sets) ks)

  -- the reduced cells, in cell order
  module _ (law : IsGrid g) (triple : IsTriple t) where
    spots_rise : (j k : ℕ) → j < k → cell_before (in_window g t j) (in_window g t k) ≡ true
    spots_rise j k less =
        let some = wide_some g law t triple in
        let after : cell_before (in_window g t k) (in_window g t j) ≡ false = elim (cases_Bool (cell_before (in_window g t k) (in_window g t j))) [
          | inl e ↦ let more = spots_in_order (g.unit * t.p) k j some e in absurd (omega arith)
          | inr f ↦ f
        ] in
        let apart : same_cell (in_window g t k) (in_window g t j) ≡ false = elim (cases_Bool (same_cell (in_window g t k) (in_window g t j))) [
          | inl e ↦ let same = one_number (g.unit * t.p) k j some (same_cell-true (in_window g t k) (in_window g t j) e) in absurd (omega arith)
          | inr f ↦ f
        ] in
        before-total (in_window g t k) (in_window g t j) after apart

    window_rises : (a n : ℕ) → IsRising cell_before (map (in_window g t) (filter is_cell_at (range_with_len a n)))
    window_rises a n = rising_map (in_window g t) cell_before (filter is_cell_at (range_with_len a n)) (rising_filter (λ j k. cell_before (in_window g t j) (in_window g t k)) is_cell_at (range_with_len a n) (rises a n))
      where
        rises : (a n : ℕ) → IsRising (λ j k. cell_before (in_window g t j) (in_window g t k)) (range_with_len a n)
        rises a zero = tt
        rises a (suc n) = (All-from_members (λ k. IsTrue (cell_before (in_window g t a) (in_window g t k))) (range_with_len (a + 1) n) (λ k m. spots_rise a k (let low = (in_range_below (a + 1) n k m).0 in omega arith)), rises (a + 1) n)

    pub reduced_listed : ListsExactly cell_before (IsReduced g t) (reduced_cells g t)
    reduced_listed =
        let size = window_size g t in
        record {
          rising = window_rises 0 (window_size g t);
          only = All-from_members (IsReduced g t) (reduced_cells g t) (λ c m.
              let k = map_member (in_window g t) (filter is_cell_at (range_with_len 0 (window_size g t))) c m in
              let f = filter_member is_cell_at (range_with_len 0 (window_size g t)) k.0 k.1 in
              subst (IsReduced g t) k.2 (window_reduced g law t triple k.0 (below_count (window_size g t) k.0 f.0) f.1));
          every = λ c red.
              let n = reduced_number g law t triple c red in
              let k : ℕ = n.row * (g.unit * t.p) + n.column in
              let in_grid : is_cell_at k ≡ true = ap g.is_cell (sym n.is) ∙ red.in_grid in
              subst (λ z. Contains (reduced_cells g t) z) (sym n.is) (member_map (in_window g t) (filter is_cell_at (range_with_len 0 (window_size g t))) k (member_filter is_cell_at (range_with_len 0 (window_size g t)) k (subst (λ j. Contains (range_with_len 0 (window_size g t)) j) (zero_plus k) (member_range (window_size g t) 0 k n.below)) in_grid));
        }
      where
        zero_plus : (k : ℕ) → 0 + k ≡ k
        zero_plus k = omega arith

-- clauses added one after another
pub adds_then : (xs ys : List (List Lit)) (vars : ℕ) (old : List (List Lit)) (vars' : ℕ) (mid : List (List Lit)) (vars'' : ℕ) (new : List (List Lit)) → AddsClauses xs vars old vars' mid → AddsClauses ys vars' mid vars'' new → AddsClauses (xs ++ ys) vars old vars'' new
adds_then xs ys vars old vars' mid vars'' new a b = record { same = b.same ∙ a.same; clauses = b.clauses ∙ ap (λ zs. zs ++ ys) a.clauses ∙ append_assoc old xs ys }

-- one list more gives its clause
pub adds_list : (g : Geometry) (t : Triple) (lists : List (List ℕ)) (k : ℕ) (list : List ℕ) (vars : ℕ) (old : List (List Lit)) (vars' : ℕ) (mid : List (List Lit)) (vars'' : ℕ) (new : List (List Lit)) → g.is_cell (in_window g t k) ≡ true → k < length lists → list ≡ get_or lists k list → AddsClauses (map (map literals.plus) (lists_before g t lists k)) vars old vars' mid → AddsClauses (map literals.plus list ∷ []) vars' mid vars'' new → AddsClauses (map (map literals.plus) (lists_before g t lists (k + 1))) vars old vars'' new
adds_list g t lists k list vars old vars' mid vars'' new h less is a b =
    let same : list ≡ slice_index_or lists k [] = is ∙ get_or_default lists k list [] less in
    let more : map (map literals.plus) (lists_before g t lists (k + 1)) ≡ map (map literals.plus) (lists_before g t lists k) ++ map literals.plus list ∷ [] =
    ap (map (map literals.plus)) (list_more g t lists k h ∙ ap (λ l. lists_before g t lists k ++ l ∷ []) (sym same)) ∙ map-append (map literals.plus) (lists_before g t lists k) (list ∷ []) in
    subst (λ cs. AddsClauses cs vars old vars'' new) (sym more) (adds_then (map (map literals.plus) (lists_before g t lists k)) (map literals.plus list ∷ []) vars old vars' mid vars'' new a b)

pub adds_no_list : (g : Geometry) (t : Triple) (lists : List (List ℕ)) (k : ℕ) (vars : ℕ) (old : List (List Lit)) (vars' : ℕ) (new : List (List Lit)) → g.is_cell (in_window g t k) ≡ false → AddsClauses (map (map literals.plus) (lists_before g t lists k)) vars old vars' new → AddsClauses (map (map literals.plus) (lists_before g t lists (k + 1))) vars old vars' new
adds_no_list g t lists k vars old vars' new h a = subst (λ ls. AddsClauses (map (map literals.plus) ls) vars old vars' new) (sym (list_none g t lists k h)) a

pub one_longer : (mid : List (List Lit)) (clause : List Lit) (new : List (List Lit)) (n k : ℕ) → new ≡ mid ++ clause ∷ [] → length mid ≤ n + k → length new ≤ n + (k + 1)
one_longer mid clause new n k e few = let long = ap length e ∙ length-append mid (clause ∷ []) in omega (arith, long, few)
