-- Which clause of families 1 to 3 a number is that of, and when all of them remain.
use Rattle.std.proofs.Common.{◌≡◌, refl, sym, ap, subst, ◌∙◌, ℕ, zero, suc, ◌+◌, ◌-◌, ◌<◌, ◌≤◌, List, [], ◌∷◌, ◌++◌, map, filter, length, get_or, drop, Bool, true, false, cond, ◌&&◌, arith, Contains, le-leb}
use Rattle.std.specs.Prelude.{nat_le, ◌==◌, flat_map, sum}
use Rattle.std.specs.List.{enumerate_from}
use Rattle.std.proofs.lemmas.List.{get_or_append_left, get_or-append_right, get_or-map, get_or-drop, length-append, length-drop, length-map}
use Rattle.std.proofs.lemmas.List.FromFn.{length-enumerate_from}
use Rattle.std.proofs.lemmas.List.Elements.{All-append, All-contains, Contains-append_left, Contains-append_right}
use Rattle.heesch_cnf.specs.declared.literal.Lit.{Lit}
use Rattle.heesch_cnf.specs.Literals.{Values}
use Rattle.heesch_cnf.specs.Clauses.{left_of}
use Rattle.heesch_grid.specs.declared.Cell.{Cell}
use Rattle.heesch_grid.specs.Cells.{origin}
use Rattle.heesch_grid.specs.Geometry.{Geometry}
use Rattle.heesch_grid.specs.Placement.{touch}
use Rattle.heesch_grid.specs.Clauses.{clause_of, is_numbered, no_variable}
use Rattle.heesch_grid.specs.CoronaFormula.{Variable, IsNumbered, covers, first_clauses, covering_clauses, support_clauses}
use Rattle.heesch_grid.proofs.ListFacts.{All-from_members}
use Rattle.heesch_grid.proofs.WindowFacts.{flat_map_member, member_flat_map}
use Rattle.heesch_grid.proofs.ClauseFacts.{entry_at, entry_made, entry_same}
use Rattle.heesch_cert.specs.Literals.{literals}
use Rattle.heesch_place.specs.Universes.{Levels}
use Rattle.heesch_encode.specs.Families.{covering_at, support_at}
use Rattle.heesch_encode.proofs.Numbered.{no_entry}
use Rattle.heesch_encode.proofs.Pieces.{some_at, entry_read, covering_family, support_family}
use Rattle.heesch_numbers.specs.Common.{common_of, AllRemain, VariableRemains, covering_counts}
use Rattle.heesch_numbers.proofs.Counting.{all_counted}

-- ---- lists

-- what passes from a place on
pub filter_from : {X : Type 0} (p : X → Bool) (xs : List X) (a : ℕ) (d : X) → ((i : ℕ) → i < length xs → i < a → p (get_or xs i d) ≡ false) → ((i : ℕ) → i < length xs → a ≤ i → p (get_or xs i d) ≡ true) → filter p xs ≡ drop a xs
filter_from p [] zero d low high = refl
filter_from p [] (suc a) d low high = refl
filter_from {X = X} p (x ∷ xs) zero d low high =
    ap (λ b. cond b (x ∷ filter p xs) (filter p xs)) (high 0 (omega arith) (omega arith)) ∙ ap (λ ys. x ∷ ys) (filter_from p xs zero d (λ i l m. absurd (omega arith)) (λ i l m. high (suc i) (omega arith) (omega arith)) ∙ whole xs)
  where
    whole : (ys : List X) → drop 0 ys ≡ ys
    whole [] = refl
    whole (y ∷ ys) = refl
filter_from p (x ∷ xs) (suc a) d low high =
    ap (λ b. cond b (x ∷ filter p xs) (filter p xs)) (low 0 (omega arith) (omega arith)) ∙ filter_from p xs a d (λ i l m. low (suc i) (omega arith) (omega arith)) (λ i l m. high (suc i) (omega arith) (omega arith))

-- ---- family 3 by the last variable of level 1

module _ (vars : List Variable) (lowest : ℕ) (low : (n : ℕ) (x : Variable) → IsNumbered vars n x → n ≤ lowest → x.level < 2) (high : (n : ℕ) (x : Variable) → IsNumbered vars n x → lowest < n → 2 ≤ x.level) where
  abbrev entries : List (ℕ × Variable)
  entries = enumerate_from 1 vars

  entry_number : (i : ℕ) → i < length entries → (get_or entries i no_entry ≡ (i + 1, get_or vars (i + 1 - 1) no_entry.1)) × IsNumbered vars (i + 1) (get_or vars (i + 1 - 1) no_entry.1)
  entry_number i l =
      let long = length-enumerate_from 1 vars in
      (entry_read vars i (omega arith), some_at vars (i + 1) (omega arith) (omega arith))

  pub supported_from : filter (λ (x : ℕ × Variable). nat_le 2 x.1.level) entries ≡ drop lowest entries
  supported_from =
      filter_from (λ (x : ℕ × Variable). nat_le 2 x.1.level) entries lowest no_entry
      (λ i l m.
      let e = entry_number i l in
      let less = low (i + 1) (get_or vars (i + 1 - 1) no_entry.1) e.1 (omega arith) in
      ap (λ (x : ℕ × Variable). nat_le 2 x.1.level) e.0 ∙ not_two (get_or vars (i + 1 - 1) no_entry.1).level less)
      (λ i l m.
      let e = entry_number i l in
      let more = high (i + 1) (get_or vars (i + 1 - 1) no_entry.1) e.1 (omega arith) in
      ap (λ (x : ℕ × Variable). nat_le 2 x.1.level) e.0 ∙ le-leb 2 (get_or vars (i + 1 - 1) no_entry.1).level more)
    where
      not_two : (l : ℕ) → l < 2 → nat_le 2 l ≡ false
      not_two zero h = refl
      not_two (suc zero) h = refl
      not_two (suc (suc l)) h = absurd (omega arith)

  module _ (g : Geometry) where
    abbrev pub support_clause : ℕ × Variable → List Lit
    support_clause x = clause_of literals (is_numbered x.0) (λ y. (y.1.level + 1 == x.1.level) && touch g y.1.tile x.1.tile) vars

    supports_are : support_clauses literals g vars ≡ map support_clause (drop lowest entries)
    supports_are = ap (map support_clause) supported_from

    pub support_count : length (support_clauses literals g vars) ≡ length vars - lowest
    support_count =
        let long = length-enumerate_from 1 vars in
        ap length supports_are ∙ length-map (drop lowest entries) support_clause ∙ length-drop lowest entries ∙ ap (λ n. n - lowest) long

    pub support_numbered : (k : ℕ) (x : Variable) → lowest + k < length vars → IsNumbered vars (lowest + k + 1) x → get_or (support_clauses literals g vars) k [] ≡ support_clause (lowest + k + 1, x)
    support_numbered k x l number =
        let long = length-enumerate_from 1 vars in
        let fewer = length-drop lowest entries in
        let e = entry_number (lowest + k) (omega arith) in
        let same : get_or vars (lowest + k + 1 - 1) no_entry.1 ≡ x = entry_same vars (lowest + k + 1, get_or vars (lowest + k + 1 - 1) no_entry.1) (lowest + k + 1, x) (entry_made vars (lowest + k + 1) (get_or vars (lowest + k + 1 - 1) no_entry.1) e.1) (entry_made vars (lowest + k + 1) x number) refl in
        ap (λ cs. get_or cs k []) supports_are ∙ get_or-map support_clause (drop lowest entries) k no_entry [] (omega arith)
        ∙ ap support_clause (get_or-drop lowest entries k no_entry ∙ e.0 ∙ (λ i. (lowest + k + 1, same i)))

-- ---- all families

module _ (g : Geometry) (around : List Cell → List Cell) (u : Levels) where
  abbrev pub first_of_all : List (List Lit)
  first_of_all = first_clauses literals around u.shape u.vars

  abbrev pub covering_of_all : List (List Lit)
  covering_of_all = covering_clauses literals around u.shape u.level u.vars

  abbrev pub support_of_all : List (List Lit)
  support_of_all = support_clauses literals g u.vars

  pub first_count : length first_of_all ≡ length (around u.shape)
  first_count = length-map (around u.shape) (λ c. clause_of literals no_variable (covers 1 c) u.vars)

  pub covering_count : sum (covering_counts around u) ≡ length covering_of_all
  covering_count = all_counted (covering_at around u.shape u.level u.vars) (enumerate_from 1 u.vars) ∙ ap length (covering_family g around u.shape u.level u.vars)

  pub common_count : length (common_of g around u) ≡ length first_of_all + length covering_of_all + length support_of_all
  common_count = length-append (first_of_all ++ covering_of_all) support_of_all ∙ ap (λ n. n + length support_of_all) (length-append first_of_all covering_of_all)

  pub in_first : (i : ℕ) → i < length first_of_all → get_or (common_of g around u) i [] ≡ get_or first_of_all i []
  in_first i l =
      let long = length-append first_of_all covering_of_all in
      get_or_append_left (first_of_all ++ covering_of_all) support_of_all [] i (omega arith) ∙ get_or_append_left first_of_all covering_of_all [] i l

  pub in_covering : (i : ℕ) → length first_of_all ≤ i → i - length first_of_all < length covering_of_all → get_or (common_of g around u) i [] ≡ get_or covering_of_all (i - length first_of_all) []
  in_covering i le l =
      let long = length-append first_of_all covering_of_all in
      get_or_append_left (first_of_all ++ covering_of_all) support_of_all [] i (omega arith) ∙ get_or-append_right first_of_all covering_of_all (length first_of_all) i [] refl le

  pub in_support : (i : ℕ) → length first_of_all + length covering_of_all ≤ i → get_or (common_of g around u) i [] ≡ get_or support_of_all (i - (length first_of_all + length covering_of_all)) []
  in_support i le =
      let long = length-append first_of_all covering_of_all in
      get_or-append_right (first_of_all ++ covering_of_all) support_of_all (length first_of_all + length covering_of_all) i [] long le

  pub first_numbered : (cells : List Cell) (i : ℕ) → cells ≡ around u.shape → i < length cells → get_or first_of_all i [] ≡ clause_of literals no_variable (covers 1 (get_or cells i origin)) u.vars
  first_numbered cells i is l =
      ap (λ cs. get_or (map (λ c. clause_of literals no_variable (covers 1 c) u.vars) cs) i []) (sym is) ∙ get_or-map (λ c. clause_of literals no_variable (covers 1 c) u.vars) cells i origin [] l

  -- ---- all remain

  module _ (values : Values) where
    remain_part : (xs ys : List (List Lit)) → AllRemain values (xs ++ ys) → AllRemain values xs × AllRemain values ys
    remain_part xs ys h = (
      All-from_members (λ clause. ¬ (left_of values clause ≡ [])) xs (λ c m. All-contains (λ clause. ¬ (left_of values clause ≡ [])) (xs ++ ys) c h (Contains-append_left xs ys c m)),
      All-from_members (λ clause. ¬ (left_of values clause ≡ [])) ys (λ c m. All-contains (λ clause. ¬ (left_of values clause ≡ [])) (xs ++ ys) c h (Contains-append_right xs ys c m)),
    )

    each_remains : (f : ℕ × Variable → List (List Lit)) (xs : List (ℕ × Variable)) → ((x : ℕ × Variable) → Contains xs x → AllRemain values (f x)) → AllRemain values (flat_map f xs)
    each_remains f xs h =
        All-from_members (λ clause. ¬ (left_of values clause ≡ [])) (flat_map f xs) (λ c m. let r = flat_map_member f xs c m in All-contains (λ clause. ¬ (left_of values clause ≡ [])) (f r.0) c (h r.0 r.1) r.2)

    remains_each : (f : ℕ × Variable → List (List Lit)) (xs : List (ℕ × Variable)) → AllRemain values (flat_map f xs) → (x : ℕ × Variable) → Contains xs x → AllRemain values (f x)
    remains_each f xs h x m = All-from_members (λ clause. ¬ (left_of values clause ≡ [])) (f x) (λ c k. All-contains (λ clause. ¬ (left_of values clause ≡ [])) (flat_map f xs) c h (member_flat_map f xs x c m k))

    -- all remain where those of family 1 do, and those of each variable
    pub all_remain : AllRemain values first_of_all → ((n : ℕ) (x : Variable) → IsNumbered u.vars n x → VariableRemains values g around u (n, x)) → AllRemain values (common_of g around u)
    all_remain first each =
        let covering : AllRemain values covering_of_all = subst (AllRemain values) (covering_family g around u.shape u.level u.vars) (each_remains (covering_at around u.shape u.level u.vars) (enumerate_from 1 u.vars) (λ x m. (each x.0 x.1 (entry_at u.vars 1 x m)).0)) in
        let support : AllRemain values support_of_all = subst (AllRemain values) (support_family g around u.shape u.level u.vars) (each_remains (support_at g u.vars) (enumerate_from 1 u.vars) (λ x m. (each x.0 x.1 (entry_at u.vars 1 x m)).1)) in
        All-append (λ clause. ¬ (left_of values clause ≡ [])) (first_of_all ++ covering_of_all) support_of_all (All-append (λ clause. ¬ (left_of values clause ≡ [])) first_of_all covering_of_all first covering) support

    pub remain_all : AllRemain values (common_of g around u) → AllRemain values first_of_all × ((n : ℕ) (x : Variable) → IsNumbered u.vars n x → VariableRemains values g around u (n, x))
    remain_all h =
        let two = remain_part (first_of_all ++ covering_of_all) support_of_all h in
        let one = remain_part first_of_all covering_of_all two.0 in (
          one.0,
          λ n x number.
              let m : Contains (enumerate_from 1 u.vars) (n, x) = entry_made u.vars n x number in (
                remains_each (covering_at around u.shape u.level u.vars) (enumerate_from 1 u.vars) (subst (AllRemain values) (sym (covering_family g around u.shape u.level u.vars)) one.1) (n, x) m,
                remains_each (support_at g u.vars) (enumerate_from 1 u.vars) (subst (AllRemain values) (sym (support_family g around u.shape u.level u.vars)) two.1) (n, x) m,
              ),
        )
