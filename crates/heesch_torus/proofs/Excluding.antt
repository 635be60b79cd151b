-- The clauses of pairs of variables that share a cell.
use Rattle.std.proofs.Common.{◌≡◌, ◌≢◌, refl, sym, ap, subst, ◌∙◌, ℕ, zero, suc, ◌+◌, ◌-◌, ◌<◌, ◌≤◌, List, [], ◌∷◌, ◌++◌, map, filter, flat_map, length, take, get_or, Bool, true, false, cond, ◌||◌, ◌&&◌, ◌==◌, inl, inr, arith, All, Contains, true≢false, lt-ltb, ltb-true, eq-eqb, eqb-true}
use Rattle.std.specs.Prelude.{Some, None, unwrap_or, nat_lt, slice_index, slice_index_or, filter_map}
use Rattle.std.specs.List.{list_any, slice_get, enumerate_from, range_with_len, cons_option}
use Rattle.std.proofs.lemmas.Bool.{and_parts, cases_Bool, cases_order}
use Rattle.std.proofs.lemmas.List.{append-nil, map-append, take_more, take_all, get_or_default}
use Rattle.std.proofs.lemmas.List.FromFn.{length-enumerate_from, get_or-enumerate_from}
use Rattle.std.proofs.lemmas.List.Elements.{filter-append}
use Rattle.std.proofs.lemmas.List.Folds.{list_any_more}
use Rattle.std.proofs.lemmas.Grind.{flat_map-append}
use Rattle.heesch_cnf.specs.declared.literal.Lit.{Lit}
use Rattle.heesch_grid.specs.declared.Cell.{Cell}
use Rattle.heesch_grid.specs.Cells.{has, meet, set_of}
use Rattle.heesch_grid.specs.Clauses.{clause_of, no_variable, is_numbered}
use Rattle.heesch_grid.specs.CoronaFormula.{exclusion_clauses}
use Rattle.heesch_grid.specs.Geometry.{Geometry}
use Rattle.heesch_grid.specs.Lattice.{Triple}
use Rattle.heesch_grid.proofs.ListFacts.{member_here, member_there, filter_member}
use Rattle.heesch_grid.proofs.ClauseFacts.{entry_at}
use Rattle.heesch_tiling.specs.Counting.{window_size, in_window}
use Rattle.heesch_cert.specs.Literals.{literals}
use Rattle.heesch_torus.specs.Covering.{having, AreCovering, AreNumbers}
use Rattle.heesch_torus.specs.Formula.{AddsClauses, pair_clause, marked_among, marked_clauses}
use Rattle.heesch_torus.specs.Marks.{Marks}
use Rattle.heesch_torus.proofs.Numbering.{range_more, in_range_below, map_agree, map_twice, numbers_between, covering_numbers, one_longer, adds_then}

abbrev Entry : Type 0
Entry = ℕ × List Cell

-- ---- marks

twice : (p q : Bool) (number old : ℕ) → cond q number (cond p number old) ≡ cond (p || q) number old
twice true true number old = refl
twice true false number old = refl
twice false true number old = refl
twice false false number old = refl

-- the variables of one cell more
module _ (sets : List (List Cell)) where
  abbrev numbers_from : ℕ → List (List Cell) → Cell → List ℕ
  numbers_from n sets c = map (λ (x : Entry). x.0) (filter (λ (x : Entry). has x.1 c) (enumerate_from n sets))

  none_there : (n v : ℕ) (sets : List (List Cell)) (c : Cell) → v < n → list_any (λ w. w == v) (numbers_from n sets c) ≡ false
  none_there n v [] c l = refl
  none_there n v (s ∷ sets) c l = later (has s c) (none_there (n + 1) v sets c (omega arith))
    where
      later : (b : Bool) → list_any (λ w. w == v) (numbers_from (n + 1) sets c) ≡ false → list_any (λ w. w == v) (map (λ (x : Entry). x.0) (cond b ((n, s) ∷ filter (λ (x : Entry). has x.1 c) (enumerate_from (n + 1) sets)) (filter (λ (x : Entry). has x.1 c) (enumerate_from (n + 1) sets)))) ≡ false
      later true h = elim (cases_Bool (n == v)) [ inl t ↦ let same = eqb-true n v t in absurd (omega arith) | inr f ↦ ap (λ b. b || list_any (λ w. w == v) (numbers_from (n + 1) sets c)) f ∙ h ]
      later false h = h

  listed_from : (n v : ℕ) (sets : List (List Cell)) (c : Cell) → n ≤ v → v < n + length sets → list_any (λ w. w == v) (numbers_from n sets c) ≡ has (slice_index_or sets (v - n) []) c
  listed_from n v [] c low high = absurd (omega arith)
  listed_from n v (s ∷ sets) c low high =
      elim (cases_order n v) [
        | inl e ↦ here (has s c) refl e
        | inr o ↦ elim o [ inl less ↦ there (has s c) (listed_from (n + 1) v sets c (omega arith) (omega arith)) less | inr more ↦ absurd (omega arith) ]
      ]
    where
      here : (b : Bool) → has s c ≡ b → n ≡ v → list_any (λ w. w == v) (map (λ (x : Entry). x.0) (cond b ((n, s) ∷ filter (λ (x : Entry). has x.1 c) (enumerate_from (n + 1) sets)) (filter (λ (x : Entry). has x.1 c) (enumerate_from (n + 1) sets)))) ≡ has (slice_index_or (s ∷ sets) (v - n) []) c
      here true t e =
          let none : v - n ≡ 0 = omega arith in
          ap (λ b. b || list_any (λ w. w == v) (numbers_from (n + 1) sets c)) (eq-eqb n v e) ∙ sym (ap (λ k. has (slice_index_or (s ∷ sets) k []) c) none ∙ t)
      here false t e =
          let none : v - n ≡ 0 = omega arith in
          none_there (n + 1) v sets c (omega arith) ∙ sym (ap (λ k. has (slice_index_or (s ∷ sets) k []) c) none ∙ t)

      there : (b : Bool) → list_any (λ w. w == v) (numbers_from (n + 1) sets c) ≡ has (slice_index_or sets (v - (n + 1)) []) c → n < v → list_any (λ w. w == v) (map (λ (x : Entry). x.0) (cond b ((n, s) ∷ filter (λ (x : Entry). has x.1 c) (enumerate_from (n + 1) sets)) (filter (λ (x : Entry). has x.1 c) (enumerate_from (n + 1) sets)))) ≡ has (slice_index_or (s ∷ sets) (v - n) []) c
      there true h l =
          let apart : (n == v) ≡ false = elim (cases_Bool (n == v)) [ inl t ↦ let same = eqb-true n v t in absurd (omega arith) | inr f ↦ f ] in
          let next : suc (v - (n + 1)) ≡ v - n = omega arith in
          ap (λ b. b || list_any (λ w. w == v) (numbers_from (n + 1) sets c)) apart ∙ h ∙ ap (λ k. has (slice_index_or (s ∷ sets) k []) c) next
      there false h l =
          let next : suc (v - (n + 1)) ≡ v - n = omega arith in
          h ∙ ap (λ k. has (slice_index_or (s ∷ sets) k []) c) next

  pub listed : (v : ℕ) (c : Cell) → 1 ≤ v → v < length sets + 1 → list_any (λ w. w == v) (having c sets) ≡ has (set_of sets v) c
  listed v c low high = listed_from 1 v sets c low (omega arith)

  pub meeting_more : (cells : List Cell) (i number : ℕ) (c : Cell) (old now new : List ℕ) → i < length cells → c ≡ get_or cells i c → length old ≡ length sets + 1 → Marks (λ v. meet (take i cells) (set_of sets v)) number old now → Marks (λ v. list_any (λ w. w == v) (having c sets)) number now new → Marks (λ v. meet (take (i + 1) cells) (set_of sets v)) number old new
  meeting_more cells i number c old now new less is all m k = record {
    same = k.same ∙ m.same;
    each = λ v low l.
        let more : meet (take (i + 1) cells) (set_of sets v) ≡ (meet (take i cells) (set_of sets v) || list_any (λ w. w == v) (having c sets)) =
        list_any_more (has (set_of sets v)) cells i c less ∙ ap (λ b. meet (take i cells) (set_of sets v) || b) (ap (has (set_of sets v)) (sym is) ∙ sym (listed v c low (subst (λ n. v < n) all l))) in
        k.each v low (subst (λ n. v < n) (sym m.same) l)
        ∙ ap (λ x. cond (list_any (λ w. w == v) (having c sets)) number x) (m.each v low l)
        ∙ twice (meet (take i cells) (set_of sets v)) (list_any (λ w. w == v) (having c sets)) number (slice_index old v)
        ∙ sym (ap (λ b. cond b number (slice_index old v)) more);
  }

-- ---- the clause of a pair

module _ (u v : ℕ) where
  abbrev is_one : Entry → Bool
  is_one x = is_numbered u x || is_numbered v x

  abbrev clause_from : ℕ → List (List Cell) → List Lit
  clause_from n sets = filter_map (λ x. cond (is_one x) (Some (literals.minus x.0)) (cond (no_variable x) (Some (literals.plus x.0)) None)) (enumerate_from n sets)

  differs : (m n : ℕ) → m ≢ n → (m == n) ≡ false
  differs m n d = elim (cases_Bool (m == n)) [ inl t ↦ absurd (d (eqb-true m n t)) | inr f ↦ f ]

  clause_none : (n : ℕ) (sets : List (List Cell)) → u < n → v < n → clause_from n sets ≡ []
  clause_none n [] a b = refl
  clause_none n (s ∷ sets) a b =
      let none : is_one (n, s) ≡ false = (λ i. differs n u (λ e. omega (arith, a, e)) i || differs n v (λ e. omega (arith, b, e)) i) in
      ap (λ t. cons_option (cond t (Some (literals.minus n)) None) (clause_from (n + 1) sets)) none ∙ clause_none (n + 1) sets (omega arith) (omega arith)

  clause_one : (n : ℕ) (sets : List (List Cell)) → u < n → n ≤ v → v < n + length sets → clause_from n sets ≡ literals.minus v ∷ []
  clause_one n [] a b h = absurd (omega arith)
  clause_one n (s ∷ sets) a b h =
      elim (cases_order n v) [
        | inl e ↦
            let hit : is_one (n, s) ≡ true = (λ i. differs n u (λ e. omega (arith, a, e)) i || eq-eqb n v e i) in
            ap (λ t. cons_option (cond t (Some (literals.minus n)) None) (clause_from (n + 1) sets)) hit ∙ (λ i. literals.minus (e i) ∷ clause_none (n + 1) sets (omega arith) (omega arith) i)
        | inr o ↦ elim o [
          | inl less ↦
              let none : is_one (n, s) ≡ false = (λ i. differs n u (λ e. omega (arith, a, e)) i || differs n v (λ e. omega (arith, less, e)) i) in
              ap (λ t. cons_option (cond t (Some (literals.minus n)) None) (clause_from (n + 1) sets)) none ∙ clause_one (n + 1) sets (omega arith) (omega arith) (omega arith)
          | inr more ↦ absurd (omega arith)
        ]
      ]

  clause_both : (n : ℕ) (sets : List (List Cell)) → n ≤ u → u < v → v < n + length sets → clause_from n sets ≡ pair_clause u v
  clause_both n [] a b h = absurd (omega arith)
  clause_both n (s ∷ sets) a b h =
      elim (cases_order n u) [
        | inl e ↦
            let hit : is_one (n, s) ≡ true = ap (λ t. t || (n == v)) (eq-eqb n u e) in
            ap (λ t. cons_option (cond t (Some (literals.minus n)) None) (clause_from (n + 1) sets)) hit ∙ (λ i. literals.minus (e i) ∷ clause_one (n + 1) sets (omega arith) (omega arith) (omega arith) i)
        | inr o ↦ elim o [
          | inl less ↦
              let none : is_one (n, s) ≡ false = (λ i. differs n u (λ e. omega (arith, less, e)) i || differs n v (λ e. omega (arith, less, b, e)) i) in
              ap (λ t. cons_option (cond t (Some (literals.minus n)) None) (clause_from (n + 1) sets)) none ∙ clause_both (n + 1) sets (omega arith) b (omega arith)
          | inr more ↦ absurd (omega arith)
        ]
      ]

  pub pair_of : (sets : List (List Cell)) → 1 ≤ u → u < v → v < length sets + 1 → clause_of literals (λ x. is_numbered u x || is_numbered v x) no_variable sets ≡ pair_clause u v
  pair_of sets a b h = clause_both 1 sets a b (omega arith)

-- the list of a cell has the variables that have it
pub list_of_cell : (g : Geometry) (t : Triple) (sets : List (List Cell)) (lists : List (List ℕ)) (n : ℕ) (c : Cell) (list : List ℕ) → AreCovering g t sets lists → n < window_size g t → in_window g t n ≡ c → list ≡ get_or lists n list → list ≡ having c sets
list_of_cell g t sets lists n c list covering below at is =
    is ∙ get_or_default lists n list [] (subst (λ m. n < m) (sym covering.all) below) ∙ covering.each n below ∙ ap (λ c. having c sets) at

pub list_in_range : (g : Geometry) (t : Triple) (sets : List (List Cell)) (lists : List (List ℕ)) (n : ℕ) (list : List ℕ) → AreCovering g t sets lists → n < window_size g t → list ≡ get_or lists n list → All (λ v. v < length sets + 1) list
list_in_range g t sets lists n list covering below is =
    let numbers : AreNumbers (length sets) list = subst (AreNumbers (length sets)) (sym is) (covering_numbers g t sets lists covering n list (subst (λ m. n < m) (sym covering.all) below)) in
    λ k d l. let r = (numbers.in_range k d l).1 in omega arith

-- ---- the marked pairs of a variable

-- one variable more
pub marked_more : (marks : List ℕ) (u count v : ℕ) → v ≡ (u + 1) + count → marked_among marks u (suc count) ≡ marked_among marks u count ++ map (pair_clause u) (cond (slice_index marks v == u) (v ∷ []) [])
marked_more marks u count v e =
    let test : ℕ → Bool = λ v. slice_index marks v == u in
    ap (λ vs. map (pair_clause u) (filter test vs)) (range_more (u + 1) count ∙ ap (λ k. range_with_len (u + 1) count ++ k ∷ []) (sym e))
    ∙ ap (map (pair_clause u)) (filter-append test (range_with_len (u + 1) count) (v ∷ []))
    ∙ map-append (pair_clause u) (filter test (range_with_len (u + 1) count)) (cond (slice_index marks v == u) (v ∷ []) [])

module _ (marks : List ℕ) (u v : ℕ) (later : u + 1 ≤ v) (vars : ℕ) (old : List (List Lit)) (vars' : ℕ) (mid : List (List Lit)) where
  count_next : v + 1 - (u + 1) ≡ suc (v - (u + 1))
  count_next = omega arith

  number_is : v ≡ (u + 1) + (v - (u + 1))
  number_is = omega arith

  pub adds_marked : (clause : List Lit) (vars'' : ℕ) (new : List (List Lit)) → slice_index marks v ≡ u → clause ≡ pair_clause u v → vars'' ≡ vars' → new ≡ mid ++ clause ∷ [] → AddsClauses (marked_among marks u (v - (u + 1))) vars old vars' mid → AddsClauses (marked_among marks u (v + 1 - (u + 1))) vars old vars'' new
  adds_marked clause vars'' new hit is same added a =
      let more : marked_among marks u (v + 1 - (u + 1)) ≡ marked_among marks u (v - (u + 1)) ++ pair_clause u v ∷ [] =
      ap (marked_among marks u) count_next ∙ marked_more marks u (v - (u + 1)) v number_is ∙ ap (λ b. marked_among marks u (v - (u + 1)) ++ map (pair_clause u) (cond b (v ∷ []) [])) (eq-eqb (slice_index marks v) u hit) in
      subst (λ cs. AddsClauses cs vars old vars'' new) (sym more)
      (adds_then (marked_among marks u (v - (u + 1))) (pair_clause u v ∷ []) vars old vars' mid vars'' new a (record { same = same; clauses = added ∙ ap (λ c. mid ++ c ∷ []) is }))

  pub adds_unmarked : slice_index marks v ≢ u → AddsClauses (marked_among marks u (v - (u + 1))) vars old vars' mid → AddsClauses (marked_among marks u (v + 1 - (u + 1))) vars old vars' mid
  adds_unmarked miss a =
      let off : (slice_index marks v == u) ≡ false = elim (cases_Bool (slice_index marks v == u)) [ inl t ↦ absurd (miss (eqb-true (slice_index marks v) u t)) | inr f ↦ f ] in
      let more : marked_among marks u (v + 1 - (u + 1)) ≡ marked_among marks u (v - (u + 1)) =
      ap (marked_among marks u) count_next ∙ marked_more marks u (v - (u + 1)) v number_is ∙ ap (λ b. marked_among marks u (v - (u + 1)) ++ map (pair_clause u) (cond b (v ∷ []) [])) off ∙ append-nil (marked_among marks u (v - (u + 1))) in
      subst (λ cs. AddsClauses cs vars old vars' mid) (sym more) a

-- ---- the pairs of a variable are those that are marked

filter_alike : {X : Type 0} (p q : X → Bool) (xs : List X) → ((x : X) → Contains xs x → p x ≡ q x) → filter p xs ≡ filter q xs
filter_alike p q [] e = refl
filter_alike p q (x ∷ xs) e = λ i. cond (e x (member_here x xs) i) (x ∷ filter_alike p q xs (λ y m. e y (member_there x xs y m)) i) (filter_alike p q xs (λ y m. e y (member_there x xs y m)) i)

filter_none : {X : Type 0} (p : X → Bool) (xs : List X) → ((x : X) → Contains xs x → p x ≡ false) → filter p xs ≡ []
filter_none p [] e = refl
filter_none p (x ∷ xs) e = ap (λ b. cond b (x ∷ filter p xs) (filter p xs)) (e x (member_here x xs)) ∙ filter_none p xs (λ y m. e y (member_there x xs y m))

pub range_split : (a m k : ℕ) → range_with_len a (m + k) ≡ range_with_len a m ++ range_with_len (a + m) k
range_split a zero k = let e : 0 + k ≡ k = omega arith in let f : a ≡ a + 0 = omega arith in ap (range_with_len a) e ∙ ap (λ b. range_with_len b k) f
range_split a (suc m) k =
    let e : suc m + k ≡ suc (m + k) = omega arith in
    let f : (a + 1) + m ≡ a + suc m = omega arith in
    ap (range_with_len a) e ∙ ap (λ zs. a ∷ zs) (range_split (a + 1) m k ∙ ap (λ b. range_with_len (a + 1) m ++ range_with_len b k) f)

-- the numbers of the entries that pass
filter_numbers : (test : Entry → Bool) (p : ℕ → Bool) (n : ℕ) (sets : List (List Cell)) → ((x : Entry) → Contains (enumerate_from n sets) x → test x ≡ p x.0) → map (λ (x : Entry). x.0) (filter test (enumerate_from n sets)) ≡ filter p (range_with_len n (length sets))
filter_numbers test p n [] e = refl
filter_numbers test p n (s ∷ sets) e =
    let rest = filter_numbers test p (n + 1) sets (λ x m. e x (member_there (n, s) (enumerate_from (n + 1) sets) x m)) in
    one (test (n, s)) (p n) (e (n, s) (member_here (n, s) (enumerate_from (n + 1) sets))) rest
  where
    one : (a b : Bool) → a ≡ b → map (λ (x : Entry). x.0) (filter test (enumerate_from (n + 1) sets)) ≡ filter p (range_with_len (n + 1) (length sets)) → map (λ (x : Entry). x.0) (cond a ((n, s) ∷ filter test (enumerate_from (n + 1) sets)) (filter test (enumerate_from (n + 1) sets))) ≡ cond b (n ∷ filter p (range_with_len (n + 1) (length sets))) (filter p (range_with_len (n + 1) (length sets)))
    one true true h r = ap (λ ns. n ∷ ns) r
    one true false h r = absurd (true≢false h)
    one false true h r = absurd (true≢false (sym h))
    one false false h r = r

-- the clauses of a variable with the later ones that share a cell with it
abbrev pub pairs_with : List (List Cell) → Entry → List (List Lit)
pairs_with sets u = map (λ (v : Entry). clause_of literals (λ x. is_numbered u.0 x || is_numbered v.0 x) no_variable sets) (filter (λ (v : Entry). nat_lt u.0 v.0 && meet u.1 v.1) (enumerate_from 1 sets))

module _ (sets : List (List Cell)) (u : Entry) (marks : List ℕ) (some : 1 ≤ u.0) (last : u.0 ≤ length sets) (all : length marks ≡ length sets + 1) (marked : (v : ℕ) → u.0 < v → v < length marks → (slice_index marks v == u.0) ≡ meet u.1 (set_of sets v)) where
  abbrev meets : Entry → Bool
  meets v = nat_lt u.0 v.0 && meet u.1 v.1

  abbrev is_marked : ℕ → Bool
  is_marked v = slice_index marks v == u.0

  entry_set : (x : Entry) → Contains (enumerate_from 1 sets) x → x.1 ≡ set_of sets x.0
  entry_set x m = sym (at (x.0 - 1) sets (entry_at sets 1 x m).1)
    where
      at : (k : ℕ) (sets : List (List Cell)) → slice_get sets k ≡ Some x.1 → slice_index_or sets k [] ≡ x.1
      at k [] e = absurd (none e)
        where
          none : None ≡ Some x.1 → ⊥
          none e = cc
      at zero (s ∷ sets) e = ap (λ o. unwrap_or o s) e
      at (suc k) (s ∷ sets) e = at k sets e

  agree : (x : Entry) → Contains (enumerate_from 1 sets) x → meets x ≡ (nat_lt u.0 x.0 && is_marked x.0)
  agree x m = by_order (nat_lt u.0 x.0) refl
    where
      by_order : (b : Bool) → nat_lt u.0 x.0 ≡ b → (b && meet u.1 x.1) ≡ (b && is_marked x.0)
      by_order true t = ap (meet u.1) (entry_set x m) ∙ sym (marked x.0 (ltb-true u.0 x.0 t) (let high = (numbers_between 1 sets x m).1 in omega arith))
      by_order false t = refl

  marked_numbers : map (λ (x : Entry). x.0) (filter meets (enumerate_from 1 sets)) ≡ filter is_marked (range_with_len (u.0 + 1) (length marks - (u.0 + 1)))
  marked_numbers =
      let p : ℕ → Bool = λ v. nat_lt u.0 v && is_marked v in
      let rest : ℕ = length marks - (u.0 + 1) in
      let split : length sets ≡ u.0 + (length marks - (u.0 + 1)) = omega arith in
      let first : 1 + u.0 ≡ u.0 + 1 = omega arith in
      filter_numbers meets p 1 sets agree
      ∙ ap (λ n. filter p (range_with_len 1 n)) split
      ∙ ap (filter p) (range_split 1 u.0 rest)
      ∙ filter-append p (range_with_len 1 u.0) (range_with_len (1 + u.0) rest)
      ∙ ap (λ vs. vs ++ filter p (range_with_len (1 + u.0) rest)) (filter_none p (range_with_len 1 u.0) (λ v m. let high = (in_range_below 1 u.0 v m).1 in ap (λ b. b && is_marked v) (not_less u.0 v (omega arith))))
      ∙ ap (λ n. filter p (range_with_len n rest)) first
      ∙ filter_alike p is_marked (range_with_len (u.0 + 1) rest) (λ v m. let low = (in_range_below (u.0 + 1) rest v m).0 in ap (λ b. b && is_marked v) (lt-ltb u.0 v (omega arith)))
    where
      not_less : (m n : ℕ) → n ≤ m → nat_lt m n ≡ false
      not_less m n l = elim (cases_Bool (nat_lt m n)) [ inl t ↦ let less = ltb-true m n t in absurd (omega arith) | inr f ↦ f ]

  pub pairs_marked : pairs_with sets u ≡ marked_clauses marks u.0
  pairs_marked =
      map_agree (λ (v : Entry). clause_of literals (λ x. is_numbered u.0 x || is_numbered v.0 x) no_variable sets) (λ (v : Entry). pair_clause u.0 v.0) (filter meets (enumerate_from 1 sets))
      (λ x m.
      let f = filter_member meets (enumerate_from 1 sets) x m in
      pair_of u.0 x.0 sets some (ltb-true u.0 x.0 (and_parts (nat_lt u.0 x.0) (meet u.1 x.1) f.1).0) (let high = (numbers_between 1 sets x f.0).1 in omega arith))
      ∙ sym (map_twice (λ (x : Entry). x.0) (pair_clause u.0) (filter meets (enumerate_from 1 sets)))
      ∙ ap (map (pair_clause u.0)) marked_numbers

-- ---- all pairs, one variable more

module _ (sets : List (List Cell)) (i : ℕ) (less : i < length sets) (old new : List ℕ) (all : length old ≡ length sets + 1) (low : (v : ℕ) → 1 ≤ v → v < length old → slice_index old v ≤ i) (marks : Marks (λ v. meet (set_of sets (i + 1)) (set_of sets v)) (i + 1) old new) where
  pub low_more : (v : ℕ) → 1 ≤ v → v < length new → slice_index new v ≤ i + 1
  low_more v some l =
      let below : v < length old = subst (λ n. v < n) marks.same l in
      by_test (meet (set_of sets (i + 1)) (set_of sets v)) (marks.each v some below) (low v some below)
    where
      by_test : (b : Bool) → slice_index new v ≡ cond b (i + 1) (slice_index old v) → slice_index old v ≤ i → slice_index new v ≤ i + 1
      by_test true e h = omega arith
      by_test false e h = omega arith

  marked_now : (v : ℕ) → 1 ≤ v → v < length new → (slice_index new v == (i + 1)) ≡ meet (set_of sets (i + 1)) (set_of sets v)
  marked_now v some l =
      let below : v < length old = subst (λ n. v < n) marks.same l in
      by_test (meet (set_of sets (i + 1)) (set_of sets v)) (marks.each v some below) (low v some below)
    where
      by_test : (b : Bool) → slice_index new v ≡ cond b (i + 1) (slice_index old v) → slice_index old v ≤ i → (slice_index new v == (i + 1)) ≡ b
      by_test true e h = eq-eqb (slice_index new v) (i + 1) e
      by_test false e h = elim (cases_Bool (slice_index new v == (i + 1))) [ inl t ↦ let same = eqb-true (slice_index new v) (i + 1) t in absurd (omega arith) | inr f ↦ f ]

  pub pairs_more : (vars : ℕ) (before : List (List Lit)) (vars' : ℕ) (mid : List (List Lit)) (vars'' : ℕ) (after : List (List Lit)) → AddsClauses (flat_map (pairs_with sets) (take i (enumerate_from 1 sets))) vars before vars' mid → AddsClauses (marked_clauses new (i + 1)) vars' mid vars'' after → AddsClauses (flat_map (pairs_with sets) (take (i + 1) (enumerate_from 1 sets))) vars before vars'' after
  pairs_more vars before vars' mid vars'' after a b =
      let d : Entry = (0, []) in
      let long = length-enumerate_from 1 sets in
      let next : 1 + i ≡ i + 1 = omega arith in
      let place : i + 1 - 1 ≡ i = omega arith in
      let entry : get_or (enumerate_from 1 sets) i d ≡ (i + 1, set_of sets (i + 1)) =
      get_or-enumerate_from 1 sets i d less ∙ (λ j. (next j, slice_index_or sets (sym place j) [])) in
      let size = marks.same ∙ all in
      let these : pairs_with sets (i + 1, set_of sets (i + 1)) ≡ marked_clauses new (i + 1) =
      pairs_marked sets (i + 1, set_of sets (i + 1)) new (omega arith) (omega arith) size (λ v later below. marked_now v (omega arith) below) in
      let more : flat_map (pairs_with sets) (take (i + 1) (enumerate_from 1 sets)) ≡ flat_map (pairs_with sets) (take i (enumerate_from 1 sets)) ++ marked_clauses new (i + 1) =
      ap (flat_map (pairs_with sets)) (take_more (enumerate_from 1 sets) i d (omega arith))
      ∙ flat_map-append (pairs_with sets) (take i (enumerate_from 1 sets)) (get_or (enumerate_from 1 sets) i d ∷ [])
      ∙ ap (λ cs. flat_map (pairs_with sets) (take i (enumerate_from 1 sets)) ++ cs) (append-nil (pairs_with sets (get_or (enumerate_from 1 sets) i d)) ∙ ap (pairs_with sets) entry ∙ these) in
      subst (λ cs. AddsClauses cs vars before vars'' after) (sym more) (adds_then (flat_map (pairs_with sets) (take i (enumerate_from 1 sets))) (marked_clauses new (i + 1)) vars before vars' mid vars'' after a b)

-- ---- how many clauses there are

pub pair_few : (mid : List (List Lit)) (clause : List Lit) (new : List (List Lit)) (n u v : ℕ) → u + 1 ≤ v → new ≡ mid ++ clause ∷ [] → length mid ≤ n + (v - (u + 1)) → length new ≤ n + (v + 1 - (u + 1))
pair_few mid clause new n u v later e few = let long = one_longer mid clause new n (v - (u + 1)) e few in omega arith

pub no_pair_few : (mid n u v : ℕ) → u + 1 ≤ v → mid ≤ n + (v - (u + 1)) → mid ≤ n + (v + 1 - (u + 1))
no_pair_few mid n u v later few = omega arith

pub all_pairs : (sets : List (List Cell)) (i : ℕ) (vars : ℕ) (old : List (List Lit)) (vars' : ℕ) (new : List (List Lit)) → length sets ≤ i → AddsClauses (flat_map (pairs_with sets) (take i (enumerate_from 1 sets))) vars old vars' new → AddsClauses (exclusion_clauses literals meet sets) vars old vars' new
all_pairs sets i vars old vars' new last a =
    let long = length-enumerate_from 1 sets in
    subst (λ es. AddsClauses (flat_map (pairs_with sets) es) vars old vars' new) (take_all i (enumerate_from 1 sets) (omega arith)) a
