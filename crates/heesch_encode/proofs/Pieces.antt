-- The clauses of a family piece by piece, and the families as the lists of their pieces.
use Rattle.std.proofs.Common.{◌≡◌, refl, sym, ap, subst, ◌∙◌, ℕ, zero, suc, ◌+◌, ◌-◌, ◌<◌, ◌≤◌, List, [], ◌∷◌, ◌++◌, map, filter, length, get_or, take, drop, All, Bool, true, false, cond, not, ◌&&◌, ◌||◌, arith, Contains, true≢false, Err, inl, inr, lt-ltb, le-ltb, le-leb, ltb-true, eqb-true, eq-eqb, ne_eqb}
use Rattle.std.specs.Prelude.{nat_lt, nat_le, flat_map, ◌==◌, Some}
use Rattle.std.specs.List.{enumerate_from, slice_get}
use Rattle.heesch_cnf.specs.declared.literal.Lit.{Lit}
use Rattle.heesch_grid.specs.declared.Cell.{Cell}
use Rattle.heesch_grid.specs.Cells.{has, meet, cell_before, cells_before}
use Rattle.heesch_grid.specs.Clauses.{clause_of, no_variable, is_numbered}
use Rattle.heesch_grid.specs.CoronaFormula.{Variable, variable_before, IsVariable, IsUniverse, covers, first_clauses, covering_clauses, support_clauses, IsNumbered}
use Rattle.heesch_cert.specs.Literals.{literals}
use Rattle.std.proofs.lemmas.Bool.{and_parts, and_left, and_right, or_cases, cases_Bool, cases_order}
use Rattle.std.proofs.lemmas.List.Concat.{flat_map_single}
use Rattle.std.proofs.lemmas.List.FromFn.{get_or-enumerate_from, length-enumerate_from}
use Rattle.std.proofs.lemmas.List.Elements.{All-contains, Contains-get_or}
use Rattle.heesch_grid.specs.Geometry.{Geometry, IsAround}
use Rattle.heesch_grid.specs.Pairs.{has-true}
use Rattle.heesch_grid.specs.Placement.{touch}
use Rattle.heesch_grid.specs.Integers.{same_truth}
use Rattle.heesch_grid.specs.Listing.{IsRising, ListsExactly}
use Rattle.heesch_grid.proofs.ListFacts.{filter_member, All-from_members}
use Rattle.heesch_grid.proofs.WindowFacts.{map_member}
use Rattle.heesch_grid.proofs.ClauseFacts.{entry_made, entry_same, entry_variable, entries_ordered}
use Rattle.heesch_place.specs.Universes.{covering}
use Rattle.heesch_encode.specs.Families.{covering_at, support_at, apart_at, clauses_at}
use Rattle.heesch_encode.specs.declared.families.Family.TheVariants.{Covering, Support}
use Rattle.heesch_encode.specs.Meeting.{numbers_of, meeting_after, supporting}
use Rattle.heesch_encode.specs.Literals.{plus_all, lit_before, IsOfImplication}
use Rattle.heesch_encode.proofs.ClauseLists.{choice_is, implication_is, exclusion_is, numbers_rising, entry_range}
use Rattle.heesch_encode.specs.declared.stop.EncodeStop.{EncodeStop}
use Rattle.heesch_encode.specs.declared.stop.EncodeStop.TheVariants.{NoMemory}
use Rattle.heesch_encode.specs.declared.collector.Collector.{Collector}
use Rattle.heesch_encode.specs.Taking.{Takes, IsTaken}
use Rattle.heesch_encode.proofs.Rising.{pieces_more, pieces_rest, flat_map_filter, flat_map_cond, filter_both}
use Rattle.heesch_encode.proofs.Numbered.{IsPlaced, placed, no_entry}
use Rattle.heesch_encode.proofs.Takings.{Clauses, takes_none, takes_more, stopped_within}

-- each piece: of family 1 for a cell, of family 2 for a cell around a tile, of family 4 for another variable
abbrev pub first_piece : List Variable → Cell → List (List Lit)
first_piece vars c = clause_of literals no_variable (covers 1 c) vars ∷ []

abbrev pub covering_piece : List Cell → List Variable → ℕ → ℕ → Cell → List (List Lit)
covering_piece shape vars n level c = cond (not (has shape c)) (clause_of literals (is_numbered n) (covers (level + 1) c) vars ∷ []) []

abbrev pub apart_piece : List Variable → ℕ → ℕ → List (List Lit)
apart_piece vars u n = clause_of literals (λ x. is_numbered u x || is_numbered n x) no_variable vars ∷ []

-- ---- one piece after another

module _ {X : Type 0} (f : X → List (List Lit)) (xs : List X) where
  pub piece_taken : (a b c : Collector) (i : ℕ) (d : X) → i < length xs → Takes a b (flat_map f (take i xs)) → Takes b c (f (get_or xs i d)) → Takes a c (flat_map f (take (i + 1) xs))
  piece_taken a b c i d l s t = subst (Takes a c) (sym (pieces_more f xs i d l)) (takes_more a b c (flat_map f (take i xs)) (f (get_or xs i d)) s t)

  pub piece_stopped : (e : EncodeStop) (a b c : Collector) (i : ℕ) (d : X) → i < length xs → Takes a b (flat_map f (take i xs)) → IsTaken (Err e) b c (f (get_or xs i d)) → IsTaken (Err e) a c (flat_map f xs)
  piece_stopped e a b c i d l s t =
      stopped_within e a b c (flat_map f (take i xs)) (f (get_or xs i d)) (flat_map f (drop (i + 1) xs)) (flat_map f xs)
      (pieces_rest f xs (i + 1) ∙ ap (λ zs. zs ++ flat_map f (drop (i + 1) xs)) (pieces_more f xs i d l)) s t

pub no_memory : (e : EncodeStop) (a b : Collector) (xs : Clauses) → e ≡ NoMemory → IsTaken (Err e) a b xs
no_memory e a b xs is = subst (λ z. IsTaken (Err z) a b xs) (sym is) tt

-- ---- the clauses as they are written

pub choice_clause : (vars : List Variable) (c : Cell) (covered : List ℕ) (written now : List Lit) → covered ≡ covering vars 1 c → written ≡ plus_all covered → now ≡ written → now ≡ clause_of literals no_variable (covers 1 c) vars
choice_clause vars c covered written now covers_is writes reads = reads ∙ writes ∙ ap plus_all covers_is ∙ choice_is vars (covers 1 c)

pub implication_clause : (vars : List Variable) (k n : ℕ) (v : Variable) (c : Cell) (covered : List ℕ) (written now : List Lit) → IsNumbered vars n v → has v.tile c ≡ false → covered ≡ covering vars k c → ListsExactly lit_before (IsOfImplication n covered) written → now ≡ written → now ≡ clause_of literals (is_numbered n) (covers k c) vars
implication_clause vars k n v c covered written now number outside covers_is writes reads =
    reads ∙ implication_is vars (covers k c) n v written (entry_made vars n v number) (and_right (nat_le v.level k) (has v.tile c) outside) (subst (λ ns. ListsExactly lit_before (IsOfImplication n ns) written) covers_is writes)

-- the variable is none of those of its level or a higher one that have a cell outside its tile
pub not_covering : (vars : List Variable) (k n : ℕ) (v : Variable) (c : Cell) → IsNumbered vars n v → has v.tile c ≡ false → ¬ Contains (covering vars k c) n
not_covering vars k n v c number outside m =
    let r = map_member (λ (x : ℕ × Variable). x.0) (filter (covers k c) (enumerate_from 1 vars)) n m in
    let f = filter_member (covers k c) (enumerate_from 1 vars) r.0 r.1 in
    let same : r.0.1 ≡ v = entry_same vars r.0 (n, v) f.0 (entry_made vars n v number) r.2 in
    true≢false (sym (and_parts (nat_le r.0.1.level k) (has r.0.1.tile c) f.1).1 ∙ ap (λ (z : Variable). has z.tile c) same ∙ outside)

pub covering_rising : (vars : List Variable) (k : ℕ) (c : Cell) → IsRising nat_lt (covering vars k c)
covering_rising vars k c = numbers_rising vars (covers k c)

-- ---- the families

pub first_is : (around : List Cell → List Cell) (shape : List Cell) (vars : List Variable) (items : List Cell) → items ≡ around shape → flat_map (first_piece vars) items ≡ first_clauses literals around shape vars
first_is around shape vars items is = ap (flat_map (first_piece vars)) is ∙ flat_map_single (λ c. clause_of literals no_variable (covers 1 c) vars) (around shape)

pub covering_is : (around : List Cell → List Cell) (shape : List Cell) (j : ℕ) (vars : List Variable) (n level : ℕ) (v : Variable) (items : List Cell) → level ≡ v.level → level < j → items ≡ around v.tile → flat_map (covering_piece shape vars n level) items ≡ covering_at around shape j vars (n, v)
covering_is around shape j vars n level v items at below is =
    flat_map_filter (λ c. not (has shape c)) (λ c. clause_of literals (is_numbered n) (covers (level + 1) c) vars) items
    ∙ (λ i. map (λ c. clause_of literals (is_numbered n) (covers (at i + 1) c) vars) (filter (λ c. not (has shape c)) (is i)))
    ∙ sym (ap (λ b. cond b (map (λ c. clause_of literals (is_numbered n) (covers (v.level + 1) c) vars) (filter (λ c. not (has shape c)) (around v.tile))) []) (ap (λ l. nat_lt l j) (sym at) ∙ lt-ltb level j below))

-- a variable of no lower level than j has no clause
pub no_covering : (around : List Cell → List Cell) (shape : List Cell) (j : ℕ) (vars : List Variable) (n level : ℕ) (v : Variable) → level ≡ v.level → j ≤ level → [] ≡ covering_at around shape j vars (n, v)
no_covering around shape j vars n level v at above =
    sym (ap (λ b. cond b (map (λ c. clause_of literals (is_numbered n) (covers (v.level + 1) c) vars) (filter (λ c. not (has shape c)) (around v.tile))) []) (ap (λ l. nat_lt l j) (sym at) ∙ le-ltb level j above))

-- ---- family 3

pub not_supporting : (g : Geometry) (vars : List Variable) (level n : ℕ) (v : Variable) (tile : List Cell) → IsNumbered vars n v → (v.level ≡ level → ⊥) → ¬ Contains (supporting g vars level tile) n
not_supporting g vars level n v tile number other m =
    let test = λ (x : ℕ × Variable). x.1.level == level && touch g x.1.tile tile in
    let r = map_member (λ (x : ℕ × Variable). x.0) (filter test (enumerate_from 1 vars)) n m in
    let f = filter_member test (enumerate_from 1 vars) r.0 r.1 in
    let same : r.0.1 ≡ v = entry_same vars r.0 (n, v) f.0 (entry_made vars n v number) r.2 in
    other (ap (λ (z : Variable). z.level) (sym same) ∙ eqb-true r.0.1.level level (and_parts (r.0.1.level == level) (touch g r.0.1.tile tile) f.1).0)

pub supporting_rising : (g : Geometry) (vars : List Variable) (level : ℕ) (tile : List Cell) → IsRising nat_lt (supporting g vars level tile)
supporting_rising g vars level tile = numbers_rising vars (λ (x : ℕ × Variable). x.1.level == level && touch g x.1.tile tile)

one_below : (l of : ℕ) → 2 ≤ of → (l == of - 1) ≡ (l + 1 == of)
one_below l of two = same_truth (l == of - 1) (l + 1 == of) (λ t. let e = eqb-true l (of - 1) t in eq-eqb (l + 1) of (omega arith)) (λ t. let e = eqb-true (l + 1) of t in eq-eqb l (of - 1) (omega arith))

pub support_clause : (g : Geometry) (vars : List Variable) (n of : ℕ) (v : Variable) (tile : List Cell) (numbers : List ℕ) (written now : List Lit) → IsNumbered vars n v → of ≡ v.level → 2 ≤ of → tile ≡ v.tile → numbers ≡ supporting g vars (of - 1) tile → ListsExactly lit_before (IsOfImplication n numbers) written → now ≡ written →
    now ≡ clause_of literals (is_numbered n) (λ y. (y.1.level + 1 == v.level) && touch g y.1.tile v.tile) vars
support_clause g vars n of v tile numbers written now number at two is supports writes reads =
    reads
    ∙ implication_is vars (λ (x : ℕ × Variable). x.1.level == of - 1 && touch g x.1.tile tile) n v written (entry_made vars n v number)
    (and_left (v.level == of - 1) (touch g v.tile tile) (ne_eqb v.level (of - 1) (λ e. omega arith))) (subst (λ ns. ListsExactly lit_before (IsOfImplication n ns) written) supports writes)
    ∙ (λ i. clause_of literals (is_numbered n) (λ y. one_below y.1.level of two i && touch g y.1.tile (is i)) vars)
    ∙ (λ i. clause_of literals (is_numbered n) (λ y. (y.1.level + 1 == at i) && touch g y.1.tile v.tile) vars)

pub support_is : (g : Geometry) (vars : List Variable) (n of : ℕ) (v : Variable) → of ≡ v.level → 2 ≤ of → clause_of literals (is_numbered n) (λ y. (y.1.level + 1 == v.level) && touch g y.1.tile v.tile) vars ∷ [] ≡ support_at g vars (n, v)
support_is g vars n of v at two =
    sym (ap (λ b. cond b (clause_of literals (is_numbered n) (λ y. (y.1.level + 1 == v.level) && touch g y.1.tile v.tile) vars ∷ []) []) (ap (nat_le 2) (sym at) ∙ le-leb 2 of two))

-- ---- family 4

level_order : (vars : List Variable) → IsRising variable_before vars → (u x : ℕ × Variable) → Contains (enumerate_from 1 vars) u → Contains (enumerate_from 1 vars) x → u.0 < x.0 → u.1.level ≤ x.1.level
level_order vars rising u x in_u in_x less =
    elim (or_cases (nat_lt u.1.level x.1.level) (u.1.level == x.1.level && cells_before u.1.tile x.1.tile) (entries_ordered variable_before vars 1 rising u x in_u in_x less)) [
      | inl l ↦ let k = ltb-true u.1.level x.1.level l in omega arith
      | inr h ↦ let e = eqb-true u.1.level x.1.level (and_parts (u.1.level == x.1.level) (cells_before u.1.tile x.1.tile) h).0 in omega arith
    ]

-- a later variable has no lower level
pub numbered_order : (vars : List Variable) → IsRising variable_before vars → (m n : ℕ) (x y : Variable) → IsNumbered vars m x → IsNumbered vars n y → m ≤ n → x.level ≤ y.level
numbered_order vars rising m n x y at_m at_n le =
    elim (cases_order m n) [
      | inl e ↦ let same = ap (λ (z : Variable). z.level) (entry_same vars (m, x) (n, y) (entry_made vars m x at_m) (entry_made vars n y at_n) e) in omega arith
      | inr o ↦ elim o [ inl less ↦ level_order vars rising (m, x) (n, y) (entry_made vars m x at_m) (entry_made vars n y at_n) less | inr more ↦ absurd (omega arith) ]
    ]

map_numbers : {Y : Type 0} (f : ℕ → Y) (xs : List (ℕ × Variable)) → map f (numbers_of xs) ≡ map (λ (x : ℕ × Variable). f x.0) xs
map_numbers f [] = refl
map_numbers f (x ∷ xs) = ap (λ zs. f x.0 ∷ zs) (map_numbers f xs)

pub filter_same : (p q : ℕ × Variable → Bool) (xs : List (ℕ × Variable)) → ((x : ℕ × Variable) → Contains xs x → p x ≡ q x) → filter p xs ≡ filter q xs
filter_same p q xs e = sym (all_pass xs) ∙ filter_both (λ x. true) p q xs (λ x m. sym (e x m))
  where
    all_pass : (xs : List (ℕ × Variable)) → filter p (filter (λ x. true) xs) ≡ filter p xs
    all_pass [] = refl
    all_pass (x ∷ xs) = ap (λ zs. cond (p x) (x ∷ zs) zs) (all_pass xs)

pub apart_is : (g : Geometry) (shape : List Cell) (j : ℕ) (vars : List Variable) (n : ℕ) (v : Variable) (tile : List Cell) (items : List ℕ) → IsUniverse g shape j vars → tile ≡ v.tile → items ≡ meeting_after vars n j tile → flat_map (apart_piece vars n) items ≡ apart_at vars (n, v)
apart_is g shape j vars n v tile items universe is_tile is =
    flat_map_single clause items ∙ ap (map clause) (is ∙ (λ i. meeting_after vars n j (is_tile i)))
    ∙ map_numbers clause (filter test (enumerate_from 1 vars))
    ∙ ap (map (λ (x : ℕ × Variable). clause x.0)) (filter_same test (λ (x : ℕ × Variable). nat_lt n x.0 && meet v.tile x.1.tile) (enumerate_from 1 vars) agree)
  where
    clause : ℕ → List Lit
    clause m = clause_of literals (λ x. is_numbered n x || is_numbered m x) no_variable vars

    test : ℕ × Variable → Bool
    test x = (nat_lt n x.0 && nat_le x.1.level j) && meet v.tile x.1.tile

    and_true : (b : Bool) → (b && true) ≡ b
    and_true true = refl
    and_true false = refl

    agree : (x : ℕ × Variable) → Contains (enumerate_from 1 vars) x → test x ≡ (nat_lt n x.0 && meet v.tile x.1.tile)
    agree x m =
        let high : x.1.level ≤ j = (All-contains (IsVariable g shape j) vars x.1 universe.only (entry_variable vars 1 x m)).level_to in
        ap (λ b. (nat_lt n x.0 && b) && meet v.tile x.1.tile) (le-leb x.1.level j high) ∙ ap (λ b. b && meet v.tile x.1.tile) (and_true (nat_lt n x.0))

-- the clause of two of them
pub apart_clause : (vars : List Variable) (most : ℕ) (cells : List Cell) (n : ℕ) (v : Variable) (items : List ℕ) (i : ℕ) → IsNumbered vars n v → items ≡ meeting_after vars n most cells → i < length items → literals.minus n ∷ literals.minus (get_or items i 0) ∷ [] ≡ clause_of literals (λ x. is_numbered n x || is_numbered (get_or items i 0) x) no_variable vars
apart_clause vars most cells n v items i number is l =
    let test = λ (x : ℕ × Variable). (nat_lt n x.0 && nat_le x.1.level most) && meet cells x.1.tile in
    let p : IsPlaced vars (filter test (enumerate_from 1 vars)) items i = placed vars (filter test (enumerate_from 1 vars)) items i (λ x m. (filter_member test (enumerate_from 1 vars) x m).0) is l in
    let member = map_member (λ (x : ℕ × Variable). x.0) (filter test (enumerate_from 1 vars)) (get_or items i 0) (subst (λ ns. Contains ns (get_or items i 0)) is (Contains-get_or items i 0 l)) in
    let f = filter_member test (enumerate_from 1 vars) member.0 member.1 in
    let less : n < get_or items i 0 = subst (λ m. n < m) member.2 (ltb-true n member.0.0 (and_parts (nat_lt n member.0.0) (nat_le member.0.1.level most) (and_parts (nat_lt n member.0.0 && nat_le member.0.1.level most) (meet cells member.0.1.tile) f.1).0).0) in
    subst (λ m. literals.minus n ∷ literals.minus m ∷ [] ≡ clause_of literals (λ x. is_numbered n x || is_numbered m x) no_variable vars) (sym p.number) (exclusion_is vars (n, v) p.of (entry_made vars n v number) p.is_in (subst (λ m. n < m) p.number less))

-- ---- variables by their numbers

pub some_at : (vars : List Variable) (n : ℕ) → 1 ≤ n → n ≤ length vars → IsNumbered vars n (get_or vars (n - 1) no_entry.1)
some_at vars n low high = (low, go vars (n - 1) (omega arith))
  where
    go : (vs : List Variable) (i : ℕ) → i < length vs → slice_get vs i ≡ Some (get_or vs i no_entry.1)
    go [] i l = absurd (omega arith)
    go (v ∷ vs) zero l = refl
    go (v ∷ vs) (suc i) l = go vs i (omega arith)

-- a cell around a tile is none of its own
pub around_outside : (g : Geometry) (tile other : List Cell) (ring items : List Cell) (i : ℕ) (d : Cell) → ListsExactly cell_before (IsAround g tile) ring → items ≡ ring → tile ≡ other → i < length items → has other (get_or items i d) ≡ false
around_outside g tile other ring items i d listed is same l =
    let member : Contains ring (get_or items i d) = subst (λ zs. Contains zs (get_or items i d)) is (Contains-get_or items i d l) in
    let a = All-contains (IsAround g tile) ring (get_or items i d) listed.only member in
    elim (cases_Bool (has other (get_or items i d))) [ inr f ↦ f | inl t ↦ absurd (a.outside (subst (λ zs. Contains zs (get_or items i d)) (sym same) (has-true other (get_or items i d) t))) ]

-- ---- a piece that has its clause, and one that has none

pub piece_written : (shape : List Cell) (vars : List Variable) (n of : ℕ) (v : Variable) (c : Cell) → IsNumbered vars n v → has v.tile c ≡ false → has shape c ≡ false →
    (covered : List ℕ) (written now : List Lit) → covered ≡ covering vars (of + 1) c → ListsExactly lit_before (IsOfImplication n covered) written → now ≡ written → (p : List (List Lit) → Type 0) → p (now ∷ []) → p (covering_piece shape vars n of c)
piece_written shape vars n of v c number outside free covered written now covers_is writes reads p h =
    let clause : List Lit = clause_of literals (is_numbered n) (covers (of + 1) c) vars in
    subst p (ap (λ z. z ∷ []) (implication_clause vars (of + 1) n v c covered written now number outside covers_is writes reads) ∙ sym (ap (λ b. cond (not b) (clause ∷ []) []) free)) h

pub without_clause : (b : Bool) (clause : List Lit) (a c : Collector) → b ≡ false → c ≡ a → Takes a c (cond b (clause ∷ []) [])
without_clause b clause a c f is = subst (λ z. Takes a z (cond b (clause ∷ []) [])) (sym is) (subst (Takes a a) (sym (ap (λ b. cond b (clause ∷ []) []) f)) (takes_none a))

-- the entry at a place is that of the next number
pub entry_read : (vars : List Variable) (i : ℕ) → i < length vars → get_or (enumerate_from 1 vars) i no_entry ≡ (i + 1, get_or vars (i + 1 - 1) no_entry.1)
entry_read vars i l =
    let p : 1 + i ≡ i + 1 = omega arith in
    let q : i ≡ i + 1 - 1 = omega arith in
    get_or-enumerate_from 1 vars i no_entry l ∙ (λ k. (p k, get_or vars (q k) no_entry.1))

-- ---- one variable after another

module _ (f : ℕ × Variable → List (List Lit)) (vars : List Variable) (i : ℕ) (less : i < length vars) (a b c : Collector) (before : Takes a b (flat_map f (take i (enumerate_from 1 vars)))) where
  within : i < length (enumerate_from 1 vars)
  within = omega (arith, less, length-enumerate_from 1 vars)

  pub variable_taken : Takes b c (f (i + 1, get_or vars (i + 1 - 1) no_entry.1)) → Takes a c (flat_map f (take (i + 1) (enumerate_from 1 vars)))
  variable_taken t = piece_taken f (enumerate_from 1 vars) a b c i no_entry within before (subst (λ x. Takes b c (f x)) (sym (entry_read vars i less)) t)

  pub variable_stopped : (e : EncodeStop) → IsTaken (Err e) b c (f (i + 1, get_or vars (i + 1 - 1) no_entry.1)) → IsTaken (Err e) a c (flat_map f (enumerate_from 1 vars))
  variable_stopped e t = piece_stopped f (enumerate_from 1 vars) e a b c i no_entry within before (subst (λ x. IsTaken (Err e) b c (f x)) (sym (entry_read vars i less)) t)

-- ---- the families as they go by variables

pub covering_family : (g : Geometry) (around : List Cell → List Cell) (shape : List Cell) (j : ℕ) (vars : List Variable) → flat_map (clauses_at Covering g around shape j vars) (enumerate_from 1 vars) ≡ covering_clauses literals around shape j vars
covering_family g around shape j vars =
    flat_map_cond (λ (x : ℕ × Variable). nat_lt x.1.level j) (λ (x : ℕ × Variable). map (λ c. clause_of literals (is_numbered x.0) (covers (x.1.level + 1) c) vars) (filter (λ c. not (has shape c)) (around x.1.tile))) (enumerate_from 1 vars)

pub support_family : (g : Geometry) (around : List Cell → List Cell) (shape : List Cell) (j : ℕ) (vars : List Variable) → flat_map (clauses_at Support g around shape j vars) (enumerate_from 1 vars) ≡ support_clauses literals g vars
support_family g around shape j vars =
    flat_map_filter (λ (x : ℕ × Variable). nat_le 2 x.1.level) (λ (x : ℕ × Variable). clause_of literals (is_numbered x.0) (λ y. (y.1.level + 1 == x.1.level) && touch g y.1.tile x.1.tile) vars) (enumerate_from 1 vars)

-- ---- numbers below 2^31

pub supporting_small : (g : Geometry) (vars : List Variable) (level : ℕ) (tile : List Cell) (size : ℕ) → length vars < size → All (λ n. n < size) (supporting g vars level tile)
supporting_small g vars level tile size l =
    All-from_members (λ n. n < size) (supporting g vars level tile)
    (λ n m.
    let test = λ (x : ℕ × Variable). x.1.level == level && touch g x.1.tile tile in
    let r = map_member (λ (x : ℕ × Variable). x.0) (filter test (enumerate_from 1 vars)) n m in
    let f = filter_member test (enumerate_from 1 vars) r.0 r.1 in
    let range = (entry_range vars r.0 f.0).1 in
    subst (λ k. k < size) r.2 (omega arith))

pub meeting_small : (vars : List Variable) (above most : ℕ) (cells : List Cell) (size : ℕ) → length vars < size → All (λ n. n < size) (meeting_after vars above most cells)
meeting_small vars above most cells size l =
    All-from_members (λ n. n < size) (meeting_after vars above most cells)
    (λ n m.
    let test = λ (x : ℕ × Variable). (nat_lt above x.0 && nat_le x.1.level most) && meet cells x.1.tile in
    let r = map_member (λ (x : ℕ × Variable). x.0) (filter test (enumerate_from 1 vars)) n m in
    let f = filter_member test (enumerate_from 1 vars) r.0 r.1 in
    let range = (entry_range vars r.0 f.0).1 in
    subst (λ k. k < size) r.2 (omega arith))
