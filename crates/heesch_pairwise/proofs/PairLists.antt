-- The clauses of the variables that meet: which they are, how many there are, and when a clause contains one.
use Rattle.std.proofs.Common.{◌≡◌, refl, sym, ap, subst, ◌∙◌, ℕ, ◌+◌, ◌*◌, ◌-◌, ◌<◌, ◌≤◌, List, [], ◌∷◌, ◌++◌, map, filter, length, get_or, take, Bool, true, false, ◌&&◌, ◌||◌, inl, inr, arith, All, Contains, ltb-true}
use Rattle.std.specs.Prelude.{nat_lt, sum_by, flat_map}
use Rattle.std.specs.List.{enumerate_from}
use Rattle.std.proofs.lemmas.Bool.{and_parts, cases_lt}
use Rattle.std.proofs.lemmas.List.{length-map, get_or-map, map-append, take_more, take_all}
use Rattle.std.proofs.lemmas.List.Elements.{All-cons, All-nil, All-contains, All-weaker, Contains-get_or}
use Rattle.std.proofs.lemmas.List.FromFn.{length-enumerate_from}
use Rattle.std.proofs.lemmas.List.Sums.{sum_by-cons, sum_by_more, sum_by_more_le}
use Rattle.heesch_cnf.specs.declared.literal.Lit.{Lit}
use Rattle.heesch_cnf.specs.Clauses.{IsClause, AreClauses, IsWithin, IsNew}
use Rattle.heesch_grid.specs.declared.Cell.{Cell}
use Rattle.heesch_grid.specs.Cells.{meet}
use Rattle.heesch_grid.specs.Pairs.{has-true}
use Rattle.heesch_grid.specs.Clauses.{clause_of, formula_size, is_numbered, no_variable}
use Rattle.heesch_grid.specs.CoronaFormula.{Variable, IsNumbered}
use Rattle.heesch_grid.specs.OwnerFormula.{holders}
use Rattle.heesch_grid.proofs.ListFacts.{member_here, member_there, filter_member, All-from_members}
use Rattle.heesch_grid.proofs.WindowFacts.{map_member, member_map, flat_map_member, member_flat_map}
use Rattle.heesch_grid.proofs.ClauseFacts.{entry_at, entry_made, entry_same}
use Rattle.heesch_cert.specs.Literals.{literals}
use Rattle.heesch_encode.specs.Families.{apart_at}
use Rattle.heesch_encode.proofs.ClauseLists.{clause_form, exclusion_is, entry_range}
use Rattle.heesch_encode.proofs.Numbered.{no_entry}
use Rattle.heesch_encode.proofs.Pieces.{some_at, entry_read}
use Rattle.heesch_numbers.specs.Counts.{FallsIn}
use Rattle.heesch_numbers.specs.OwnerCounts.{IsHoldersBound}
use Rattle.heesch_numbers.proofs.Counting.{found}
use Rattle.heesch_numbers.proofs.Rooms.{size_pieces, size_map}
use Rattle.heesch_pairwise.specs.Later.{later_of}
use Rattle.heesch_pairwise.specs.Pairs.{pairs_of, pair_counts, HavePair, HasLater}
use Rattle.heesch_pairwise.proofs.LaterLists.{Entry, holder_member, later_member, member_later}

-- the clause of two variables
abbrev pub pair : ℕ → ℕ → List Lit
pair n m = literals.minus n ∷ literals.minus m ∷ []

module _ (vars : List Variable) where
  abbrev entries : List Entry
  entries = enumerate_from 1 vars

  -- ---- the clauses of a variable

  module _ (n : ℕ) (x : Variable) (number : IsNumbered vars n x) where
    abbrev test : Entry → Bool
    test y = nat_lt n y.0 && meet x.tile y.1.tile

    pairs_from : (ys : List Entry) → ((y : Entry) → Contains ys y → Contains entries y × (test y ≡ true)) → map (λ (v : Entry). clause_of literals (λ (z : Entry). is_numbered n z || is_numbered v.0 z) no_variable vars) ys ≡ map (pair n) (map (λ (y : Entry). y.0) ys)
    pairs_from [] h = refl
    pairs_from (y ∷ ys) h =
        let p = h y (member_here y ys) in
        let here = sym (exclusion_is vars (n, x) y (entry_made vars n x number) p.0 (ltb-true n y.0 (and_parts (nat_lt n y.0) (meet x.tile y.1.tile) p.1).0)) in
        let rest = pairs_from ys (λ z m. h z (member_there y ys z m)) in
        λ i. here i ∷ rest i

    pub apart_pairs : apart_at vars (n, x) ≡ map (pair n) (later_of vars (n, x))
    apart_pairs = pairs_from (filter test entries) (λ y m. filter_member test entries y m)

    pub pair_at : (i : ℕ) → i < length (later_of vars (n, x)) → get_or (apart_at vars (n, x)) i [] ≡ pair n (get_or (later_of vars (n, x)) i 0)
    pair_at i l = ap (λ es. get_or es i []) apart_pairs ∙ get_or-map (pair n) (later_of vars (n, x)) i 0 [] l

    twos : (ms : List ℕ) → sum_by (λ m. length (pair n m)) ms ≡ 2 * length ms
    twos [] = refl
    twos (m ∷ ms) = let s = sum_by-cons (λ k. length (pair n k)) m ms in let rest = twos ms in omega arith

    -- each has two literals
    pub apart_size : formula_size (apart_at vars (n, x)) ≡ 2 * length (apart_at vars (n, x))
    apart_size =
        let size = ap formula_size apart_pairs ∙ size_map (pair n) (later_of vars (n, x)) ∙ twos (later_of vars (n, x)) in
        let long = ap length apart_pairs ∙ length-map (later_of vars (n, x)) (pair n) in
        omega arith

  pub apart_length : (x : Entry) → length (apart_at vars x) ≡ length (later_of vars x)
  apart_length x =
      let test = λ (y : Entry). nat_lt x.0 y.0 && meet x.1.tile y.1.tile in
      length-map (filter test entries) (λ (v : Entry). clause_of literals (λ (z : Entry). is_numbered x.0 z || is_numbered v.0 z) no_variable vars)
      ∙ sym (length-map (filter test entries) (λ (y : Entry). y.0))

  -- ---- all clauses

  abbrev pub size_at : Entry → ℕ
  size_at x = formula_size (apart_at vars x)

  pub pairs_size : formula_size (pairs_of vars) ≡ sum_by size_at entries
  pairs_size = size_pieces (apart_at vars) entries

  pub pairs_form : AreClauses (length vars) (pairs_of vars)
  pairs_form =
      All-from_members (IsClause (length vars)) (pairs_of vars) (λ e m.
      let r = flat_map_member (apart_at vars) entries e m in
      let test = λ (y : Entry). nat_lt r.0.0 y.0 && meet r.0.1.tile y.1.tile in
      let s = map_member (λ (v : Entry). clause_of literals (λ (z : Entry). is_numbered r.0.0 z || is_numbered v.0 z) no_variable vars) (filter test entries) e r.2 in
      subst (IsClause (length vars)) s.2 (clause_form vars (λ (z : Entry). is_numbered r.0.0 z || is_numbered s.0.0 z) no_variable))

  -- the clause is that of a variable and a later one
  pub record IsPair (e : List Lit) : Type 0 where
    pub first : ℕ
    pub variable : Variable
    pub numbered : IsNumbered vars first variable
    pub second : ℕ
    pub inside : Contains (later_of vars (first, variable)) second
    pub is : e ≡ pair first second

  pub pair_member : (e : List Lit) → Contains (pairs_of vars) e → IsPair e
  pair_member e m =
      let r = flat_map_member (apart_at vars) entries e m in
      let number : IsNumbered vars r.0.0 r.0.1 = entry_at vars 1 r.0 r.1 in
      let s = map_member (pair r.0.0) (later_of vars r.0) e (subst (λ es. Contains es e) (apart_pairs r.0.0 r.0.1 number) r.2) in
      record { first = r.0.0; variable = r.0.1; numbered = number; second = s.0; inside = s.1; is = sym s.2 }

  pub met_pair : (n m : ℕ) (x y : Variable) → IsNumbered vars n x → IsNumbered vars m y → n < m → meet x.tile y.tile ≡ true → HavePair vars n m
  met_pair n m x y at_n at_m less met =
      member_flat_map (apart_at vars) entries (n, x) (pair n m) (entry_made vars n x at_n)
      (subst (λ es. Contains es (pair n m)) (sym (apart_pairs n x at_n)) (member_map (pair n) (later_of vars (n, x)) m (member_later vars n x m y at_m less met)))

  same_variable : (n m : ℕ) (x y : Variable) → IsNumbered vars n x → IsNumbered vars m y → n ≡ m → x ≡ y
  same_variable n m x y at_n at_m e = entry_same vars (n, x) (m, y) (entry_made vars n x at_n) (entry_made vars m y at_m) e

  pub pair_met : (n m : ℕ) (x y : Variable) → IsNumbered vars n x → IsNumbered vars m y → HavePair vars n m → (n < m) × (meet x.tile y.tile ≡ true)
  pair_met n m x y at_n at_m have =
      let f = pair_member (pair n m) have in
      let one : n ≡ f.first = ap (λ (e : List Lit). (get_or e 0 (literals.minus 0)).var) f.is in
      let two : m ≡ f.second = ap (λ (e : List Lit). (get_or e 1 (literals.minus 0)).var) f.is in
      let later = later_member vars f.first f.variable f.second f.inside in
      let same_x : x ≡ f.variable = same_variable n f.first x f.variable at_n f.numbered one in
      let same_y : y ≡ later.0 = same_variable m f.second y later.0 at_m later.1 two in
      let less = later.2 in (
        omega (arith, one, two, less),
        (λ i. meet (same_x i).tile (same_y i).tile) ∙ later.3,
      )

  -- ---- the clause of a place

  abbrev pub variable_at : ℕ → Variable
  variable_at part = get_or vars (part + 1 - 1) no_entry.1

  pub number_of : (part : ℕ) → part < length vars → IsNumbered vars (part + 1) (variable_at part)
  number_of part l = some_at vars (part + 1) (omega arith) (omega arith)

  -- it is that of the part's variable, and the later one at the rest
  pub record IsAt (place part rest : ℕ) : Type 0 where
    pub in_vars : part < length vars
    pub in_later : rest < length (later_of vars (part + 1, variable_at part))
    pub is : get_or (pairs_of vars) place [] ≡ pair (part + 1) (get_or (later_of vars (part + 1, variable_at part)) rest 0)

  pub clause_at : (place part rest : ℕ) → FallsIn (pair_counts vars) place part rest → IsAt place part rest
  clause_at place part rest falls =
      let f = found (apart_at vars) entries place part rest no_entry [] falls in
      let long = length-enumerate_from 1 vars in
      let inside = f.0 in
      let l : part < length vars = omega (arith, long, inside) in
      let read = entry_read vars part l in
      let fits : rest < length (apart_at vars (part + 1, variable_at part)) = subst (λ x. rest < length (apart_at vars x)) read f.1 in
      let same = apart_length (part + 1, variable_at part) in
      let less : rest < length (later_of vars (part + 1, variable_at part)) = omega (arith, fits, same) in
      record {
        in_vars = l;
        in_later = less;
        is = f.2 ∙ ap (λ x. get_or (apart_at vars x) rest []) read ∙ pair_at (part + 1) (variable_at part) (number_of part l) rest less;
      }

  pub later_at_same : (part : ℕ) (x : Variable) → part < length vars → IsNumbered vars (part + 1) x → later_of vars (part + 1, variable_at part) ≡ later_of vars (part + 1, x)
  later_at_same part x l number = ap (λ v. later_of vars (part + 1, v)) (same_variable (part + 1) (part + 1) (variable_at part) x (number_of part l) number refl)

  -- ---- one variable more

  module _ (i : ℕ) (less : i < length vars) where
    entry_within : i < length entries
    entry_within = let long = length-enumerate_from 1 vars in omega (arith, long, less)

    here : get_or entries i no_entry ≡ (i + 1, variable_at i)
    here = entry_read vars i less

    pub counts_more : map (λ x. length (apart_at vars x)) (take (i + 1) entries) ≡ map (λ x. length (apart_at vars x)) (take i entries) ++ length (apart_at vars (i + 1, variable_at i)) ∷ []
    counts_more =
        ap (map (λ x. length (apart_at vars x))) (take_more entries i no_entry entry_within)
        ∙ map-append (λ x. length (apart_at vars x)) (take i entries) (get_or entries i no_entry ∷ [])
        ∙ ap (λ x. map (λ x. length (apart_at vars x)) (take i entries) ++ length (apart_at vars x) ∷ []) here

    size_here : size_at (get_or entries i no_entry) ≡ 2 * length (apart_at vars (i + 1, variable_at i))
    size_here = ap size_at here ∙ apart_size (i + 1) (variable_at i) (number_of i less)

    pub sizes_more : sum_by size_at (take (i + 1) entries) ≡ sum_by size_at (take i entries) + 2 * length (apart_at vars (i + 1, variable_at i))
    sizes_more = let s = sum_by_more size_at entries i no_entry entry_within in let one = size_here in omega arith

    pub sizes_within : sum_by size_at (take i entries) + 2 * length (apart_at vars (i + 1, variable_at i)) ≤ formula_size (pairs_of vars)
    sizes_within = let s = sum_by_more_le size_at entries i no_entry entry_within in let one = size_here in let all = pairs_size in omega arith

  pub counts_whole : (i : ℕ) → length vars ≤ i → map (λ x. length (apart_at vars x)) (take i entries) ≡ pair_counts vars
  counts_whole i l = let long = length-enumerate_from 1 vars in ap (map (λ x. length (apart_at vars x))) (take_all i entries (omega (arith, long, l)))

  pub sizes_whole : (i : ℕ) → length vars ≤ i → sum_by size_at (take i entries) ≡ formula_size (pairs_of vars)
  sizes_whole i l = let long = length-enumerate_from 1 vars in ap (sum_by size_at) (take_all i entries (omega (arith, long, l))) ∙ sym pairs_size

  -- ---- the most variables that have one cell

  -- no cell of the first so many variables has more holders
  abbrev pub HaveAtMost : ℕ → ℕ → Type 0
  HaveAtMost most i = (n : ℕ) (x : Variable) → IsNumbered vars n x → n ≤ i → All (λ c. length (holders vars c) ≤ most) x.tile

  pub none_has : (most : ℕ) → HaveAtMost most 0
  none_has most n x number le = let low = number.0 in absurd (omega arith)

  pub one_more_has : (i old new : ℕ) → old ≤ new → HaveAtMost old i → ((x : Variable) → IsNumbered vars (i + 1) x → All (λ c. length (holders vars c) ≤ new) x.tile) → HaveAtMost new (i + 1)
  one_more_has i old new le before one n x number high =
      elim (cases_lt i n) [
        | inl behind ↦ let e : n ≡ i + 1 = omega arith in one x (subst (λ k. IsNumbered vars k x) e number)
        | inr among ↦ All-weaker (λ c. length (holders vars c) ≤ old) (λ c. length (holders vars c) ≤ new) (λ c h. omega (arith, h, le)) x.tile (before n x number among)
      ]

  pub most_of_all : (most i : ℕ) → length vars ≤ i → HaveAtMost most i → IsHoldersBound vars most
  most_of_all most i whole each = record {
    each = λ c. elim (cases_lt 0 (length (holders vars c))) [
      | inl some ↦
          let n = get_or (holders vars c) 0 0 in
          let y = holder_member vars c n (Contains-get_or (holders vars c) 0 0 some) in
          let high = (entry_range vars (n, y.0) (entry_made vars n y.0 y.1)).1 in
          All-contains (λ c. length (holders vars c) ≤ most) y.0.tile c (each n y.0 y.1 (omega (arith, high, whole))) (has-true y.0.tile c y.2)
      | inr none ↦ omega (arith, none)
    ];
  }

  -- ---- when a clause contains one

  module _ (clause : List Lit) where
    new_where : ((n : ℕ) → Contains clause (literals.minus n) → ¬ HasLater vars n clause) → IsNew (pairs_of vars) clause
    new_where none =
        All-from_members (λ e. ¬ IsWithin e clause) (pairs_of vars) (λ e m within.
        let f = pair_member e m in
        let both : IsWithin (pair f.first f.second) clause = subst (λ p. IsWithin p clause) f.is within in
        none f.first (both 0 (literals.minus 0) (omega arith)) (record { other = f.second; inside = both 1 (literals.minus 0) (omega arith); is_one = subst (Contains (pairs_of vars)) f.is m }))

    -- where no negated variable has one with a later one
    pub new_from : ((k : ℕ) (d : Lit) → k < length clause → (get_or clause k d).positive ≡ false → ¬ HasLater vars (get_or clause k d).var clause) → IsNew (pairs_of vars) clause
    new_from none = new_where (λ n m has. none m.0 (literals.minus n) m.1 (ap (λ (z : Lit). z.positive) m.2) (subst (λ (z : Lit). HasLater vars z.var clause) (sym m.2) has))

    -- where one has
    pub old_where : (l : Lit) → Contains clause l → l.positive ≡ false → HasLater vars l.var clause → ¬ IsNew (pairs_of vars) clause
    old_where l inside negated has new =
        let n = l.var in
        let is : l ≡ literals.minus n = λ i. record { var = n; positive = negated i } in
        All-contains (λ e. ¬ IsWithin e clause) (pairs_of vars) (pair n has.other) new has.is_one
        (All-cons (Contains clause) (literals.minus n) (literals.minus has.other ∷ []) (subst (Contains clause) is inside) (All-cons (Contains clause) (literals.minus has.other) [] has.inside (All-nil (Contains clause))))
