-- The clauses of owner variables by their numbers.
use Rattle.std.proofs.Common.{◌≡◌, refl, sym, ap, subst, ◌∙◌, ℕ, suc, ◌+◌, ◌*◌, ◌<◌, ◌≤◌, List, [], ◌∷◌, ◌++◌, Bool, true, false, rules, filter, length, get_or, take, drop, All, Contains, inl, inr, arith}
use Rattle.std.specs.Prelude.{sum_by, nat_lt}
use Rattle.std.specs.List.{enumerate_from, range_with_len}
use Rattle.std.proofs.lemmas.Bool.{cases_order}
use Rattle.std.proofs.lemmas.Nat.{mul-add-lt}
use Rattle.std.proofs.lemmas.List.{get_or_default, length-append, length-map, get_or_append_left, get_or-append-add, at_drop_more, take-take}
use Rattle.std.proofs.lemmas.List.Elements.{Contains-append_cases, Contains-get_or, All-head, All-tail, All-get_or}
use Rattle.std.proofs.lemmas.List.FromFn.{get_or-map-range_with_len, length-map-range_with_len, get_or-enumerate_from, length-enumerate_from, length-range_with_len, get_or-range_with_len}
use Rattle.std.proofs.lemmas.List.Sums.{sum_by-cons, sum_by_more, sum_by-take-le, sum_by_more_le, length-filter, count_by-le-length}
use Rattle.heesch_cnf.specs.declared.literal.Lit.{Lit}
use Rattle.heesch_cnf.specs.Clauses.{IsClause, AreClauses}
use Rattle.heesch_grid.specs.declared.Cell.{Cell}
use Rattle.heesch_grid.specs.Cells.{origin, has}
use Rattle.heesch_grid.specs.Listing.{IsRising}
use Rattle.heesch_grid.specs.Clauses.{formula_size}
use Rattle.heesch_grid.specs.CoronaFormula.{Variable}
use Rattle.heesch_grid.specs.OwnerFormula.{holders, owner_count, rank_clauses, owner_clauses, signed, bit}
use Rattle.heesch_grid.proofs.ListFacts.{no_member, All-from_members}
use Rattle.heesch_grid.proofs.WindowFacts.{map_member, flat_map_member}
use Rattle.heesch_cert.specs.Literals.{literals}
use Rattle.heesch_encode.proofs.ClauseLists.{numbers_rising}
use Rattle.heesch_encode.proofs.Rising.{rising_at}
use Rattle.heesch_encode.proofs.Holders.{bit_clause, cell_clauses, total, owners_rest, holders_range}
use Rattle.heesch_numbers.specs.OwnerCounts.{clause_count, owners_of, vars_with}
use Rattle.heesch_numbers.proofs.EvenPieces.{length_even, at_even}

-- ---- the clauses of one cell

length_ranks : (start count : ℕ) (ranked : ℕ × ℕ) → length (rank_clauses literals start count ranked) ≡ count
length_ranks start count ranked = length-map-range_with_len (bit_clause start ranked) 0 count

-- the place of a member of numbered items
pub entry_place : (xs : List ℕ) (x : ℕ × ℕ) → Contains (enumerate_from 0 xs) x → (x.0 < length xs) × (get_or xs x.0 0 ≡ x.1)
entry_place xs x (k, l, e) =
    let long = length-enumerate_from 0 xs in
    let less : k < length xs = omega (arith, l, long) in
    let is : (0 + k, get_or xs k x.1) ≡ x = sym (get_or-enumerate_from 0 xs k x less) ∙ e in
    let at : 0 + k ≡ x.0 = ap (λ (p : ℕ × ℕ). p.0) is in
    let place : k ≡ x.0 = omega arith in
    (omega arith, ap (λ n. get_or xs n 0) (sym place) ∙ get_or_default xs k 0 x.1 less ∙ ap (λ (p : ℕ × ℕ). p.1) is)

range_member : (n t : ℕ) → Contains (range_with_len 0 n) t → t < n
range_member n t (k, l, e) =
    let long = length-range_with_len 0 n in
    let less : k < n = omega (arith, l, long) in
    let at = get_or-range_with_len 0 n k t less in
    omega (arith, at, e, less)

module _ (vars : List Variable) (start : ℕ) (c : Cell) where
  pub length_cell : length (cell_clauses vars start c) ≡ clause_count vars c
  length_cell =
      let long = length-enumerate_from 0 (holders vars c) in
      length_even (rank_clauses literals start (owner_count vars c)) (owner_count vars c) (length_ranks start (owner_count vars c)) (enumerate_from 0 (holders vars c)) ∙ ap (λ n. n * owner_count vars c) long

  -- the clause of a rank and a bit
  pub cell_at : (rank t : ℕ) → rank < length (holders vars c) → t < owner_count vars c → get_or (cell_clauses vars start c) (rank * owner_count vars c + t) [] ≡ bit_clause start (rank, get_or (holders vars c) rank 0) t
  cell_at rank t l m =
      let count = owner_count vars c in
      let long = length-enumerate_from 0 (holders vars c) in
      let from : 0 + rank ≡ rank = omega arith in
      let bit : 0 + t ≡ t = omega arith in
      at_even (rank_clauses literals start count) count (length_ranks start count) (enumerate_from 0 (holders vars c)) rank t (0, 0) [] (omega arith) m
      ∙ ap (λ (x : ℕ × ℕ). get_or (rank_clauses literals start count x) t []) (get_or-enumerate_from 0 (holders vars c) rank (0, 0) l ∙ (λ k. (from k, get_or (holders vars c) rank 0)))
      ∙ get_or-map-range_with_len (bit_clause start (rank, get_or (holders vars c) rank 0)) 0 count t t [] m bit

-- ---- the clauses of cells

abbrev pub before : List Variable → List Cell → ℕ → ℕ
before vars cells i = sum_by (clause_count vars) (take i cells)

pub length_owners : (vars : List Variable) (start : ℕ) (cells : List Cell) → length (owner_clauses literals vars start cells) ≡ sum_by (clause_count vars) cells
length_owners vars start [] = refl
length_owners vars start (c ∷ cells) =
    let s = sum_by-cons (clause_count vars) c cells in
    let one = length_cell vars start c in
    let rest = length_owners vars (start + owner_count vars c) cells in
    let both = length-append (cell_clauses vars start c) (owner_clauses literals vars (start + owner_count vars c) cells) in
    omega arith

module _ (vars : List Variable) (start : ℕ) (cells : List Cell) (i : ℕ) where
  abbrev pub cell_of : Cell
  cell_of = get_or cells i origin

  abbrev pub first_owner : ℕ
  first_owner = start + total vars (take i cells)

  -- a place in the clauses of a cell
  pub owners_at : (r : ℕ) → i < length cells → r < clause_count vars cell_of → get_or (owner_clauses literals vars start cells) (before vars cells i + r) [] ≡ get_or (cell_clauses vars first_owner cell_of) r []
  owners_at r l m =
      let front = owner_clauses literals vars start (take i cells) in
      let back = owner_clauses literals vars first_owner (drop i cells) in
      let rest = owner_clauses literals vars (first_owner + owner_count vars cell_of) (drop (i + 1) cells) in
      let split : back ≡ cell_clauses vars first_owner cell_of ++ rest = at_drop_more (owner_clauses literals vars first_owner) cells i origin l in
      let long = length_owners vars start (take i cells) in
      let one = length_cell vars first_owner cell_of in
      ap (λ zs. get_or zs (before vars cells i + r) []) (owners_rest vars start cells i)
      ∙ ap (λ n. get_or (front ++ back) (n + r) []) (sym long)
      ∙ get_or-append-add front back r []
      ∙ ap (λ zs. get_or zs r []) split
      ∙ get_or_append_left (cell_clauses vars first_owner cell_of) rest [] r (omega arith)

  -- the clause of a cell, a rank and a bit
  pub owner_at : (rank t : ℕ) → i < length cells → rank < length (holders vars cell_of) → t < owner_count vars cell_of → get_or (owner_clauses literals vars start cells) (before vars cells i + (rank * owner_count vars cell_of + t)) [] ≡ bit_clause first_owner (rank, get_or (holders vars cell_of) rank 0) t
  owner_at rank t l m n =
      let inside = mul-add-lt rank (owner_count vars cell_of) t (length (holders vars cell_of)) m n in
      owners_at (rank * owner_count vars cell_of + t) l (omega arith) ∙ cell_at vars first_owner cell_of rank t m n

-- ---- which clauses they are

-- a negated variable, and a later one or its negation
pair_form : (most n m : ℕ) (positive : Bool) → 1 ≤ n → n < m → m ≤ most → IsClause most (literals.minus n ∷ signed literals positive m ∷ [])
pair_form most n m true a b c = record { in_range = search rules; rising = search rules }
pair_form most n m false a b c = record { in_range = search rules; rising = search rules }

-- the clause is that of a cell, a rank and a bit
pub record IsOwnerClause (vars : List Variable) (start : ℕ) (cells : List Cell) (e : List Lit) : Type 0 where
  pub cell : ℕ
  pub rank : ℕ
  pub bit : ℕ
  pub in_cells : cell < length cells
  pub in_holders : rank < length (holders vars (get_or cells cell origin))
  pub in_bits : bit < owner_count vars (get_or cells cell origin)
  pub is : e ≡ bit_clause (first_owner vars start cells cell) (rank, get_or (holders vars (get_or cells cell origin)) rank 0) bit

pub owner_member : (vars : List Variable) (start : ℕ) (cells : List Cell) (e : List Lit) → Contains (owner_clauses literals vars start cells) e → IsOwnerClause vars start cells e
owner_member vars start [] e m = absurd (no_member e m)
owner_member vars start (c ∷ cells) e m =
    elim (Contains-append_cases (cell_clauses vars start c) (owner_clauses literals vars (start + owner_count vars c) cells) e m) [
      | inl here ↦
          let r = flat_map_member (rank_clauses literals start (owner_count vars c)) (enumerate_from 0 (holders vars c)) e here in
          let place = entry_place (holders vars c) r.0 r.1 in
          let b = map_member (bit_clause start r.0) (range_with_len 0 (owner_count vars c)) e r.2 in
          let at = range_member (owner_count vars c) b.0 b.1 in
          let first : start ≡ start + 0 = omega arith in
          record {
            cell = 0;
            rank = r.0.0;
            bit = b.0;
            in_cells = omega arith;
            in_holders = place.0;
            in_bits = at;
            is = sym b.2 ∙ ap (λ n. bit_clause start (r.0.0, n) b.0) (sym place.1) ∙ ap (λ s. bit_clause s (r.0.0, get_or (holders vars c) r.0.0 0) b.0) first;
          }
      | inr there ↦
          let f = owner_member vars (start + owner_count vars c) cells e there in
          let s = sum_by-cons (owner_count vars) c (take f.cell cells) in
          let first : (start + owner_count vars c) + total vars (take f.cell cells) ≡ start + total vars (c ∷ take f.cell cells) = omega arith in
          let inside = f.in_cells in
          record {
            cell = suc f.cell;
            rank = f.rank;
            bit = f.bit;
            in_cells = omega arith;
            in_holders = f.in_holders;
            in_bits = f.in_bits;
            is = f.is ∙ ap (λ s. bit_clause s (f.rank, get_or (holders vars (get_or cells f.cell origin)) f.rank 0) f.bit) first;
          }
    ]

-- the converse
pub member_owner : (vars : List Variable) (start : ℕ) (cells : List Cell) (e : List Lit) → IsOwnerClause vars start cells e → Contains (owner_clauses literals vars start cells) e
member_owner vars start cells e f =
    let c = get_or cells f.cell origin in
    let r : ℕ = f.rank * owner_count vars c + f.bit in
    let inside = mul-add-lt f.rank (owner_count vars c) f.bit (length (holders vars c)) f.in_holders f.in_bits in
    let long = length_owners vars start cells in
    let whole = sum_by_more_le (clause_count vars) cells f.cell origin f.in_cells in
    subst (Contains (owner_clauses literals vars start cells)) (owner_at vars start cells f.cell f.rank f.bit f.in_cells f.in_holders f.in_bits ∙ sym f.is)
    (Contains-get_or (owner_clauses literals vars start cells) (before vars cells f.cell + r) [] (omega arith))

-- ---- what they are like

module _ (vars : List Variable) (cells : List Cell) where
  all_owner : (P : List Lit → Type 0) → ((e : List Lit) → IsOwnerClause vars (length vars + 1) cells e → P e) → All P (owners_of vars cells)
  all_owner P f = All-from_members P (owners_of vars cells) (λ e m. f e (owner_member vars (length vars + 1) cells e m))

  -- each has two literals
  pub owners_size : formula_size (owners_of vars cells) ≡ 2 * sum_by (clause_count vars) cells
  owners_size = twos (owners_of vars cells) (all_owner (λ e. length e ≡ 2) (λ e f. ap length f.is)) ∙ ap (λ n. 2 * n) (length_owners vars (length vars + 1) cells)
    where
      twos : (xs : List (List Lit)) → All (λ e. length e ≡ 2) xs → formula_size xs ≡ 2 * length xs
      twos [] a = refl
      twos (x ∷ xs) a =
          let s = sum_by-cons (λ (e : List Lit). length e) x xs in
          let one : length x ≡ 2 = All-head (λ (e : List Lit). length e ≡ 2) x xs a in
          let rest = twos xs (All-tail (λ (e : List Lit). length e ≡ 2) x xs a) in
          omega arith

  -- the variable of the one is the universe's, and that of the other an owner variable
  pub owners_form : AreClauses (vars_with vars cells) (owners_of vars cells)
  owners_form = all_owner (IsClause (vars_with vars cells)) (λ e f.
      let c = get_or cells f.cell origin in
      let range = All-get_or (λ n. (1 ≤ n) × (n < length vars + 1)) (holders vars c) f.rank 0 f.in_holders (holders_range vars c) in
      let low = range.0 in
      let high = range.1 in
      let more = sum_by_more_le (owner_count vars) cells f.cell origin f.in_cells in
      let bits = f.in_bits in
      subst (IsClause (vars_with vars cells)) (sym f.is) (pair_form (vars_with vars cells) (get_or (holders vars c) f.rank 0) (first_owner vars (length vars + 1) cells f.cell + f.bit) (bit f.bit f.rank) low (omega arith) (omega arith)))

-- ---- which pairs there are

pub holders_rising : (vars : List Variable) (c : Cell) → IsRising nat_lt (holders vars c)
holders_rising vars c = numbers_rising vars (λ (x : ℕ × Variable). has x.1.tile c)

pub holders_few : (vars : List Variable) (c : Cell) → length (holders vars c) ≤ length vars
holders_few vars c =
    let p = λ (x : ℕ × Variable). has x.1.tile c in
    let named = length-map (filter p (enumerate_from 1 vars)) (λ (x : ℕ × Variable). x.0) in
    let kept = length-filter p (enumerate_from 1 vars) in
    let few = count_by-le-length p (enumerate_from 1 vars) in
    let long = length-enumerate_from 1 vars in
    omega arith

-- a place in one part alone
module _ {X : Type 0} (f : X → ℕ) (xs : List X) (d : X) where
  later : (i j s t : ℕ) → i < j → j < length xs → s < f (get_or xs i d) → sum_by f (take i xs) + s ≡ sum_by f (take j xs) + t → ⊥
  later i j s t l m n e =
      let more = sum_by_more f xs i d (omega arith) in
      let le = sum_by-take-le f (take j xs) (i + 1) in
      let within = ap (sum_by f) (take-take (i + 1) j xs (omega arith)) in
      omega arith

  pub one_place : (i j s t : ℕ) → i < length xs → j < length xs → s < f (get_or xs i d) → t < f (get_or xs j d) → sum_by f (take i xs) + s ≡ sum_by f (take j xs) + t → (i ≡ j) × (s ≡ t)
  one_place i j s t l m n o e =
      elim (cases_order i j) [
        | inl same ↦
            let sums = ap (λ k. sum_by f (take k xs)) same in
            (same, omega arith)
        | inr other ↦ elim other [ inl less ↦ absurd (later i j s t less m n e) | inr more ↦ absurd (later j i t s more l o (sym e)) ]
      ]

-- numbers that rise stand once
pub one_rank : (xs : List ℕ) → IsRising nat_lt xs → (i j : ℕ) → i < length xs → j < length xs → get_or xs i 0 ≡ get_or xs j 0 → i ≡ j
one_rank xs rising i j l m e =
    elim (cases_order i j) [
      | inl same ↦ same
      | inr other ↦ elim other [
        | inl less ↦ let h = rising_at xs rising i j 0 less m in absurd (omega arith)
        | inr more ↦ let h = rising_at xs rising j i 0 more l in absurd (omega arith)
      ]
    ]

pub signed_var : (positive : Bool) (n : ℕ) → (signed literals positive n).var ≡ n
signed_var true n = refl
signed_var false n = refl

pub signed_sign : (positive : Bool) (n : ℕ) → (signed literals positive n).positive ≡ positive
signed_sign true n = refl
signed_sign false n = refl

signed_is : (o : Lit) (positive : Bool) (n : ℕ) → n ≡ o.var → positive ≡ o.positive → signed literals positive n ≡ o
signed_is o true n e p = λ k. record { var = e k; positive = p k }
signed_is o false n e p = λ k. record { var = e k; positive = p k }

-- the owner variable is that of this cell and this bit
module _ (vars : List Variable) (cells : List Cell) (part t var : ℕ) (owner : Lit) (in_cells : part < length cells) (in_bits : t < owner_count vars (get_or cells part origin)) (at : total vars (take part cells) + t + (length vars + 1) ≡ owner.var) where
  abbrev pub pair : List Lit
  pair = literals.minus var ∷ owner ∷ []

  abbrev of : Cell
  of = get_or cells part origin

  pub pair_there : (rank : ℕ) → rank < length (holders vars of) → get_or (holders vars of) rank 0 ≡ var → bit t rank ≡ owner.positive → Contains (owners_of vars cells) pair
  pair_there rank l is sign =
      member_owner vars (length vars + 1) cells pair (record {
        cell = part;
        rank = rank;
        bit = t;
        in_cells = in_cells;
        in_holders = l;
        in_bits = in_bits;
        is = let back = signed_is owner (bit t rank) (first_owner vars (length vars + 1) cells part + t) (omega arith) sign in sym (λ k. literals.minus (is k) ∷ back k ∷ []);
      })

  -- where the pair is one of the clauses
  pub record IsPair : Type 0 where
    pub rank : ℕ
    pub in_holders : rank < length (holders vars of)
    pub number : get_or (holders vars of) rank 0 ≡ var
    pub sign : bit t rank ≡ owner.positive

  pub pair_found : Contains (owners_of vars cells) pair → IsPair
  pair_found m =
      let f = owner_member vars (length vars + 1) cells pair m in
      let second : owner ≡ signed literals (bit f.bit f.rank) (first_owner vars (length vars + 1) cells f.cell + f.bit) = ap (λ (e : List Lit). get_or e 1 owner) f.is in
      let first : var ≡ get_or (holders vars (get_or cells f.cell origin)) f.rank 0 = ap (λ (e : List Lit). (get_or e 0 owner).var) f.is in
      let place : owner.var ≡ first_owner vars (length vars + 1) cells f.cell + f.bit = ap (λ (l : Lit). l.var) second ∙ signed_var (bit f.bit f.rank) (first_owner vars (length vars + 1) cells f.cell + f.bit) in
      let one = one_place (owner_count vars) cells origin f.cell part f.bit t f.in_cells in_cells f.in_bits in_bits (omega arith) in
      let sign : owner.positive ≡ bit f.bit f.rank = ap (λ (l : Lit). l.positive) second ∙ signed_sign (bit f.bit f.rank) (first_owner vars (length vars + 1) cells f.cell + f.bit) in
      record {
        rank = f.rank;
        in_holders = subst (λ p. f.rank < length (holders vars (get_or cells p origin))) one.0 f.in_holders;
        number = ap (λ p. get_or (holders vars (get_or cells p origin)) f.rank 0) (sym one.0) ∙ sym first;
        sign = ap (λ b. bit b f.rank) (sym one.1) ∙ sym sign;
      }
