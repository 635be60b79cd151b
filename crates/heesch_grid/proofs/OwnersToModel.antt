-- A model of the second formula is one of the first.
use Rattle.std.proofs.Common.{◌≡◌, refl, sym, ap, subst, ◌∙◌, ℕ, zero, suc, ◌+◌, ◌-◌, ◌*◌, ◌/◌, ◌%◌, ◌^◌, ◌<◌, ◌≤◌, mod-lt, mod-eq_of_lt, ltb-true, eq-eqb, le-leb, ◌&&◌, List, [], ◌∷◌, ◌++◌, map, filter, length, flat_map, Bool, true, false, cond, ◌||◌, inl, inr, arith, Contains, true≢false}
use Rattle.std.specs.Prelude.{IsTrue, nat_lt, nat_le, ◌==◌, unwrap_or}
use Rattle.std.specs.List.{enumerate_from, range_with_len, slice_get}
use Rattle.std.proofs.lemmas.Nat.{pow_pos, pow-add, mod-pow-add}
use Rattle.std.proofs.lemmas.List.Elements.{All-contains, Contains-append_left, Contains-append_right}
use Rattle.std.proofs.lemmas.Bool.{cases_Bool, cases_order, not-true, or_cases, and_parts}
use Rattle.heesch_grid.specs.declared.Cell.{Cell}
use Rattle.heesch_grid.specs.Listing.{ListsExactly}
use Rattle.heesch_grid.specs.Cells.{cell_before, has, meet}
use Rattle.heesch_grid.specs.Clauses.{Literals, clause_holds, clause_of, Satisfies, no_variable, is_numbered}
use Rattle.heesch_grid.specs.CoronaFormula.{Variable, apart_clauses}
use Rattle.heesch_grid.specs.Pairs.{or-left, or-right}
use Rattle.heesch_grid.proofs.ListFacts.{member_cases, no_member, member_filter, filter_member, All-from_members}
use Rattle.heesch_grid.proofs.CellFacts.{has-is, meet-true}
use Rattle.heesch_grid.proofs.WindowFacts.{member_map, map_member, member_flat_map, flat_map_member, member_range}
use Rattle.heesch_grid.proofs.ClauseFacts.{entry_at, entry_of, holds_negated}
use Rattle.heesch_grid.specs.OwnerFormula.{holders, digits, bit, owner_count, signed, rank_clauses, owner_clauses}
use Rattle.heesch_grid.proofs.UniverseClauses.{Entry, entry_below}

-- ---- binary digits

one_bit : (a b : ℕ) → a < 2 → b < 2 → (a == 1) ≡ (b == 1) → a ≡ b
one_bit zero zero l k e = refl
one_bit zero (suc zero) l k e = absurd (true≢false (sym e))
one_bit (suc zero) zero l k e = absurd (true≢false e)
one_bit (suc zero) (suc zero) l k e = refl
one_bit (suc (suc a)) b l k e = absurd (omega arith)
one_bit zero (suc (suc b)) l k e = absurd (omega arith)
one_bit (suc zero) (suc (suc b)) l k e = absurd (omega arith)

mod_same : (d n m : ℕ) → ((t : ℕ) → t < d → bit t n ≡ bit t m) → n % 2 ^ d ≡ m % 2 ^ d
mod_same zero n m h = let p : n % 2 ^ 0 < 1 = mod-lt n (pow_pos 0) in let q : m % 2 ^ 0 < 1 = mod-lt m (pow_pos 0) in omega arith
mod_same (suc d) n m h =
    let rest : n % 2 ^ d ≡ m % 2 ^ d = mod_same d n m (λ t l. h t (omega arith)) in
    let top : n / 2 ^ d % 2 ≡ m / 2 ^ d % 2 = one_bit (n / 2 ^ d % 2) (m / 2 ^ d % 2) (mod-lt (n / 2 ^ d) (omega arith)) (mod-lt (m / 2 ^ d) (omega arith)) (h d (omega arith)) in
    let both : n % 2 ^ (1 + d) ≡ m % 2 ^ (1 + d) = mod-pow-add n 1 d ∙ (λ i. top i * 2 ^ d + rest i) ∙ sym (mod-pow-add m 1 d) in
    subst (λ k. n % 2 ^ k ≡ m % 2 ^ k) (omega arith) both

double : (d : ℕ) → 2 ^ suc d ≡ 2 * 2 ^ d
double d = subst (λ k. 2 ^ k ≡ 2 * 2 ^ d) (omega arith) (pow-add 2 1 d)

below_pow : (t : ℕ) → t < 2 ^ t
below_pow zero = pow_pos 0
below_pow (suc t) = let r : t < 2 ^ t = below_pow t in let d = double t in omega arith

pub pow_rises : (e t : ℕ) → 2 ^ t ≤ 2 ^ (e + t)
pow_rises zero t = subst (λ k. 2 ^ t ≤ 2 ^ k) (let e : t ≡ 0 + t = omega arith in e) (omega arith)
pow_rises (suc e) t =
    let r : 2 ^ t ≤ 2 ^ (e + t) = pow_rises e t in
    let d : 2 ^ suc (e + t) ≡ 2 * 2 ^ (e + t) = double (e + t) in
    let more : 2 ^ t ≤ 2 ^ suc (e + t) = omega arith in
    subst (λ k. 2 ^ t ≤ 2 ^ k) (let q : suc (e + t) ≡ suc e + t = omega arith in q) more

count_from : (p : ℕ → Bool) (a k n : ℕ) → k ≤ n → ((t : ℕ) → a ≤ t → t < a + k → p t ≡ true) → k ≤ length (filter p (range_with_len a n))
count_from p a zero n l h = omega arith
count_from p a (suc k) zero l h = absurd (omega arith)
count_from p a (suc k) (suc n) l h =
    let rest : k ≤ length (filter p (range_with_len (a + 1) n)) = count_from p (a + 1) k n (omega arith) (λ t low high. h t (omega arith) (omega arith)) in
    subst (λ b. suc k ≤ length (cond b (a ∷ filter p (range_with_len (a + 1) n)) (filter p (range_with_len (a + 1) n)))) (sym (h a (omega arith) (omega arith))) (omega arith)

-- a number is below the power of its digits
pub below_digits : (n : ℕ) → n < 2 ^ digits n
below_digits n =
    elim (cases_order n (2 ^ digits n)) [
      | inl e ↦ absurd (high (omega arith))
      | inr o ↦ elim o [ inl l ↦ l | inr g ↦ absurd (high (omega arith)) ]
    ]
  where
    power_low : (t : ℕ) → t ≤ digits n → 2 ^ t ≤ 2 ^ digits n
    power_low t l = subst (λ k. 2 ^ t ≤ 2 ^ k) (omega arith) (pow_rises (digits n - t) t)

    high : 2 ^ digits n ≤ n → ⊥
    high l =
        let own : digits n < 2 ^ digits n = below_pow (digits n) in
        let more : suc (digits n) ≤ digits n = count_from (λ t. nat_le (2 ^ t) n) 0 (suc (digits n)) n (omega arith) (λ t low up. le-leb (2 ^ t) n (let p : 2 ^ t ≤ 2 ^ digits n = power_low t (omega arith) in omega arith)) in
        omega arith

two_members : (ns : List ℕ) (a b : ℕ) → Contains ns a → Contains ns b → a < b → 2 ≤ length ns
two_members [] a b m k l = absurd (no_member a m)
two_members (n ∷ []) a b m k l =
    elim (member_cases n [] a m) [
      | inr x ↦ absurd (no_member a x)
      | inl e ↦ elim (member_cases n [] b k) [ inr x ↦ absurd (no_member b x) | inl f ↦ absurd (omega arith) ]
    ]
two_members (n ∷ o ∷ ns) a b m k l = omega arith

-- ---- the clauses of one cell

module _ {L : Type 0} (ls : Literals L) (vars : List Variable) (values : ℕ → Bool) where
  -- the owner variables of the cell are numbered from `start` on, and its clauses are true
  record CellHolds (c : Cell) : Type 0 where
    start : ℕ
    holds : (x : ℕ × ℕ) → Contains (enumerate_from 0 (holders vars c)) x → (t : ℕ) → t < owner_count vars c → clause_holds ls values (ls.minus x.1 ∷ signed ls (bit t x.0) (start + t) ∷ []) ≡ true

  cell_holds : (cells : List Cell) (start : ℕ) → Satisfies ls values (owner_clauses ls vars start cells) → (c : Cell) → Contains cells c → CellHolds c
  cell_holds [] start s c m = absurd (no_member c m)
  cell_holds (d ∷ cells) start s c m =
      let here : List (List L) = flat_map (rank_clauses ls start (owner_count vars d)) (enumerate_from 0 (holders vars d)) in
      let later : List (List L) = owner_clauses ls vars (start + owner_count vars d) cells in
      elim (member_cases d cells c m) [
        | inr h ↦ cell_holds cells (start + owner_count vars d) (All-from_members (λ k. IsTrue (clause_holds ls values k)) later (λ k n. All-contains (λ k. IsTrue (clause_holds ls values k)) (here ++ later) k s (Contains-append_right here later k n))) c h
        | inl e ↦ subst CellHolds e (record {
          start = start;
          holds = λ x n t l.
              let clause : List L = ls.minus x.1 ∷ signed ls (bit t x.0) (start + t) ∷ [] in
              All-contains (λ k. IsTrue (clause_holds ls values k)) (here ++ later) clause s
              (Contains-append_left here later clause
              (member_flat_map (rank_clauses ls start (owner_count vars d)) (enumerate_from 0 (holders vars d)) x clause n
              (member_map (λ t. ls.minus x.1 ∷ signed ls (bit t x.0) (start + t) ∷ []) (range_with_len 0 (owner_count vars d)) t (subst (λ k. Contains (range_with_len 0 (owner_count vars d)) k) (omega arith) (member_range (owner_count vars d) 0 t l)))));
        })
      ]

  signed_value : (b : Bool) (n : ℕ) → ls.holds values (signed ls b n) ≡ true → values n ≡ b
  signed_value true n e = sym (ls.plus_holds values n) ∙ e
  signed_value false n e = not-true (values n) (sym (ls.minus_holds values n) ∙ e)

  -- the bits of a chosen holder's rank are the values of the owner variables
  rank_bits : (c : Cell) (k : CellHolds c) (x : ℕ × ℕ) → Contains (enumerate_from 0 (holders vars c)) x → values x.1 ≡ true → (t : ℕ) → t < owner_count vars c → values (k.start + t) ≡ bit t x.0
  rank_bits c k x m u t l =
      elim (or_cases (ls.holds values (ls.minus x.1)) (ls.holds values (signed ls (bit t x.0) (k.start + t)) || false) (k.holds x m t l)) [
        | inl h ↦ absurd (true≢false (sym u ∙ not-true (values x.1) (sym (ls.minus_holds values x.1) ∙ h)))
        | inr h ↦ elim (or_cases (ls.holds values (signed ls (bit t x.0) (k.start + t))) false h) [
          | inl g ↦ signed_value (bit t x.0) (k.start + t) g
          | inr n ↦ absurd (true≢false (sym n))
        ]
      ]

  rank_low : (c : Cell) (x : ℕ × ℕ) → Contains (enumerate_from 0 (holders vars c)) x → x.0 < 2 ^ owner_count vars c
  rank_low c x m =
      let l : x.0 < 0 + length (holders vars c) = entry_below (holders vars c) 0 x m in
      let d : length (holders vars c) - 1 < 2 ^ owner_count vars c = below_digits (length (holders vars c) - 1) in
      omega arith

  -- two chosen holders of a cell are one
  one_holder : (c : Cell) → CellHolds c → (x y : ℕ × ℕ) → Contains (enumerate_from 0 (holders vars c)) x → Contains (enumerate_from 0 (holders vars c)) y → values x.1 ≡ true → values y.1 ≡ true → x.1 ≡ y.1
  one_holder c k x y m n u v =
      let d : ℕ = owner_count vars c in
      let same_mod : x.0 % 2 ^ d ≡ y.0 % 2 ^ d = mod_same d x.0 y.0 (λ t l. sym (rank_bits c k x m u t l) ∙ rank_bits c k y n v t l) in
      let same : x.0 ≡ y.0 = sym (mod-eq_of_lt (rank_low c x m)) ∙ same_mod ∙ mod-eq_of_lt (rank_low c y n) in
      ap (λ o. unwrap_or o x.1) (sym (entry_at (holders vars c) 0 x m).1 ∙ ap (λ k. slice_get (holders vars c) (k - 0)) same ∙ (entry_at (holders vars c) 0 y n).1)

  module _ (owned : List Cell) (are_owned : ListsExactly cell_before (λ c. 2 ≤ length (holders vars c)) owned) (start : ℕ) (satisfied : Satisfies ls values (owner_clauses ls vars start owned)) where
    abbrev both_numbers : ℕ → ℕ → Entry → Bool
    both_numbers n m x = is_numbered n x || is_numbered m x

    holder : (c : Cell) (u : Entry) → Contains (enumerate_from 1 vars) u → Contains u.1.tile c → Contains (holders vars c) u.0
    holder c u m i = member_map (λ (x : Entry). x.0) (filter (λ (x : Entry). has x.1.tile c) (enumerate_from 1 vars)) u (member_filter (λ (x : Entry). has x.1.tile c) (enumerate_from 1 vars) u m (has-is u.1.tile c i))

    not_both : (u v : Entry) → Contains (enumerate_from 1 vars) u → Contains (enumerate_from 1 vars) v → u.0 < v.0 → meet u.1.tile v.1.tile ≡ true → values u.0 ≡ true → values v.0 ≡ true → ⊥
    not_both u v mu mv less meets tu tv =
        let shared = meet-true u.1.tile v.1.tile meets in
        let c : Cell = shared.0 in
        let hu : Contains (holders vars c) u.0 = holder c u mu shared.1 in
        let hv : Contains (holders vars c) v.0 = holder c v mv shared.2 in
        let k : CellHolds c = cell_holds owned start satisfied c (are_owned.every c (two_members (holders vars c) u.0 v.0 hu hv less)) in
        let x = entry_of (holders vars c) 0 u.0 hu in
        let y = entry_of (holders vars c) 0 v.0 hv in
        let same : u.0 ≡ v.0 = one_holder c k (x.0, u.0) (y.0, v.0) x.1 y.1 tu tv in
        omega arith

    clause_true : (u v : Entry) → Contains (enumerate_from 1 vars) u → Contains (enumerate_from 1 vars) v → u.0 < v.0 → meet u.1.tile v.1.tile ≡ true → clause_holds ls values (clause_of ls (both_numbers u.0 v.0) no_variable vars) ≡ true
    clause_true u v mu mv less meets =
        elim (cases_Bool (values u.0)) [
          | inr f ↦ holds_negated ls values (both_numbers u.0 v.0) no_variable vars u mu (or-left (is_numbered u.0 u) (is_numbered v.0 u) (eq-eqb u.0 u.0 refl)) f
          | inl tu ↦ elim (cases_Bool (values v.0)) [
            | inr f ↦ holds_negated ls values (both_numbers u.0 v.0) no_variable vars v mv (or-right (is_numbered u.0 v) (is_numbered v.0 v) (eq-eqb v.0 v.0 refl)) f
            | inl tv ↦ absurd (not_both u v mu mv less meets tu tv)
          ]
        ]

    pub apart_satisfied : Satisfies ls values (apart_clauses ls vars)
    apart_satisfied =
        All-from_members (λ k. IsTrue (clause_holds ls values k)) (apart_clauses ls vars) (λ k m.
        let r = flat_map_member (λ (u : Entry). map (λ (v : Entry). clause_of ls (both_numbers u.0 v.0) no_variable vars) (filter (λ (v : Entry). nat_lt u.0 v.0 && meet u.1.tile v.1.tile) (enumerate_from 1 vars))) (enumerate_from 1 vars) k m in
        let u : Entry = r.0 in
        let s = map_member (λ (v : Entry). clause_of ls (both_numbers u.0 v.0) no_variable vars) (filter (λ (v : Entry). nat_lt u.0 v.0 && meet u.1.tile v.1.tile) (enumerate_from 1 vars)) k r.2 in
        let v : Entry = s.0 in
        let inside = filter_member (λ (v : Entry). nat_lt u.0 v.0 && meet u.1.tile v.1.tile) (enumerate_from 1 vars) v s.1 in
        let test = and_parts (nat_lt u.0 v.0) (meet u.1.tile v.1.tile) inside.1 in
        subst (λ c. clause_holds ls values c ≡ true) s.2 (clause_true u v r.1 inside.0 (ltb-true u.0 v.0 test.0) test.1))
