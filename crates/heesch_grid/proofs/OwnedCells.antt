-- Each universe has a list of its owned cells, so the second formula exists beside the first; and what the number of binary digits is.
use Rattle.std.proofs.Common.{◌≡◌, sym, subst, ℕ, zero, suc, ◌+◌, ◌-◌, ◌^◌, ◌<◌, ◌≤◌, leb-true, List, [], ◌∷◌, filter, length, flat_map, Bool, false, cond, inl, inr, arith, Contains}
use Rattle.std.specs.Prelude.{nat_le}
use Rattle.std.specs.List.{enumerate_from, range_with_len}
use Rattle.std.proofs.lemmas.Bool.{cases_Bool, cases_order}
use Rattle.heesch_grid.specs.declared.Cell.{Cell}
use Rattle.heesch_grid.specs.Cells.{has}
use Rattle.heesch_grid.specs.CoronaFormula.{Variable}
use Rattle.heesch_grid.specs.OwnerFormula.{holders, digits}
use Rattle.heesch_grid.specs.Pairs.{has-true}
use Rattle.heesch_grid.proofs.ListFacts.{member_here, filter_member}
use Rattle.heesch_grid.proofs.WindowFacts.{map_member, member_flat_map}
use Rattle.heesch_grid.proofs.ClauseFacts.{entry_variable}
use Rattle.heesch_grid.proofs.SortFacts.{sorted}
use Rattle.heesch_grid.proofs.UniverseClauses.{Entry}
use Rattle.heesch_grid.proofs.OwnersToModel.{pow_rises, below_digits}

-- ---- the owned cells

abbrev is_owned : List Variable → Cell → Bool
is_owned vars c = nat_le 2 (length (holders vars c))

abbrev tile_cells : List Variable → List Cell
tile_cells vars = flat_map (λ (v : Variable). v.tile) vars

abbrev pub owned_cells : List Variable → List Cell
owned_cells vars = sorted (filter (is_owned vars) (tile_cells vars))

-- a cell that a variable has is in its tile
held : (vars : List Variable) (c : Cell) (ns : List ℕ) → ns ≡ holders vars c → 1 ≤ length ns → Contains (tile_cells vars) c
held vars c [] e l = absurd (omega arith)
held vars c (n ∷ ns) e l =
    let r = map_member (λ (x : Entry). x.0) (filter (λ (x : Entry). has x.1.tile c) (enumerate_from 1 vars)) n (subst (λ k. Contains k n) e (member_here n ns)) in
    let x : Entry = r.0 in
    let p = filter_member (λ (x : Entry). has x.1.tile c) (enumerate_from 1 vars) x r.1 in
    member_flat_map (λ (v : Variable). v.tile) vars x.1 c (entry_variable vars 1 x p.0) (has-true x.1.tile c p.1)

-- ---- binary digits

passes_below : (p : ℕ → Bool) (a n t : ℕ) → ((k : ℕ) → a + t ≤ k → p k ≡ false) → length (filter p (range_with_len a n)) ≤ t
passes_below p a zero t h = omega arith
passes_below p a (suc n) zero h =
    let rest : length (filter p (range_with_len (a + 1) n)) ≤ 0 = passes_below p (a + 1) n 0 (λ k l. h k (omega arith)) in
    subst (λ b. length (cond b (a ∷ filter p (range_with_len (a + 1) n)) (filter p (range_with_len (a + 1) n))) ≤ 0) (sym (h a (omega arith))) rest
passes_below p a (suc n) (suc t) h =
    let rest : length (filter p (range_with_len (a + 1) n)) ≤ t = passes_below p (a + 1) n t (λ k l. h k (omega arith)) in
    elim (cases_Bool (p a)) [
      | inl y ↦ subst (λ b. length (cond b (a ∷ filter p (range_with_len (a + 1) n)) (filter p (range_with_len (a + 1) n))) ≤ suc t) (sym y) (omega arith)
      | inr y ↦ subst (λ b. length (cond b (a ∷ filter p (range_with_len (a + 1) n)) (filter p (range_with_len (a + 1) n))) ≤ suc t) (sym y) (omega arith)
    ]

-- a number has t + 1 digits where it is from 2^t to below 2^(t + 1)
pub digits_are : (n t : ℕ) → 2 ^ t ≤ n → n < 2 ^ suc t → digits n ≡ suc t
digits_are n t low high =
    let most : digits n ≤ suc t = passes_below (λ k. nat_le (2 ^ k) n) 0 n (suc t) (λ k l. elim (cases_Bool (nat_le (2 ^ k) n)) [
      | inr f ↦ f
      | inl y ↦
          let up : 2 ^ suc t ≤ 2 ^ k = subst (λ m. 2 ^ suc t ≤ 2 ^ m) (omega arith) (pow_rises (k - suc t) (suc t)) in
          let in_n : 2 ^ k ≤ n = leb-true (2 ^ k) n y in
          absurd (omega arith)
    ]) in
    elim (cases_order (digits n) (suc t)) [
      | inl e ↦ e
      | inr o ↦ elim o [
        | inr more ↦ absurd (omega arith)
        | inl few ↦
            let own : n < 2 ^ digits n = below_digits n in
            let up : 2 ^ digits n ≤ 2 ^ t = subst (λ m. 2 ^ digits n ≤ 2 ^ m) (omega arith) (pow_rises (t - digits n) (digits n)) in
            absurd (omega arith)
      ]
    ]
