-- The search for two sets that meet.
use Rattle.std.proofs.Common.{◌≡◌, refl, sym, subst, ◌∙◌, ℕ, suc, ◌<◌, ◌≤◌, Bool, true, false, ◌||◌, Some, None, List, [], ◌∷◌, length, get_or, inl, inr, arith, true≢false, Contains}
use Rattle.std.specs.Prelude.{nat_lt}
use Rattle.std.proofs.lemmas.Bool.{cases_Bool}
use Rattle.std.proofs.lemmas.List.Elements.{Contains-get_or}
use Rattle.heesch_grid.specs.declared.Cell.{Cell}
use Rattle.heesch_grid.specs.Listing.{IsRising}
use Rattle.heesch_grid.specs.Cells.{has, meet, set_of}
use Rattle.heesch_index.specs.Covering.{numbers_with}
use Rattle.heesch_index.proofs.NumberFacts.{IsRising-numbers_with, numbers_with-range, has-numbers_with, Contains-numbers_with}
use Rattle.heesch_corona.specs.Searches.{IsNextMeeting}
use Rattle.heesch_corona.proofs.Members.{rising_at, number_at}

or_false : (a b : Bool) → (a || b) ≡ false → (a ≡ false) × (b ≡ false)
or_false true b h = absurd (true≢false h)
or_false false true h = absurd (true≢false h)
or_false false false h = (refl, refl)

one_cell : (c : Cell) (ys : List Cell) → meet (c ∷ []) ys ≡ has ys c
one_cell c ys = go (has ys c)
  where
    go : (b : Bool) → (b || false) ≡ b
    go true = refl
    go false = refl

-- the numbers of one cell, of which the first are not above
module _ (sets : List (List Cell)) (c : Cell) (number : ℕ) (ns : List ℕ) (e : ns ≡ numbers_with sets c) where
  not_before : (i : ℕ) → ((k : ℕ) → k < i → k < length ns → get_or ns k 0 ≤ number) → (bound : ℕ) → ((k : ℕ) → i ≤ k → k < length ns → bound ≤ get_or ns k 0) → (m : ℕ) → number < m → m < bound → meet (c ∷ []) (set_of sets m) ≡ false
  not_before i low bound high m l less = elim (cases_Bool (has (set_of sets m) c)) [
    | inl t ↦
        let k = number_at ns m (subst (λ xs. Contains xs m) (sym e) (Contains-numbers_with sets c m (omega (arith, l)) t)) in
        elim (cases_Bool (nat_lt k.0 i)) [
          | inl b ↦ absurd (let h = low k.0 (below k.0 i b) k.1 in let q = k.2 in omega (arith, h, q, l))
          | inr b ↦ absurd (let h = high k.0 (above k.0 i b) k.1 in let q = k.2 in omega (arith, h, q, less))
        ]
    | inr f ↦ one_cell c (set_of sets m) ∙ f
  ]
    where
      below : (m n : ℕ) → nat_lt m n ≡ true → m < n
      below m n h = grind arith

      above : (m n : ℕ) → nat_lt m n ≡ false → n ≤ m
      above m n h = grind arith

  pub next_found : (i : ℕ) → i < length ns → number < get_or ns i 0 → ((k : ℕ) → k < i → get_or ns k 0 ≤ number) → IsNextMeeting sets (c ∷ []) number (Some (get_or ns i 0))
  next_found i within above low =
      let n = get_or ns i 0 in
      let m = subst (λ xs. Contains xs (get_or ns i 0)) e (Contains-get_or ns i 0 within) in
      (above, (numbers_with-range sets c n m).1, one_cell c (set_of sets n) ∙ has-numbers_with sets c n m, not_before i (λ k l _. low k l) n (λ k l less. rest k l less))
    where
      rises : IsRising nat_lt ns
      rises = subst (IsRising nat_lt) (sym e) (IsRising-numbers_with sets c)

      rest : (k : ℕ) → i ≤ k → k < length ns → get_or ns i 0 ≤ get_or ns k 0
      rest k l less = elim (cases_Bool (nat_lt i k)) [
        | inl t ↦ let h = rising_at ns rises i k (below i k t) less in omega (arith, h)
        | inr f ↦ let h : i ≡ k = same i k l f in subst (λ j. get_or ns i 0 ≤ get_or ns j 0) h (omega arith)
      ]
        where
          below : (m n : ℕ) → nat_lt m n ≡ true → m < n
          below m n h = grind arith

          same : (m n : ℕ) → m ≤ n → nat_lt m n ≡ false → m ≡ n
          same m n l h = grind arith

  pub next_none : ((k : ℕ) → k < length ns → get_or ns k 0 ≤ number) → IsNextMeeting sets (c ∷ []) number None
  next_none low m l within = not_before (length ns) (λ k a b. low k b) (suc m) (λ k a b. absurd (omega (arith, a, b))) m l (omega arith)
