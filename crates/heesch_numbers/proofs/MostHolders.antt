-- The most variables that have one cell, found by the cells that several have.
use Rattle.std.proofs.Common.{◌≡◌, sym, subst, ℕ, ◌+◌, ◌<◌, ◌≤◌, List, [], ◌∷◌, length, get_or, take, All, inl, inr, arith}
use Rattle.std.specs.Prelude.{max}
use Rattle.std.proofs.lemmas.Bool.{cases_lt}
use Rattle.std.proofs.lemmas.List.{take_more}
use Rattle.std.proofs.lemmas.List.Elements.{All-append, All-cons, All-contains, All-nil, All-weaker}
use Rattle.heesch_grid.specs.declared.Cell.{Cell}
use Rattle.heesch_grid.specs.Cells.{cell_before}
use Rattle.heesch_grid.specs.Listing.{ListsExactly}
use Rattle.heesch_grid.specs.CoronaFormula.{Variable}
use Rattle.heesch_grid.specs.OwnerFormula.{holders, IsOwned}
use Rattle.heesch_numbers.specs.OwnerCounts.{IsHoldersBound}

module _ (vars : List Variable) (cells : List Cell) where
  abbrev HaveAtMost : ℕ → List Cell → Type 0
  HaveAtMost most cs = All (λ c. length (holders vars c) ≤ most) cs

  -- the holders of one cell more
  pub most_more : (i : ℕ) (d : Cell) → i < length cells → (old new here : ℕ) → new ≡ max old here → here ≡ length (holders vars (get_or cells i d)) → HaveAtMost old (take i cells) → HaveAtMost new (take (i + 1) cells)
  most_more i d less old new here is count all =
      subst (HaveAtMost new) (sym (take_more cells i d less))
      (All-append (λ c. length (holders vars c) ≤ new) (take i cells) (get_or cells i d ∷ [])
      (All-weaker (λ c. length (holders vars c) ≤ old) (λ c. length (holders vars c) ≤ new) (λ c h. omega (arith, h, is)) (take i cells) all)
      (All-cons (λ c. length (holders vars c) ≤ new) (get_or cells i d) [] (omega (arith, is, count)) (All-nil (λ c. length (holders vars c) ≤ new))))

  -- any other cell has one holder at most
  pub most_of_all : ListsExactly cell_before (IsOwned vars) cells → (most : ℕ) → 1 ≤ most → HaveAtMost most cells → IsHoldersBound vars most
  most_of_all listed most some all = record {
    each = λ c. elim (cases_lt 1 (length (holders vars c))) [
      | inl two ↦ All-contains (λ c. length (holders vars c) ≤ most) cells c all (listed.every c (omega (arith, two)))
      | inr few ↦ omega (arith, few, some)
    ];
  }
