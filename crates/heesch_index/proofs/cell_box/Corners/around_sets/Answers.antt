use Rattle.std.proofs.Common.{◌≡◌, ◌∙◌, ◌<◌, ℕ, [], true, get_or, length, List, sym, ap, subst, inl, inr, arith, true≢false}
use Rattle.std.proofs.lemmas.Bool.{cases_lt}
use Rattle.std.proofs.lemmas.List.{get_or_past}
use Rattle.heesch_grid.specs.declared.Cell.{Cell}
use Rattle.heesch_grid.specs.Cells.{has}
use Rattle.heesch_index.proofs.cell_box.Corners.around_sets.Goals as goal

pub loop-i-preserved : goal.loop-i-preserved
loop-i-preserved c k d less h =
    elim (cases_lt k c.loop-i.i) [
      | inl l ↦ c.with_all-corners.ensures.old d (c.loop-i.invariant k d l h)
      | inr l ↦
          let e : k ≡ c.loop-i.i = omega (arith, l, less) in
          c.with_all-corners.ensures.new d (subst (λ cells. has cells d ≡ true) (ap (λ n. get_or c.args.sets.now n []) e ∙ sym c.set.ensures) h)
    ]

-- no set past the last has a cell
below : (sets : List (List Cell)) (k : ℕ) (d : Cell) → has (get_or sets k []) d ≡ true → k < length sets
below sets k d h =
    elim (cases_lt k (length sets)) [
      | inl l ↦ l
      | inr l ↦ absurd (true≢false (sym h ∙ ap (λ cells. has cells d) (get_or_past sets k [] l)))
    ]

pub returns : goal.returns
returns c k d h =
    let l = below c.args.sets.now k d h in
    c.loop-i.invariant k d (omega (arith, l, c.len-i-end.ensures, c.loop-i-test.false)) h
