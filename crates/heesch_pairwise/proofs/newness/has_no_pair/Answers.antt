use Rattle.std.proofs.Common.{◌≡◌, ◌+◌, ◌<◌, ◌∙◌, ℕ, List, false, sym, refl, ap, subst, arith, get_or, length, inl, inr, true≢false}
use Rattle.std.proofs.lemmas.Bool.{cases_lt}
use Rattle.std.proofs.lemmas.List.{get_or_default}
use Rattle.std.proofs.lemmas.List.Elements.{Contains-get_or}
use Rattle.heesch_cnf.specs.declared.literal.Lit.{Lit}
use Rattle.heesch_pairwise.specs.Pairs.{HasLater}
use Rattle.heesch_pairwise.proofs.PairLists.{new_from, old_where}
use Rattle.heesch_pairwise.proofs.newness.has_no_pair.Goals as goal
use Rattle.heesch_pairwise.proofs.newness.has_no_pair.Goals.{else-not-lit-via-then-not-lit+else-has_later, else-not-lit-via-else-not-lit}

pub returns : goal.returns
returns g c =
    let vars = c.args.universe.now.vars in
    let clause = c.args.clause.now in
    let all = c.loop-lit-test.false in
    (λ _. new_from vars clause (λ k d l. c.loop-lit.invariant k d (omega (arith, l, all))), λ _. refl)

step : (P : Lit → Type 0) (xs : List Lit) (i : ℕ) (e : Lit) → i < length xs → ((k : ℕ) (d : Lit) → k < i → P (get_or xs k d)) → P (get_or xs i e) → (k : ℕ) (d : Lit) → k < i + 1 → P (get_or xs k d)
step P xs i e l before here k d m =
    elim (cases_lt k i) [
      | inl less ↦ before k d less
      | inr at ↦ let same : i ≡ k = omega arith in subst P (get_or_default xs i e d l ∙ ap (λ n. get_or xs n d) same) here
    ]

pub returns-then-has_later : goal.returns-then-has_later
returns-then-has_later g c =
    let vars = c.args.universe.now.vars in
    let clause = c.args.clause.now in
    let d : Lit = record { var = 0; positive = false } in
    let l : Lit = get_or clause c.loop-lit.lit-index d in
    (λ t. absurd (true≢false (sym t)), λ new. absurd (old_where vars clause l (Contains-get_or clause c.loop-lit.lit-index d c.loop-lit-test.true) c.if-not-lit.true (c.has_later.ensures.0 c.if-has_later.true) new))

pub loop-lit-preserved : goal.loop-lit-preserved
loop-lit-preserved g c =
    let vars = c.args.universe.now.vars in
    let clause = c.args.clause.now in
    let d : Lit = record { var = 0; positive = false } in
    let none = λ (x : Lit). x.positive ≡ false → ¬ HasLater vars x.var clause in
    elim c.else-not-lit.branch [
      | else-not-lit-via-then-not-lit+else-has_later w ↦
          step none clause c.loop-lit.lit-index d c.loop-lit-test.true c.loop-lit.invariant (λ negated has. true≢false (sym (w.has_later.ensures.1 has) ∙ w.if-has_later.false))
      | else-not-lit-via-else-not-lit w ↦
          step none clause c.loop-lit.lit-index d c.loop-lit-test.true c.loop-lit.invariant (λ negated has. true≢false (sym w.if-not-lit.false ∙ negated))
    ]
