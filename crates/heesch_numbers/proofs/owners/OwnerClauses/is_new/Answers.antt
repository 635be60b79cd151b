use Rattle.std.proofs.Common.{◌≡◌, ◌+◌, ◌<◌, ℕ, List, false, refl, sym, ap, subst, ◌∙◌, arith, get_or, length, inl, inr, true≢false}
use Rattle.std.proofs.lemmas.Bool.{cases_lt}
use Rattle.std.proofs.lemmas.List.{get_or_default}
use Rattle.std.proofs.lemmas.List.Elements.{Contains-get_or}
use Rattle.heesch_cnf.specs.declared.literal.Lit.{Lit}
use Rattle.heesch_numbers.specs.OwnerCounts.{HasOneOf, owners_of}
use Rattle.heesch_numbers.proofs.OwnersNew.{new_where, old_where}
use Rattle.heesch_numbers.proofs.owners.OwnerClauses.is_new.Goals as goal
use Rattle.heesch_numbers.proofs.owners.OwnerClauses.is_new.Goals.{else-owner-count-via-then-owner-count+else-has_one_of, else-owner-count-via-else-owner-count}

step : (P : Lit → Type 0) (xs : List Lit) (i : ℕ) (e : Lit) → i < length xs → ((k : ℕ) (d : Lit) → k < i → P (get_or xs k d)) → P (get_or xs i e) → (k : ℕ) (d : Lit) → k < i + 1 → P (get_or xs k d)
step P xs i e l before here k d m =
    elim (cases_lt k i) [
      | inl less ↦ before k d less
      | inr at ↦ let same : i ≡ k = omega arith in subst P (get_or_default xs i e d l ∙ ap (λ n. get_or xs n d) same) here
    ]

pub returns-then-has_one_of : goal.returns-then-has_one_of
returns-then-has_one_of g c =
    let vars = c.args.universe.now.vars in
    let cells = c.args.self.now.cells.items in
    let clause = c.args.clause.now in
    let owner : Lit = get_or clause c.loop-owner.owner-index (record { var = 0; positive = false }) in
    (λ t. absurd (true≢false (sym t)), λ new. absurd (old_where vars cells clause owner (Contains-get_or clause c.loop-owner.owner-index (record { var = 0; positive = false }) c.loop-owner-test.true) (c.has_one_of.ensures.0 c.if-has_one_of.true) new))

pub loop-owner-preserved : goal.loop-owner-preserved
loop-owner-preserved g c =
    let vars = c.args.universe.now.vars in
    let cells = c.args.self.now.cells.items in
    let clause = c.args.clause.now in
    let none = λ (x : Lit). length vars < x.var → ¬ HasOneOf (owners_of vars cells) x clause in
    elim c.else-owner-count.branch [
      | else-owner-count-via-then-owner-count+else-has_one_of w ↦
          step none clause c.loop-owner.owner-index (record { var = 0; positive = false }) c.loop-owner-test.true c.loop-owner.invariant
          (λ later has. true≢false (sym (w.has_one_of.ensures.1 has) ∙ w.if-has_one_of.false))
      | else-owner-count-via-else-owner-count w ↦
          step none clause c.loop-owner.owner-index (record { var = 0; positive = false }) c.loop-owner-test.true c.loop-owner.invariant
          (λ later has. let low = w.if-owner-count.false in let count = c.count.ensures.count in omega arith)
    ]

pub returns : goal.returns
returns g c =
    let u = c.args.universe.now in
    let o = c.args.self.now in
    let clause = c.args.clause.now in
    let all = c.loop-owner-test.false in
    (λ _. new_where u.vars o.cells.items clause (λ l m later. subst (λ (x : Lit). ¬ HasOneOf (owners_of u.vars o.cells.items) x clause) m.2 (c.loop-owner.invariant m.0 l (omega (arith, m.1)) (subst (λ (x : Lit). length u.vars < x.var) (sym m.2) later))), λ _. refl)
