use Rattle.std.proofs.Common.{◌≡◌, ◌≢◌, ℕ, ◌+◌, ◌<◌, ◌≤◌, None, Some, true, false, is_some, Option, sym, ap, ◌∙◌, subst, arith, inl, inr}
use Rattle.std.proofs.lemmas.Bool.{cases_lt}
use Rattle.heesch_trail.specs.State.{values_of}
use Rattle.heesch_cdcl.proofs.decisions.open_after.Goals as goal

-- a value that was read is there
there : {A : Type 0} (o : Option A) → is_some o ≡ true → o ≢ None
there None e none = let bad : false ≡ true = e in cc
there (Some x) e none = let bad : Some x ≡ None = none in cc

more : (P : ℕ → Type 0) (low n : ℕ) → ((v : ℕ) → low < v → v ≤ n → P v) → P (n + 1) → (v : ℕ) → low < v → v ≤ n + 1 → P v
more P low n below here v after high = elim (cases_lt v (n + 1)) [ inl lt ↦ below v after (omega arith) | inr ge ↦ let same : n + 1 ≡ v = omega arith in subst P same here ]

pub loop-before-preserved : goal.loop-before-preserved
loop-before-preserved c =
    more (λ v. values_of c.args.trail.now.steps v ≢ None) c.args.passed c.loop-before.before c.loop-before.invariant
    (there _ (ap is_some (sym c.value.ensures) ∙ c.if-is_none.ensures))
