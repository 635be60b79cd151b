-- The counts of a list with one more shape.
use Rattle.std.proofs.Common.{◌≡◌, ℕ, ◌+◌, ◌≤◌, Bool, true, false, cond, List, [], ◌∷◌, ◌++◌, sym, arith}
use Rattle.std.specs.Prelude.{count_by}
use mir.Val.{bool_byte}
use Rattle.std.proofs.lemmas.List.Sums.{sum_by_push}
use Rattle.heesch_cert.specs.declared.verdict.Verdict.{Verdict}
use Rattle.heesch_table.specs.declared.verdicts.VerdictCounts.{VerdictCounts}
use Rattle.heesch_table.specs.Steps.{with_one, with_verdict, VerdictsAreWithin}

more : {X : Type 0} (p : X → Bool) (xs : List X) (x : X) → with_one (p x) (count_by p xs) ≡ count_by p (xs ++ x ∷ [])
more p xs x = sym (sum_by_push (λ y. cond (p y) 1 0) xs x)

one_within : (b : Bool) (count n : ℕ) → count ≤ n → with_one b count ≤ n + 1
one_within b count n l = grind arith

pub verdicts_within : (v : Verdict) (c : VerdictCounts) (n : ℕ) → VerdictsAreWithin n c → VerdictsAreWithin (n + 1) (with_verdict v c)
verdicts_within v c n w = grind (arith, one_within)

pub flag_within : (b : Bool) (count more n : ℕ) → more ≡ bool_byte b → count ≤ n → count + more ≤ n + 1
flag_within true count more n e l = omega arith
flag_within false count more n e l = omega arith
