use Rattle.std.proofs.Common.{◌≡◌, ℕ, ◌+◌, ◌≤◌, List, [], ◌∷◌, ◌++◌, Result, Ok, Err, sym, ap, ◌∙◌, subst}
use Rattle.std.specs.Prelude.{OnOk, OnErr, All}
use Rattle.std.specs.Map.{values_of}
use Rattle.heesch_io.specs.declared.fault.NoMemory.{NoMemory}
use Rattle.std.proofs.lemmas.Result.{on_ok_weaker}
use Rattle.heesch_cert.specs.declared.verdict.Verdict.{Verdict}
use Rattle.heesch_table.specs.Counts.{heesch_of}
use Rattle.heesch_table.specs.Steps.{RaisesCount}
use Rattle.heesch_table.proofs.HeeschFacts.{heesch_more, heesch_same, no_number, raised_within, still_within}
use Rattle.heesch_table.proofs.heesch.HeeschCounts.add.Goals as goal

pub returns-in-Heesch-clause-ok : goal.returns-in-Heesch-clause-ok
returns-in-Heesch-clause-ok c vs e =
    on_ok_weaker c.raise.result
    (λ r. heesch_more vs c.in-Heesch.h c.in-Heesch.m c.raise.new.self (subst (λ (es : List (ℕ × ℕ)). RaisesCount c.in-Heesch.h es c.raise.new.self) e r) ∙ ap (λ (v : Verdict). heesch_of (vs ++ v ∷ [])) (sym c.in-Heesch.is))
    c.raise.ensures.ok

bounded : (r : Result (Unit {0}) NoMemory) (old new : List (ℕ × ℕ)) (h n : ℕ) → OnOk r (RaisesCount h old new) → OnErr r (new ≡ old) → All (λ count. count ≤ n) (values_of old) → All (λ count. count ≤ n + 1) (values_of new)
bounded (Ok u) old new h n ok err all = raised_within old new h n ok all
bounded (Err u) old new h n ok err all = subst (λ (es : List (ℕ × ℕ)). All (λ count. count ≤ n + 1) (values_of es)) (sym err) (still_within old n all)

pub returns-in-Heesch-clause-bound : goal.returns-in-Heesch-clause-bound
returns-in-Heesch-clause-bound c n all = bounded c.raise.result c.args.self.now c.raise.new.self c.in-Heesch.h n c.raise.ensures.ok c.raise.ensures.err all

pub returns-in_default-clause-ok : goal.returns-in_default-clause-ok
returns-in_default-clause-ok c vs e = e ∙ sym (heesch_same vs c.args.verdict.now (λ q. no_number q c.args.verdict.now c.in_default.not-Heesch))

pub returns-in_default-clause-bound : goal.returns-in_default-clause-bound
returns-in_default-clause-bound c n all = still_within c.args.self.now n all
