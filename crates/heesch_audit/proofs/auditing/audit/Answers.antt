use Rattle.std.proofs.Common.{ℕ, ◌≡◌, refl, true, false, subst, rules}
use Rattle.heesch_cert.specs.Parts.{IsLeastFailing}
use Rattle.heesch_cert.proofs.EntryRight.{true_entries_are_right}
use Rattle.heesch_audit.specs.declared.auditing.EntryAnswer.TheVariants.{Invalid}
use Rattle.heesch_audit.proofs.Parts.{all_hold, last_fails}
use Rattle.heesch_audit.proofs.auditing.audit.Goals as goal

pub returns-then-not-branch-clause-invalid : goal.returns-then-not-branch-clause-invalid
returns-then-not-branch-clause-invalid g c part e =
    let entry = c.args.entry.now in
    let fails : c.in_ok-triples_hold.field-0 ≡ false = search rules in
    let last = last_fails g.G.Grid.geometry c.args.limits entry c.in-Some.shape _ c.in-Some.ensures.same c.as_slice.ensures c.in-Some.ensures.part _ c.in_default-2.is c.in_ok-part.ensures _ c.in_ok-triples_hold.ensures fails in
    subst (IsLeastFailing g.G.Grid.geometry c.args.limits entry) (nine e) last
  where
    nine : {part : ℕ} → Invalid 9 ≡ Invalid part → 9 ≡ part
    nine e = cc

pub returns : goal.returns
returns g c =
    let entry = c.args.entry.now in
    let yes : c.in_ok-triples_hold.field-0 ≡ true = search rules in
    let whole = all_hold g.G.Grid.geometry c.args.limits entry c.in-Some.shape _ c.in-Some.ensures.same c.as_slice.ensures c.in-Some.ensures.part _ c.in_default-2.is c.in_ok-part.ensures _ c.in_ok-triples_hold.ensures yes in
    record {
      valid = ((λ e. whole), (λ h. refl));
      invalid = search rules;
      right = λ e. true_entries_are_right g.G.Grid.geometry c.args.limits entry g.met.G.Grid.laws c.requires.limits whole;
    }
