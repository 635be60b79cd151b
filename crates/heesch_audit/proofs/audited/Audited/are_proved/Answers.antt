use Rattle.std.proofs.Common.{◌≡◌, ◌∙◌, sym, true, false, length, refl, rules, arith, true≢false}
use Rattle.std.proofs.Math.Nat.{add-mod_right, mod-eq_of_lt}
use Rattle.std.proofs.lemmas.Option.{slice_get_read, slice_get_within}
use Rattle.heesch_cert.specs.declared.entry.TripleProof.{TripleProof}
use Rattle.heesch_cert.specs.Proofs.{SettlesTriple}
use Rattle.heesch_logs.proofs.Equal.{granted, refused}
use Rattle.heesch_audit.proofs.Steps.{each_step, none_before}
use Rattle.heesch_audit.proofs.audited.Audited.are_proved.Goals as goal

pub loop-at-init : goal.loop-at-init
loop-at-init g c = record {
  place = mod-eq_of_lt c.requires.portion;
  proved = λ k x low is here. absurd (none_before c.args.portions c.args.portion k c.requires.portion low here);
}

pub loop-at-preserved : goal.loop-at-preserved
loop-at-preserved g c =
    let geometry = g.G.Grid.geometry in
    let shape = c.args.self.now.shape.now in
    let yes : c.in_ok-is_settled.field-0 ≡ true = search rules in
    record {
      place = add-mod_right c.loop-at.at c.args.portions ∙ c.loop-at.invariant.place;
      proved = each_step (λ (x : TripleProof). SettlesTriple geometry shape c.args.self.now.limits.turns x.triple x.proof) c.args.written.now c.args.portions c.args.portion c.loop-at.at c.index-written-at.result (omega arith) c.loop-at.invariant.place c.loop-at-test.true c.index-written-at.is (c.in_ok-is_settled.ensures.0 yes) c.loop-at.invariant.proved;
    }

pub returns-then-not-branch : goal.returns-then-not-branch
returns-then-not-branch g c =
    let fails : c.in_ok-is_settled.field-0 ≡ false = search rules in
    let written = c.args.written.now in
    refused (λ all. true≢false (sym (c.in_ok-is_settled.ensures.1 (all c.loop-at.at c.index-written-at.result (slice_get_read written (length written) c.loop-at.at c.index-written-at.result refl c.loop-at-test.true c.index-written-at.is) c.loop-at.invariant.place)) ∙ fails))

pub returns : goal.returns
returns g c = granted (λ k x is here. let inside = slice_get_within c.args.written.now k x is in c.loop-at.invariant.proved k x (omega (arith, inside, c.loop-at-test.false)) is here)
