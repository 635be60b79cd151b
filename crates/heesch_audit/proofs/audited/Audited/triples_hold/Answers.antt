use Rattle.std.proofs.Common.{◌≡◌, ◌∙◌, All, Bool, List, true, false, sym, subst, rules, true≢false}
use Rattle.std.specs.Prelude.{◌↔◌, IsTrue}
use Rattle.heesch_cert.specs.declared.entry.TripleProof.{TripleProof}
use Rattle.heesch_cert.specs.TrueEntry.{TriplesHold}
use Rattle.heesch_audit.specs.Portions.{AreProved}
use Rattle.heesch_logs.proofs.Equal.{refused}
use Rattle.heesch_audit.proofs.Portions.{Domain, all_proved, asked_domains, asked_of, one_portion}
use Rattle.heesch_audit.proofs.Proofs.{if_ok_more}
use Rattle.heesch_audit.proofs.audited.Audited.triples_hold.Goals as goal

pub returns-then-not-branch : goal.returns-then-not-branch
returns-then-not-branch g c =
    let fails : c.in_ok-are_asked.field-0 ≡ false = search rules in
    refused (λ h. true≢false (sym (c.in_ok-are_asked.ensures.1 (asked_of g.G.Grid.geometry c.args.self.now.limits c.args.self.now.shape.now c.args.self.now.entry.now.verdict c.args.self.now.entry.now.evidence h)) ∙ fails))

pub are_proved-requires-clause-domains : goal.are_proved-requires-clause-domains
are_proved-requires-clause-domains g c =
    let geometry = g.G.Grid.geometry in
    let shape = c.args.self.now.shape.now in
    let limits = c.args.self.now.limits in
    let yes : c.in_ok-are_asked.field-0 ≡ true = search rules in
    subst (All (Domain geometry limits shape)) (sym c.triples_of-written.ensures) (asked_domains geometry limits shape c.requires.limits.domain_range.1 c.args.self.now.entry.now.verdict c.args.self.now.entry.now.evidence (c.in_ok-are_asked.ensures.0 yes))

pub returns : goal.returns
returns g c =
    let geometry = g.G.Grid.geometry in
    let shape = c.args.self.now.shape.now in
    let limits = c.args.self.now.limits in
    let verdict = c.args.self.now.entry.now.verdict in
    let evidence = c.args.self.now.entry.now.evidence in
    let yes : c.in_ok-are_asked.field-0 ≡ true = search rules in
    let asked = c.in_ok-are_asked.ensures.0 yes in
    let proved = λ (xs : List TripleProof). AreProved geometry shape limits.turns xs 0 1 in
    if_ok_more (λ (b : Bool). IsTrue b ↔ proved c.triples_of-written.result.now) (λ (b : Bool). IsTrue b ↔ TriplesHold geometry limits shape verdict evidence)
    (λ b h. (
      (λ t. one_portion geometry limits shape verdict evidence asked (subst proved c.triples_of-written.ensures (h.0 t))),
      (λ s. h.1 (subst proved (sym c.triples_of-written.ensures) (all_proved geometry limits shape verdict evidence s 0 1))),
    ))
    c.are_proved.result c.are_proved.ensures
