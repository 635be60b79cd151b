use Rattle.std.proofs.Common.{◌≡◌, ◌∙◌, All, Bool, List, false, length, ◌<◌, ◌≤◌, sym, subst, rules, true≢false}
use Rattle.std.specs.Prelude.{◌↔◌, IsTrue}
use Rattle.heesch_grid.specs.declared.Cell.{Cell}
use Rattle.heesch_cert.specs.declared.entry.TripleProof.{TripleProof}
use Rattle.heesch_audit.specs.Portions.{AreProved, AreTriplesAsked, PortionHolds}
use Rattle.heesch_audit.specs.Shapes.{AreCanonical}
use Rattle.heesch_logs.proofs.Equal.{granted, refused}
use Rattle.heesch_audit.proofs.Portions.{Domain, asked_domains, bare_portion, portion_from, portion_proved, unless_bare}
use Rattle.heesch_audit.proofs.Proofs.{if_ok_more}
use Rattle.heesch_audit.proofs.split.portion_holds.Goals as goal

pub returns-then-is_bare : goal.returns-then-is_bare
returns-then-is_bare g c =
    let bare = c.is_bare.ensures.0 c.if-is_bare.true in
    granted (bare_portion g.G.Grid.geometry c.args.limits c.args.entry.now c.args.portion c.args.portions bare.0 (subst (λ (xs : List TripleProof). length xs ≤ c.args.portion) c.triples_of-written.ensures bare.1))

pub returns-in_default : goal.returns-in_default
returns-in_default g c =
    let geometry = g.G.Grid.geometry in
    let portion = c.args.portion in
    let never = subst (λ (cells : List Cell). ¬ AreCanonical geometry cells) c.as_slice.ensures c.in_default.ensures.none in
    let some = subst (λ (xs : List TripleProof). ¬ ((0 < portion) × (length xs ≤ portion))) c.triples_of-written.ensures (λ both. true≢false (sym (c.is_bare.ensures.1 both) ∙ c.if-is_bare.false)) in
    refused (λ holds. never (unless_bare geometry c.args.limits c.args.entry.now portion c.args.portions c.requires.portion some holds).0)

pub returns-then-not-branch : goal.returns-then-not-branch
returns-then-not-branch g c =
    let geometry = g.G.Grid.geometry in
    let entry = c.args.entry.now in
    let portion = c.args.portion in
    let same : c.in-Some.shape ≡ entry.cells = c.in-Some.ensures.same ∙ c.as_slice.ensures in
    let fails : c.in_ok-are_asked.field-0 ≡ false = search rules in
    let some = subst (λ (xs : List TripleProof). ¬ ((0 < portion) × (length xs ≤ portion))) c.triples_of-written.ensures (λ both. true≢false (sym (c.is_bare.ensures.1 both) ∙ c.if-is_bare.false)) in
    let asked = λ (cells : List Cell). AreTriplesAsked geometry c.args.limits cells entry.verdict entry.evidence in
    refused (λ holds. true≢false (sym (c.in_ok-are_asked.ensures.1 (subst asked (sym same) (unless_bare geometry c.args.limits entry portion c.args.portions c.requires.portion some holds).1)) ∙ fails))

pub returns-then-not-branch-2 : goal.returns-then-not-branch-2
returns-then-not-branch-2 g c =
    let fails : c.in_ok-are_parts_due.field-0 ≡ false = search rules in
    refused (λ holds. true≢false (sym (c.in_ok-are_parts_due.ensures.1 (λ first. (holds.beside first).parts)) ∙ fails))

pub are_proved-requires-clause-domains : goal.are_proved-requires-clause-domains
are_proved-requires-clause-domains g c =
    let geometry = g.G.Grid.geometry in
    let limits = c.args.limits in
    let entry = c.args.entry.now in
    subst (All (Domain geometry limits c.in-Some.shape)) (sym c.triples_of-written.ensures) (asked_domains geometry limits c.in-Some.shape c.requires.limits.domain_range.1 entry.verdict entry.evidence (c.in_ok-are_asked.ensures.0 c.if-not-branch.false))

pub returns : goal.returns
returns g c =
    let geometry = g.G.Grid.geometry in
    let limits = c.args.limits in
    let entry = c.args.entry.now in
    let portion = c.args.portion in
    let portions = c.args.portions in
    let written = c.triples_of-written.result.now in
    let same : c.in-Some.shape ≡ entry.cells = c.in-Some.ensures.same ∙ c.as_slice.ensures in
    let canonical = subst (AreCanonical geometry) c.as_slice.ensures c.in-Some.ensures.part in
    let asked = subst (λ (cells : List Cell). AreTriplesAsked geometry limits cells entry.verdict entry.evidence) same (c.in_ok-are_asked.ensures.0 c.if-not-branch.false) in
    let parts = c.in_ok-are_parts_due.ensures.0 c.if-not-branch-2.false in
    let at_cells = λ (cells : List Cell). AreProved geometry cells limits.turns written portion portions in
    let of_triples = λ (xs : List TripleProof). AreProved geometry entry.cells limits.turns xs portion portions in
    if_ok_more (λ (b : Bool). IsTrue b ↔ at_cells c.in-Some.shape) (λ (b : Bool). IsTrue b ↔ PortionHolds geometry limits entry portion portions)
    (λ b h. (
      (λ t. portion_from geometry limits entry portion portions canonical asked parts (subst of_triples c.triples_of-written.ensures (subst at_cells same (h.0 t)))),
      (λ holds. h.1 (subst at_cells (sym same) (subst of_triples (sym c.triples_of-written.ensures) (portion_proved geometry limits entry portion portions holds)))),
    ))
    c.are_proved.result c.are_proved.ensures
