use Rattle.std.proofs.Common.{false, ◌∷◌, [], get_or, take, sym, subst, inl, inr, arith, Contains}
use Rattle.std.proofs.lemmas.List.{take_all, take_more}
use Rattle.std.proofs.lemmas.List.Elements.{Contains-append_cases, Contains-get_or}
use Rattle.heesch_cnf.specs.declared.literal.Lit.{Lit}
use Rattle.heesch_cert.specs.Literals.{literals}
use Rattle.heesch_grid.proofs.ListFacts.{member_cases, no_member}
use Rattle.heesch_numbers.proofs.Remaining.{when_true, when_false}
use Rattle.heesch_numbers.proofs.remain.all_negated_remain.Goals as goal

pub loop-lit-init : goal.loop-lit-init
loop-lit-init g c = λ around gives n x number m. absurd (no_member (literals.minus n) m)

pub loop-lit-preserved : goal.loop-lit-preserved
loop-lit-preserved g c = λ around gives n x number m.
    let items = c.args.clause.now in
    let i = c.loop-lit.lit-index in
    let none : Lit = record { var = 0; positive = false } in
    let lit : Lit = get_or items i none in
    elim (Contains-append_cases (take i items) (lit ∷ []) (literals.minus n) (subst (λ ls. Contains ls (literals.minus n)) (take_more items i none c.loop-lit-test.true) m)) [
      | inl k ↦ c.loop-lit.invariant around gives n x number k
      | inr k ↦ elim (member_cases lit [] (literals.minus n) k) [
        | inl e ↦ when_true c.negated_remains.result _ _ c.if-not-negated_remains.false (c.negated_remains.ensures around gives) n x number e
        | inr gone ↦ absurd (no_member (literals.minus n) gone)
      ]
    ]

pub returns-then-not-negated_remains : goal.returns-then-not-negated_remains
returns-then-not-negated_remains g c = λ around gives all.
    let items = c.args.clause.now in
    let i = c.loop-lit.lit-index in
    let none : Lit = record { var = 0; positive = false } in
    when_false c.negated_remains.result _ _ c.if-not-negated_remains.true (c.negated_remains.ensures around gives)
    (λ n x number e. all n x number (subst (λ l. Contains items l) e (Contains-get_or items i none c.loop-lit-test.true)))

pub returns : goal.returns
returns g c = λ around gives n x number m.
    c.loop-lit.invariant around gives n x number (subst (λ ls. Contains ls (literals.minus n)) (sym (take_all c.loop-lit.lit-index c.args.clause.now (omega (arith, c.loop-lit-test.false)))) m)
