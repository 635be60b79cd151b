use Rattle.std.proofs.Common.{◌≡◌, ◌∙◌, false, rules, sym, subst, true, true≢false}
use Rattle.std.proofs.lemmas.Result.{IfOk-weaker}
use Rattle.heesch_check.specs.Catalogues.{IsInPlace}
use Rattle.heesch_outer_check.proofs.OneAnswer.{parts_tell}
use Rattle.heesch_outer_check.proofs.judging.is_good_read.Goals as goal

pub returns-then-not-is_in_place : goal.returns-then-not-is_in_place
returns-then-not-is_in_place g c =
    let a = c.args in
    let fails : c.is_in_place.result ≡ false = search rules in (
      λ h. absurd (true≢false (sym h)),
      λ good.
          let place = subst (λ x. IsInPlace x a.header.now.subject a.before a.found.now.entry.cells) c.requires.grid good.in_place in
          absurd (true≢false (sym (c.is_in_place.ensures.1 (subst (λ cs. IsInPlace g.G.Grid.geometry a.header.now.subject a.before cs) (sym c.as_slice.ensures) place)) ∙ fails)),
    )

pub returns : goal.returns
returns g c =
    let a = c.args in
    let holds : c.is_in_place.result ≡ true = search rules in
    let place = subst (λ cs. IsInPlace g.G.Grid.geometry a.header.now.subject a.before cs) c.as_slice.ensures (c.is_in_place.ensures.0 holds) in
    let both = parts_tell g.G.Grid.geometry a.header.now c.requires.grid a.before a.found.now c.requires.readable place in
    IfOk-weaker c.is_right.result _ _ (λ yes h. ((λ t. both.0 (h.0 t)), (λ x. h.1 (both.1 x)))) c.is_right.ensures
