use Rattle.std.proofs.Common.{◌≡◌, ◌+◌, ◌∷◌, [], ◌++◌, sym, ap, ◌∙◌, subst, arith}
use Rattle.heesch_io.specs.Pieces.{AreEnds}
use Rattle.heesch_io.proofs.Pieces.{AreEnds-push}
use Rattle.heesch_numbers.specs.Counts.{gaps}
use Rattle.heesch_numbers.proofs.Counting.{gaps-push}
use Rattle.heesch_numbers.proofs.prefix.Prefix.push.Goals as goal

pub invariant_of-self-2 : goal.invariant_of-self-2
invariant_of-self-2 c =
    let sum = c.in-Some.ensures in
    subst (λ es. AreEnds 0 es c.in-Some.total) (sym c.in_ok-push.ensures.items) (AreEnds-push 0 c.self.inside.ends.items c.self.inside.total c.in-Some.total c.self.invariant (omega (arith, sum)))

pub returns-clause-ok : goal.returns-clause-ok
returns-clause-ok c =
    let sum = c.in-Some.ensures in
    let is : c.in-Some.total ≡ c.self.inside.total + c.args.count = omega (arith, sum) in
    ap (gaps 0) c.in_ok-push.ensures.items ∙ ap (λ t. gaps 0 (c.self.inside.ends.items ++ t ∷ [])) is ∙ gaps-push 0 c.self.inside.ends.items c.self.inside.total c.args.count c.self.invariant ∙ ap (λ g. g ++ c.args.count ∷ []) c.self.view_is
