use Rattle.std.proofs.Common.{◌≡◌, ◌∙◌, true, false, sym, subst, All, rules, true≢false}
use Rattle.std.specs.Prelude.{◌↔◌, IsTrue, None}
use Rattle.heesch_logs.specs.Spelling.{IsSpelledAfter}
use Rattle.heesch_logs.proofs.Equal.{refused, through}
use Rattle.heesch_logs.proofs.Spelled.{all_spelled, layers_in_range, spelled_all, tiles_of}
use Rattle.heesch_audit.proofs.UpTo.{told_up_to}
use Rattle.heesch_audit.proofs.spelling.spell_coronas.Given as given
use Rattle.heesch_audit.proofs.spelling.spell_coronas.Goals as goal
use Rattle.heesch_audit.proofs.spelling.spell_coronas.Goals.{After-are_spelled}

-- what the test of the spelling says of the layers
spelled : (g : given.Over) (c : After-are_spelled g) → IsTrue c.are_spelled.result ↔ All (IsSpelledAfter g.G.Grid.geometry c.args.shape.now None) c.args.layers.now.layers
spelled g c = subst (λ layers. IsTrue c.are_spelled.result ↔ All (IsSpelledAfter g.G.Grid.geometry c.args.shape.now None) layers) c.as_slice.ensures c.are_spelled.ensures

pub returns-then-not-are_spelled : goal.returns-then-not-are_spelled
returns-then-not-are_spelled g c =
    let fails : c.are_spelled.result ≡ false = search rules in
    let test = spelled g (goal.at.returns-then-not-are_spelled g c).After-are_spelled in
    refused (λ s. true≢false (sym (test.1 (spelled_all g.G.Grid.geometry c.args.shape.now c.args.layers.now.layers s.0 s.1)) ∙ fails))

pub are_spelled-requires-clause-shape : goal.are_spelled-requires-clause-shape
are_spelled-requires-clause-shape g c = record { is_shape = c.requires.shape.is_shape; near = c.requires.shape.near }

pub check_coronas-requires-clause-isometries : goal.check_coronas-requires-clause-isometries
check_coronas-requires-clause-isometries g c =
    let holds : c.are_spelled.result ≡ true = search rules in
    let test = spelled g (goal.at.check_coronas-requires-clause-isometries g c).After-are_spelled in
    layers_in_range g.G.Grid.geometry c.args.shape.now c.args.layers.now.layers (test.0 holds) c.requires.near

pub returns : goal.returns
returns g c =
    let geometry = g.G.Grid.geometry in
    let shape = c.args.shape.now in
    let layers = c.args.layers.now.layers in
    let holds : c.are_spelled.result ≡ true = search rules in
    let all = (spelled g (goal.at.returns g c).After-are_spelled).0 holds in
    let found = all_spelled geometry shape layers all in
    let ranges = layers_in_range geometry shape layers all c.requires.near in
    let tells = told_up_to geometry g.met.G.Grid.laws shape layers ranges c.args.free_levels c.is_some_free.result c.in_ok-answer.answer c.is_some_free.ensures.1 c.in_ok-answer.ensures.answer in
    through c.holds_up_to.ensures (
      (λ h. (found.0, found.1, (tells found.0 (tiles_of geometry shape layers found.0 found.1)).0 h)),
      (λ s. (tells s.0 (tiles_of geometry shape layers s.0 s.1)).1 s.2),
    )
