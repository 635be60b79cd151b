use Rattle.std.proofs.Common.{◌≡◌, ◌∙◌, ℕ, Bool, true, false, sym, subst, rules, true≢false}
use Rattle.std.specs.Prelude.{◌↔◌, IfOk, IsTrue}
use Rattle.std.proofs.lemmas.Result.{IfOk-weaker}
use Rattle.heesch_cert.specs.declared.limits.Limits.{Limits}
use Rattle.heesch_cert.specs.declared.entry.Bare.{Bare}
use Rattle.heesch_cert.specs.Proofs.{IsTooLarge}
use Rattle.heesch_cert.specs.TrueEntry.{BareShows}
use Rattle.heesch_audit.specs.Ends.{EndsCoronas}
use Rattle.heesch_audit.proofs.Ends.{bare_answered, bare_by, bare_near, not_asked}
use Rattle.heesch_logs.proofs.Equal.{granted, refused, through}
use Rattle.heesch_audit.proofs.walls.bare_holds.Goals as goal

pub returns-then-not-fits_same : goal.returns-then-not-fits_same
returns-then-not-fits_same g c =
    let fails : c.fits_same.result ≡ false = search rules in
    refused (λ h. true≢false (sym (c.fits_same.ensures.1 h.0) ∙ fails))

pub returns-then-not-asks_formula : goal.returns-then-not-asks_formula
returns-then-not-asks_formula g c =
    let same : c.fits_same.result ≡ true = search rules in
    let fails : c.asks_formula.result ≡ false = search rules in
    granted (c.fits_same.ensures.0 same, not_asked g.G.Grid.geometry c.args.at_hand.limits c.args.shape.now c.args.m c.args.bare.now (λ a. true≢false (sym (c.asks_formula.ensures.1 a) ∙ fails)))

pub returns-in_default : goal.returns-in_default
returns-in_default g c =
    let geometry = g.G.Grid.geometry in
    let shape = c.args.shape.now in
    let r = c.is_too_large.result in
    let same : c.fits_same.result ≡ true = search rules in
    let asks : c.asks_formula.result ≡ true = search rules in
    let shows = subst (λ (b : Bare). IsTrue r ↔ BareShows geometry c.args.at_hand.limits shape c.args.m b) (sym (c.in_default.ensures (c.asks_formula.ensures.0 asks)))
    (subst (λ (limits : Limits). IsTrue r ↔ IsTooLarge limits.version geometry shape c.args.m limits.size) c.in_ok-formula.ensures.limits
    (subst (λ (m : ℕ). IsTrue r ↔ IsTooLarge c.in_ok-formula.formula.limits.version geometry shape m c.in_ok-formula.formula.limits.size) c.in_ok-formula.ensures.level c.is_too_large.ensures)) in
    ((λ t. (c.fits_same.ensures.0 same, shows.0 t)), (λ h. shows.1 h.1))

pub returns-then-not-has_no_cut : goal.returns-then-not-has_no_cut
returns-then-not-has_no_cut g c =
    let ended = c.in-Some.ended in
    let fails : c.has_no_cut.result ≡ false = search rules in
    let both = bare_by g.G.Grid.geometry c.args.at_hand.limits c.args.shape.now c.args.m ended.end ended.proof.now c.args.bare.now c.in-Some.ensures in
    refused (λ h. true≢false (sym (c.has_no_cut.ensures.1 (both.0 h.1).1) ∙ fails))

pub is_ended_by-requires-clause-near : goal.is_ended_by-requires-clause-near
is_ended_by-requires-clause-near g c = bare_near c.in-Some.ended.end c.in-Some.ended.proof.now c.args.bare.now c.in-Some.ensures c.requires.near

pub returns : goal.returns
returns g c =
    let limits = c.args.at_hand.limits in
    let ended = c.in-Some.ended in
    let same : c.fits_same.result ≡ true = search rules in
    let holds : c.has_no_cut.result ≡ true = search rules in
    let answered = bare_answered g.G.Grid.geometry limits c.args.shape.now c.args.m ended.end ended.proof.now c.args.wall.now c.args.bare.now c.in-Some.ensures (c.fits_same.ensures.0 same) (c.has_no_cut.ensures.0 holds) in
    let ends = λ (l : Limits) (k : ℕ) (yes : Bool). IsTrue yes ↔ EndsCoronas ended.end g.G.Grid.geometry l c.args.shape.now k ended.proof.now in
    IfOk-weaker c.is_ended_by.result _ _ (λ yes h. through h answered)
    (subst (λ (l : Limits). IfOk c.is_ended_by.result (ends l c.args.m)) c.in_ok-formula.ensures.limits (subst (λ (k : ℕ). IfOk c.is_ended_by.result (ends c.in_ok-formula.formula.limits k)) c.in_ok-formula.ensures.level c.is_ended_by.ensures))
