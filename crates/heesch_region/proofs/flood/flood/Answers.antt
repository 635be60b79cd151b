use Rattle.std.proofs.Common.{◌≡◌, true, inl, inr, refl, sym, ap, ◌∙◌}
use Rattle.heesch_region.specs.Windows.{is_marked, strip}
use Rattle.heesch_region.proofs.Places.{inner-true}
use Rattle.heesch_region.proofs.Strips.{narrowed_then, inner_strip}
use Rattle.heesch_region.proofs.flood.flood.Goals as goal

pub loop-window-preserved : goal.loop-window-preserved
loop-window-preserved g c = narrowed_then c.loop-window.invariant c.sweep.ensures.narrowed

pub returns-clause-settled : goal.returns-clause-settled
returns-clause-settled g c d e m a =
    let w = c.args.window in
    let step = c.sweep.ensures in
    let same = step.same c.loop-window-test.false in
    let was : is_marked w c.loop-window.kept d ≡ true = ap (λ ws. is_marked w ws d) (sym same) ∙ m in
    let inner = (c.requires.cells d (c.loop-window.invariant.only d was)).0 in
    let s = inner_strip w d (inner-true w d inner) in
    elim (step.settled c.loop-window-test.false (strip w d) s.0 s.1 d e was refl a) [
      | inl t ↦ inl t
      | inr t ↦ inr (ap (λ ws. is_marked w ws e) same ∙ t)
    ]
