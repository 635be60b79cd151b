use Rattle.std.proofs.Common.{◌≡◌, ℕ, sym, subst, ap, ◌∙◌, get_or, inl, inr, arith}
use Rattle.std.proofs.lemmas.Bool.{cases_lt}
use Rattle.std.proofs.lemmas.Option.{slice_get_within, get_or_from_slice_get}
use Rattle.heesch_grid.specs.declared.isometries.Iso.{Iso}
use Rattle.heesch_grid.specs.Symmetry.{TakesExactly}
use Rattle.heesch_grid.specs.Tiling.{no_move}
use Rattle.heesch_orbit.proofs.classing.known_member.Goals as goal

pub loop-i-preserved : goal.loop-i-preserved
loop-i-preserved g c k from by less e h =
    let xs = c.args.representatives.now in
    let i = c.loop-i.i in
    elim (cases_lt k i) [
      | inl l ↦ c.loop-i.invariant k from by l e h
      | inr m ↦
          let is : k ≡ i = omega (arith, less, m) in
          let at : get_or xs i no_move ≡ from = ap (λ (n : ℕ). get_or xs n no_move) (sym is) ∙ get_or_from_slice_get xs k from no_move e in
          c.in_default.ensures.none by (subst (λ (z : Iso). TakesExactly g.G.Grid.geometry c.args.turned.now c.args.triple c.args.places.now z c.args.to by) (sym at) h)
    ]

pub returns-clause-none : goal.returns-clause-none
returns-clause-none g c k from by e h =
    let last = c.loop-i-test.false in
    let inside = slice_get_within c.args.representatives.now k from e in
    c.loop-i.invariant k from by (omega (arith, last, inside)) e h
