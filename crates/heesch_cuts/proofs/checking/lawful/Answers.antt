use Rattle.std.proofs.Common.{◌≡◌, ℕ, ap, subst, ◌∙◌, All, arith}
use Rattle.std.specs.Prelude.{nat_lt}
use Rattle.std.specs.List.{list_all}
use Rattle.heesch_grid.specs.Listing.{IsRising}
use Rattle.heesch_cert.specs.Cuts.{IsBorderVariable}
use Rattle.heesch_cuts.specs.Marks.{is_marked, is_in}
use Rattle.heesch_cuts.specs.Enclosing.{IsOutside, are_held}
use Rattle.heesch_cuts.proofs.Conditions.{enclosed_is, lawful_is}
use Rattle.heesch_cuts.proofs.checking.lawful.Goals as goal

pub returns : goal.returns
returns g c =
    let geometry = g.G.Grid.geometry in
    let shape = c.args.shape.now in
    let vars = c.args.universe.now.vars in
    let cut = c.args.cut.now in
    let marks = c.deref.result.now in
    let hole_is = c.as_slice-hole.ensures in
    let border_is = c.as_slice-border.ensures in
    let outside : IsOutside geometry shape cut.hole = subst (IsOutside geometry shape) hole_is (c.is_hole.ensures.0 c.if-not-is_hole.false) in
    let rising : IsRising nat_lt cut.border = subst (IsRising nat_lt) border_is (c.are_rising.ensures.0 c.if-not-are_rising.false) in
    let border : All (IsBorderVariable vars cut.level cut.hole) cut.border = subst (λ h. All (IsBorderVariable vars cut.level h) cut.border) hole_is (subst (All (IsBorderVariable vars cut.level c.as_slice-hole.result.now)) border_is (c.are_border_variables.ensures.0 c.if-not-are_border_variables.false)) in
    let marked : (n : ℕ) → is_marked marks n ≡ is_in cut.border n = λ n. ap (λ xs. is_marked xs n) c.deref.ensures.value ∙ c.in_ok-marks.ensures.marks n ∙ ap (λ xs. is_in xs n) border_is in
    let answer : c.is_enclosed.result ≡ list_all (are_held geometry shape vars cut.level cut.hole marks) cut.hole = c.is_enclosed.ensures ∙ ap (λ h. list_all (are_held geometry shape vars cut.level h marks) h) hole_is in
    lawful_is geometry shape c.args.universe.now.level vars cut (let h = c.if-cut-eq0.false in omega (arith, h)) (let h = c.if-cut-level.false in let e = c.level.ensures.level in omega (arith, h, e)) outside rising border c.is_enclosed.result
    (enclosed_is geometry g.met.G.Grid.laws shape vars cut.level cut.hole marks cut.border marked outside.is_set border c.is_enclosed.result answer)
