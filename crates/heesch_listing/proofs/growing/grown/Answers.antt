use Rattle.std.proofs.Common.{◌≡◌, ℕ, ◌+◌, ◌/◌, ◌%◌, min, List, length, Vec, Global, Some, slice_get, sym, ap, ◌∙◌, subst, zero-add}
use Rattle.heesch_grid.specs.declared.Cell.{Cell}
use Rattle.heesch_grid.specs.Cells.{cells_before}
use Rattle.heesch_grid.specs.Listing.{ListsExactly}
use Rattle.heesch_grow.specs.Adds.{IsGrownFromSome}
use Rattle.heesch_listing.specs.Parts.{part_of}
use Rattle.heesch_listing.proofs.Covering.{grown_by_parts}
use Rattle.heesch_listing.proofs.growing.grown.Goals as goal

pub returns-clause-grown : goal.returns-clause-grown
returns-clause-grown g c =
    let geometry = g.G.Grid.geometry in
    let parents = c.args.parents.now in
    let parts = c.in_ok-parts.parts.items in
    let same = ap (λ w. w.parents.now) c.new-job.ensures.0 in
    let many : c.in-Ok.count ≡ length parents / 64 + min 1 (length parents % 64) = c.in-Ok.ensures.1 ∙ c.div_ceil.ensures in
    let long : length parts ≡ c.in-Ok.count = sym c.in_ok-parts.parts.ok.0 ∙ c.in_ok-parts.ensures.len ∙ c.new-job.ensures.1 in
    let each : (i : ℕ) (part : Vec (List Cell) Global) → slice_get parts i ≡ Some part → ListsExactly cells_before (IsGrownFromSome geometry (part_of i parents)) part.items =
    λ i part e.
    let h = c.in_ok-parts.ensures.answers i part e in
    subst (λ n. ListsExactly cells_before (IsGrownFromSome geometry (part_of n parents)) part.items) (zero-add i)
    (subst (λ ps. ListsExactly cells_before (IsGrownFromSome geometry (part_of (0 + i) ps)) part.items) same h) in
    grown_by_parts geometry parents c.in-Ok.count parts c.in_ok-made.made.items many long each c.in_ok-made.ensures
