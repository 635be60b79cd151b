use Rattle.std.proofs.Common.{◌≡◌, ◌≤◌, false, ℤ, pos, ◌≤ℤ◌, ◌<ℤ◌, List, [], ◌∷◌, length, Contains, true≢false, sym, ◌∙◌, arith}
use Rattle.std.proofs.lemmas.Int.{ints}
use Rattle.std.proofs.lemmas.List.Elements.{All-contains}
use Rattle.heesch_grid.specs.declared.Cell.{Cell}
use Rattle.heesch_grid.specs.Cells.{cell}
use Rattle.heesch_grid.specs.Geometry.{Geometry, IsCell, IsGrid}
use Rattle.heesch_grid.proofs.ListFacts.{member_here}
use Rattle.heesch_grow.proofs.block.first_cell.Goals as goal

some_member : (xs : List Cell) → 1 ≤ length xs → (c : Cell) × Contains xs c
some_member [] less = absurd (omega arith)
some_member (c ∷ xs) less = (c, member_here c xs)

-- the block has a cell
block_found : (g : Geometry) (n : ℤ) → IsGrid g → ((a b : ℤ) → pos 0 ≤ℤ a → a <ℤ pos g.unit → pos 0 ≤ℤ b → b <ℤ n → g.is_cell (cell a b) ≡ false) → pos g.unit ≤ℤ n → ⊥
block_found g n law none all =
    let some = law.per_range.0 in
    let size = law.block.2 in
    let c = some_member law.block.0 (omega arith) in
    let h = All-contains (λ c. IsCell g c × (pos 0 ≤ℤ c.a) × (c.a <ℤ pos g.unit) × (pos 0 ≤ℤ c.b) × (c.b <ℤ pos g.unit)) law.block.0 c.0 law.block.1.only c.1 in
    true≢false (sym h.0 ∙ none c.0.a c.0.b h.1 h.2 h.3 (omega (arith, ints, h.4, all)))

pub unreachable-requires : goal.unreachable-requires
unreachable-requires g c =
    let met = g.met.G.Grid in
    block_found g.G.Grid.geometry _ met.laws c.loop-b.invariant.none (omega (arith, ints, c.loop-b-test.false, c.UNIT-b-end.ensures, met.sizes.unit_is, met.laws.unit_range.1))
