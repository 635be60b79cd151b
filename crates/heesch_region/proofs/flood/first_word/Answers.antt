use Rattle.std.proofs.Common.{◌≡◌, ◌<◌, ◌+◌, ◌*◌, ◌==◌, ◌&&◌, ℕ, inl, inr, ap, sym, ◌∙◌, true≢false}
use Rattle.std.specs.Int.{bit_at}
use Rattle.std.proofs.lemmas.Nat.Bits.{bit_at-zero, bit_at_ones}
use Rattle.heesch_grid.specs.Geometry.{Geometry, IsGrid}
use Rattle.heesch_region.specs.declared.window.Window.{Window}
use Rattle.heesch_region.specs.Windows.{is_inner, cell_of}
use Rattle.heesch_region.proofs.Strips.{IsBorderWord, border_word, inner_word}
use Rattle.heesch_region.proofs.flood.first_word.Given as given
use Rattle.heesch_region.proofs.flood.first_word.Goals as goal
use Rattle.heesch_region.proofs.flood.first_word.Goals.{After-is_cell, then-at-eq0-via-then-at-eq0, then-at-eq0-via-else-at-eq0+then-at-window}

no_bit : (g : Geometry) (law : IsGrid g) (w : Window) (e : w.unit ≡ g.unit) (number j : ℕ) → j < 64 → IsBorderWord g law w e number → (bit_at 0 j == 1) ≡ (is_inner w (cell_of w (64 * number + j)) && g.is_cell (cell_of w (64 * number + j)))
no_bit g law w e number j l b =
    ap (λ m. m == 1) (bit_at-zero j) ∙ sym (ap (λ b. b && g.is_cell (cell_of w (64 * number + j))) (border_word g law w e number j l b))

pub returns-then-at-eq0 : goal.returns-then-at-eq0
returns-then-at-eq0 g c j l =
    no_bit g.G.Grid.geometry g.met.G.Grid.laws c.args.window c.requires.unit c.args.number j l
    (record {
      which = elim c.then-at-eq0.branch [
        | then-at-eq0-via-then-at-eq0 b ↦ inl b.if-at-eq0.true
        | then-at-eq0-via-else-at-eq0+then-at-window b ↦ inr (inl b.if-at-window.true)
      ];
    })

pub returns-then-not-has_strip : goal.returns-then-not-has_strip
returns-then-not-has_strip g c j l =
    no_bit g.G.Grid.geometry g.met.G.Grid.laws c.args.window c.requires.unit c.args.number j l
    (record { which = inr (inr (λ h. true≢false (sym (c.has_strip.ensures.1 h) ∙ c.if-not-has_strip.true))) })

-- inside the border the bit is that of the strip's first pair
inner : (g : given.Over) (c : After-is_cell g) (j : ℕ) → j < 64 → (is_inner c.args.window (cell_of c.args.window (64 * c.args.number + j)) && g.G.Grid.geometry.is_cell (cell_of c.args.window (64 * c.args.number + j))) ≡ c.is_cell.result
inner g c j l =
    let geometry = g.G.Grid.geometry in
    let w = c.args.window in
    let strip = c.has_strip.ensures.0 c.if-not-has_strip.false in
    let k = inner_word geometry g.met.G.Grid.laws w c.requires.unit c.args.number j l c.if-at-eq0.false c.if-at-window.false strip.0 strip.1 in
    ap (λ b. b && geometry.is_cell (cell_of w (64 * c.args.number + j))) k.0 ∙ k.1 ∙ ap geometry.is_cell (sym c.first.ensures.is) ∙ sym c.is_cell.ensures

pub returns-then-is_cell : goal.returns-then-is_cell
returns-then-is_cell g c j l = ap (λ m. m == 1) (bit_at_ones 64 j l) ∙ sym (inner g (goal.at.returns-then-is_cell g c).After-is_cell j l ∙ c.if-is_cell.true)

pub returns-else-is_cell : goal.returns-else-is_cell
returns-else-is_cell g c j l = ap (λ m. m == 1) (bit_at-zero j) ∙ sym (inner g (goal.at.returns-else-is_cell g c).After-is_cell j l ∙ c.if-is_cell.false)
