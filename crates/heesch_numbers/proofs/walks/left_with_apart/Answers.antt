use Rattle.std.proofs.Common.{◌≡◌, ◌-◌, not, get_or, sym, ap, ◌∙◌}
use Rattle.heesch_cnf.specs.Literals.{held}
use Rattle.heesch_grid.specs.Cells.{meet}
use Rattle.heesch_encode.proofs.Numbered.{no_entry}
use Rattle.heesch_encode.proofs.Pieces.{some_at}
use Rattle.heesch_numbers.specs.Common.{tile_of}
use Rattle.heesch_numbers.proofs.Seeing.{kept_out, kept_not, kept_with}
use Rattle.heesch_numbers.proofs.walks.left_with_apart.Given as given
use Rattle.heesch_numbers.proofs.walks.left_with_apart.Goals as goal
use Rattle.heesch_numbers.proofs.walks.left_with_apart.Goals.{After-meets}

-- whether the tiles share a cell
met : (g : given.Over) (c : After-meets g) → c.meets.result ≡ meet (tile_of c.args.universe.now.vars c.args.var) c.args.tile.now
met g c =
    let vars = c.args.universe.now.vars in
    let number = some_at vars c.args.var c.requires.number.0 c.requires.number.1 in
    c.meets.ensures ∙ ap (λ t. meet t c.args.tile.now) (c.shape.ensures ∙ c.placement_of.ensures.tile (get_or vars (c.args.var - 1) no_entry.1) number)

pub returns-then-is_out : goal.returns-then-is_out
returns-then-is_out g c = λ seen h.
    kept_out (held c.args.values.now) (λ n. not (meet (tile_of c.args.universe.now.vars n) c.args.tile.now)) seen c.args.var c.args.left (sym c.is_out.ensures ∙ c.if-is_out.true) h

pub returns-then-meets : goal.returns-then-meets
returns-then-meets g c = λ seen h.
    kept_not (held c.args.values.now) (λ n. not (meet (tile_of c.args.universe.now.vars n) c.args.tile.now)) seen c.args.var c.args.left (ap not (sym (met g (goal.at.returns-then-meets g c).After-meets) ∙ c.if-meets.true)) h

pub returns : goal.returns
returns g c = λ seen h.
    kept_with (held c.args.values.now) (λ n. not (meet (tile_of c.args.universe.now.vars n) c.args.tile.now)) seen c.args.var c.left_with.result (ap not (sym (met g (goal.at.returns g c).After-meets) ∙ c.if-meets.false)) (c.left_with.ensures seen h)
