use Rattle.std.proofs.Common.{◌≡◌, ◌∙◌, ◌+◌, true, false, get_or, drop, sym, subst, rules, true≢false}
use Rattle.std.specs.Prelude.{◌↔◌, IsTrue, MatchOption, Some, None}
use Rattle.heesch_grid.specs.declared.isometries.Iso.{Iso}
use Rattle.heesch_grid.specs.Cells.{cells_before}
use Rattle.heesch_grid.specs.Tiling.{no_move}
use Rattle.heesch_logs.specs.Spelling.{IsSpelledAfter, tile_of}
use Rattle.heesch_logs.proofs.Equal.{granted, refused}
use Rattle.heesch_logs.proofs.Spelled.{by_tile, drop_next, drop_past, spelled_least, spelled_next, spelled_none}
use Rattle.heesch_logs.proofs.spelling.is_spelled.Given as given
use Rattle.heesch_logs.proofs.spelling.is_spelled.Goals as goal
use Rattle.heesch_logs.proofs.spelling.is_spelled.Goals.{In-Some}

-- the layer is spelled where this placement comes after the last one, and those behind it are spelled after it
next : (g : given.Over) (c : In-Some g) → IsSpelledAfter g.G.Grid.geometry c.args.shape.now None c.args.layer.now
    ↔ (MatchOption c.loop-by.last (Unit {0}) (λ p. IsTrue (cells_before p.tile c.in-Some.place.tile)) × IsSpelledAfter g.G.Grid.geometry c.args.shape.now (Some c.in-Some.place.tile) (drop (c.loop-by.by-index + 1) c.args.layer.now))
next g c =
    let After = IsSpelledAfter g.G.Grid.geometry c.args.shape.now (tile_of c.loop-by.last) in
    let i = c.loop-by.by-index in
    let tile = c.in-Some.place.tile in
    let step = spelled_next g.G.Grid.geometry c.args.shape.now (tile_of c.loop-by.last) (get_or c.args.layer.now i no_move) (drop (i + 1) c.args.layer.now) tile c.in-Some.ensures.some in
    let comes = by_tile (λ before. IsTrue (cells_before before tile)) c.loop-by.last in
    let left = drop_next c.args.layer.now i no_move c.loop-by-test.true in (
      (λ s. let h = step.0 (subst After left (c.loop-by.invariant.0 s)) in (comes.1 h.0, h.1)),
      (λ h. c.loop-by.invariant.1 (subst After (sym left) (step.1 (comes.0 h.0, h.1)))),
    )

pub returns-in_default : goal.returns-in_default
returns-in_default g c =
    let geometry = g.G.Grid.geometry in
    let shape = c.args.shape.now in
    let layer = c.args.layer.now in
    let i = c.loop-by.by-index in
    let by : Iso = get_or layer i no_move in
    refused (λ s.
    let here = subst (IsSpelledAfter geometry shape (tile_of c.loop-by.last)) (drop_next layer i no_move c.loop-by-test.true) (c.loop-by.invariant.0 s) in
    let found = spelled_least geometry shape (tile_of c.loop-by.last) by (drop (i + 1) layer) here in
    c.in_default.ensures.none found.0 found.1)

pub returns-then-not-comes_after : goal.returns-then-not-comes_after
returns-then-not-comes_after g c =
    let fails : c.comes_after.result ≡ false = search rules in
    let both = next g (goal.at.returns-then-not-comes_after g c).In-Some in
    refused (λ s. true≢false (sym (c.comes_after.ensures.1 (both.0 s).0) ∙ fails))

pub loop-by-preserved : goal.loop-by-preserved
loop-by-preserved g c =
    let holds : c.comes_after.result ≡ true = search rules in
    let both = next g (goal.at.loop-by-preserved g c).In-Some in
    ((λ s. (both.0 s).1), (λ s. both.1 (c.comes_after.ensures.0 holds, s)))

pub returns : goal.returns
returns g c =
    let geometry = g.G.Grid.geometry in
    let shape = c.args.shape.now in
    let layer = c.args.layer.now in
    granted (c.loop-by.invariant.1 (subst (IsSpelledAfter geometry shape (tile_of c.loop-by.last)) (sym (drop_past layer c.loop-by.by-index c.loop-by-test.false)) (spelled_none geometry shape (tile_of c.loop-by.last))))
