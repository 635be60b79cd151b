use Rattle.std.proofs.Common.{◌≡◌, ◌*◌, sym, subst, arith}
use Rattle.heesch_grid.specs.declared.isometries.Iso.{Iso}
use Rattle.heesch_torus.specs.Trying.{Tries, HasTried}
use Rattle.heesch_torus.proofs.Tried.{tries_none, tries_first, one_tried, turn_tried}
use Rattle.heesch_torus.proofs.variables.try_turn.Goals as goal
use Rattle.heesch_torus.proofs.variables.try_turn.Goals.{in-Some+in_ok-add, in_default}

pub loop-k-preserved : goal.loop-k-preserved
loop-k-preserved g c =
    let by = c.isometry_at-by.result.iso in
    let old = c.loop-k.found in
    let tries : Tries g.G.Grid.geometry c.args.tiles.now.cells.now c.args.tiles.now.triple by old c.match-residues_of.found = elim c.match-residues_of.branch [
      | in-Some+in_ok-add w ↦
          subst (Tries g.G.Grid.geometry c.args.tiles.now.cells.now c.args.tiles.now.triple by old) (sym w.found-is)
          (tries_first g.G.Grid.geometry c.args.tiles.now.cells.now c.args.tiles.now.triple by old w.add.new.self w.in-Some.residues.items w.in-Some.ensures.found w.in_ok-add.ensures)
      | in_default w ↦
          subst (Tries g.G.Grid.geometry c.args.tiles.now.cells.now c.args.tiles.now.triple by old) (sym w.found-is)
          (tries_none g.G.Grid.geometry c.args.tiles.now.cells.now c.args.tiles.now.triple by old w.in_default.ensures.none)
    ] in
    one_tried g.G.Grid.geometry c.args.tiles.now.cells.now c.args.tiles.now.triple c.args.tiles.now.lattice c.args.turn c.loop-k.k old c.match-residues_of.found
    (omega (arith, c.loop-k-test.true, c.translation_count-k-end.ensures)) c.loop-k.invariant
    (subst (λ (x : Iso). Tries g.G.Grid.geometry c.args.tiles.now.cells.now c.args.tiles.now.triple x old c.match-residues_of.found) c.isometry_at-by.ensures tries)

pub returns : goal.returns
returns g c =
    let last : c.loop-k.k ≡ c.args.tiles.now.triple.p * c.args.tiles.now.triple.q = omega (arith, c.loop-k-test.false, c.loop-k.auto.k-end, c.translation_count-k-end.ensures) in
    turn_tried g.G.Grid.geometry c.args.tiles.now.cells.now c.args.tiles.now.triple c.args.tiles.now.lattice c.args.turn c.loop-k.found c.args.tiles.now.small
    (subst (λ k. HasTried g.G.Grid.geometry c.args.tiles.now.cells.now c.args.tiles.now.triple c.args.turn k c.loop-k.found) last c.loop-k.invariant)
