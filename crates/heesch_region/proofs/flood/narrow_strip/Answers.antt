use Rattle.std.proofs.Common.{◌≡◌, ◌+◌, ◌*◌, ◌-◌, ◌<◌, ◌≤◌, ℕ, List, Some, length, sym, ap, ◌∙◌, subst, arith}
use Rattle.std.specs.List.{slice_get}
use Rattle.heesch_grid.specs.declared.Cell.{Cell}
use Rattle.heesch_grid.specs.Geometry.{IsCell}
use Rattle.heesch_region.specs.Bits.{AreNarrowed, AreSettled}
use Rattle.heesch_region.specs.Windows.{size, place}
use Rattle.heesch_region.proofs.Places.{inside-is}
use Rattle.heesch_region.proofs.Rows.{fewer_then, same_then, settled_then}
use Rattle.heesch_region.proofs.Strips.{neighbour_of, neighbour_in, words_there, reads, narrowed_cells, settled_cells, settled_none, narrowed_then}
use Rattle.heesch_region.proofs.flood.narrow_strip.Goals as goal

some : {x y : Cell} → Some x ≡ Some y → x ≡ y
some e = cc

pub returns-then-not-is_cell-clause-settled : goal.returns-then-not-is_cell-clause-settled
returns-then-not-is_cell-clause-settled g c e =
    settled_none g.G.Grid.geometry g.met.G.Grid.laws c.args.window c.requires.unit c.args.strip c.requires.from c.requires.to c.args.taken.now c.args.kept.now c.requires.cells (ap g.G.Grid.geometry.is_cell (sym c.first-first.ensures.is) ∙ sym c.is_cell.ensures ∙ c.if-not-is_cell.true)

pub place-from-requires : goal.place-from-requires
place-from-requires g c =
    let geometry = g.G.Grid.geometry in
    let law = g.met.G.Grid.laws in
    let w = c.args.window in
    let a = neighbour_of geometry law w c.requires.unit c.args.strip c.requires.from c.requires.to c.first-first.result c.first-first.ensures.is (sym c.is_cell.ensures ∙ c.if-not-is_cell.false) c.loop-i.i c.adjacent.result c.adjacent.ensures in
    inside-is w c.adjacent.result (neighbour_in geometry law w c.requires.unit c.args.strip c.requires.from c.requires.to c.adjacent.result a)

pub narrow-cleared-requires-clause-to : goal.narrow-cleared-requires-clause-to
narrow-cleared-requires-clause-to g c =
    let l = words_there g.G.Grid.geometry g.met.G.Grid.laws c.args.window c.requires.unit c.args.strip c.requires.from c.requires.to in
    let k : length c.loop-i.kept ≡ size c.args.window = c.loop-i.auto.kept ∙ c.requires.long in
    subst (λ m. c.args.strip * c.args.window.words + 1 + (c.args.window.words - 2) ≤ m) (sym k) l

pub narrow-cleared-requires-clause-from : goal.narrow-cleared-requires-clause-from
narrow-cleared-requires-clause-from g c =
    let geometry = g.G.Grid.geometry in
    let law = g.met.G.Grid.laws in
    let w = c.args.window in
    let a = neighbour_of geometry law w c.requires.unit c.args.strip c.requires.from c.requires.to c.first-first.result c.first-first.ensures.is (sym c.is_cell.ensures ∙ c.if-not-is_cell.false) c.loop-i.i c.adjacent.result c.adjacent.ensures in
    let l = reads geometry law w c.requires.unit c.args.strip c.requires.from c.requires.to c.adjacent.result a in
    let k : length c.loop-i.kept ≡ size w = c.loop-i.auto.kept ∙ c.requires.long in
    subst (λ m. c.place-from.result + 64 * (w.words - 2) < 64 * m) (sym k) (subst (λ m. m + 64 * (w.words - 2) < 64 * size w) (sym c.place-from.ensures.is) l)

pub loop-i-preserved : goal.loop-i-preserved
loop-i-preserved g c =
    let geometry = g.G.Grid.geometry in
    let law = g.met.G.Grid.laws in
    let w = c.args.window in
    let n = c.args.strip in
    let d = c.adjacent.result in
    let taken = c.args.taken.now in
    let mid = c.loop-i.kept in
    let new = c.narrow-cleared.new.words in
    let was = c.loop-i.invariant in
    let step = c.narrow-cleared.ensures in
    let a = neighbour_of geometry law w c.requires.unit n c.requires.from c.requires.to c.first-first.result c.first-first.ensures.is (sym c.is_cell.ensures ∙ c.if-not-is_cell.false) c.loop-i.i d c.adjacent.ensures in
    let at = c.place-from.ensures.is in
    let settled : List ℕ → ℕ → Type 0 = λ ws m. AreSettled taken ws (n * w.words + 1) m (64 * (w.words - 2)) in
    record {
      narrowed = narrowed_then was.narrowed (narrowed_cells geometry law w c.requires.unit n c.requires.from c.requires.to d a taken mid new (subst (λ m. AreNarrowed taken (n * w.words + 1) m (w.words - 2) mid new) at step.bits));
      fewer = fewer_then c.loop-i.cleared c.narrow-cleared.result was.fewer was.same step.fewer step.same;
      same = same_then c.loop-i.cleared c.narrow-cleared.result was.same step.same;
      settled = settled_then c.loop-i.cleared c.narrow-cleared.result (λ ws k. (e : Cell) → slice_get (geometry.adjacent c.first-first.result) k ≡ Some e → settled ws (place w e)) c.loop-i.i was.same was.settled (λ still e is. subst (settled mid) (at ∙ ap (place w) (some (sym c.adjacent.ensures ∙ is))) (step.settled still));
    }

pub returns-clause-settled : goal.returns-clause-settled
returns-clause-settled g c e =
    let geometry = g.G.Grid.geometry in
    let law = g.met.G.Grid.laws in
    let w = c.args.window in
    let first = c.first-first.result in
    let is = c.first-first.ensures.is in
    let first_in : IsCell geometry first = sym c.is_cell.ensures ∙ c.if-not-is_cell.false in
    let count : c.ADJACENT-i-end.result ≡ geometry.adjacent_count = c.ADJACENT-i-end.ensures ∙ g.met.G.Grid.sizes.adjacent_is in
    settled_cells geometry law w c.requires.unit c.args.strip c.requires.from c.requires.to c.args.taken.now c.args.kept.now c.requires.cells (λ k d l at. c.loop-i.invariant.settled e k (omega (arith, l, count, c.loop-i-test.false)) d (ap (λ f. slice_get (geometry.adjacent f) k) is ∙ at))
