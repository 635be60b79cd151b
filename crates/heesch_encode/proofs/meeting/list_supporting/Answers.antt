use Rattle.std.proofs.Common.{◌≡◌, ℕ, List, length, subst}
use Rattle.std.specs.Prelude.{flat_map, nat_lt}
use Rattle.heesch_grid.specs.declared.Cell.{Cell}
use Rattle.heesch_grid.specs.Listing.{ListsExactly}
use Rattle.heesch_encode.specs.Marks.{IsMarked, Unmarking}
use Rattle.heesch_encode.specs.Meeting.{covering_after, supporting}
use Rattle.heesch_encode.proofs.Marking.{on_ok}
use Rattle.heesch_encode.proofs.Rings.{supporting_is}
use Rattle.heesch_encode.proofs.meeting.list_supporting.Goals as goal

pub returns-clause-listed : goal.returns-clause-listed
returns-clause-listed g c =
    let vars = c.args.universe.now.vars in
    let tile = c.args.tile.now in
    let marked = c.change_meeting.new.marks.words.items in
    let left = c.change_meeting-2.new.marks.words.items in
    let ns = c.read_off.new.numbers.items in
    let numbers : List Cell → List ℕ = flat_map (covering_after vars c.last_below-above.result c.args.level) in
    let unmarks = subst (λ (cells : List Cell). Unmarking marked left (numbers cells)) c.cells.ensures.cells c.change_meeting-2.ensures in
    on_ok (ListsExactly nat_lt (IsMarked left) ns) (ns ≡ supporting g.G.Grid.geometry vars c.args.level tile) c.read_off.result
    (supporting_is g.G.Grid.geometry g.met.G.Grid.laws tile c.args.ring.now c.requires.ring vars c.last_below-above.result c.args.level (length vars) c.args.marks.now.words.items marked left ns c.last_below-above.ensures.low c.last_below-above.ensures.high c.requires.unmarked c.change_meeting.ensures unmarks)
    c.read_off.ensures.read
