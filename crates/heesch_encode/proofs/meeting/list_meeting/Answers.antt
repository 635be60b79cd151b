use Rattle.std.proofs.Common.{◌≡◌, length}
use Rattle.std.specs.Prelude.{flat_map, nat_lt}
use Rattle.heesch_grid.specs.Listing.{ListsExactly}
use Rattle.heesch_encode.specs.Marks.{IsMarked}
use Rattle.heesch_encode.specs.Meeting.{covering_after, meeting_after}
use Rattle.heesch_encode.proofs.Marking.{on_ok}
use Rattle.heesch_encode.proofs.Rings.{marked_lists, meeting_is}
use Rattle.heesch_encode.proofs.meeting.list_meeting.Goals as goal

pub returns-clause-listed : goal.returns-clause-listed
returns-clause-listed g c =
    let vars = c.args.universe.now.vars in
    let above = c.args.above in
    let most = c.args.most in
    let cells = c.args.cells.now in
    let marked = c.change_meeting.new.marks.words.items in
    let ns = c.read_off.new.numbers.items in
    on_ok (ListsExactly nat_lt (IsMarked marked) ns) (ns ≡ meeting_after vars above most cells) c.read_off.result
    (λ listed. meeting_is vars above most cells ns (marked_lists (length vars) c.args.marks.now.words.items marked (flat_map (covering_after vars above most) cells) ns c.requires.unmarked c.change_meeting.ensures listed)) c.read_off.ensures.read
