use Rattle.std.proofs.Common.{◌≡◌, ◌<◌, ◌*◌, ◌∙◌, All, filter, length, get_or, sym, ap, subst, arith}
use Rattle.std.specs.Prelude.{nat_lt, flat_map}
use Rattle.std.proofs.lemmas.List.{take_all}
use Rattle.heesch_grid.specs.Listing.{IsRising}
use Rattle.heesch_grid.specs.CoronaFormula.{covers}
use Rattle.heesch_encode.specs.Marks.{Changes}
use Rattle.heesch_encode.specs.Meeting.{covering_after}
use Rattle.heesch_grid.specs.Cells.{origin}
use Rattle.heesch_encode.proofs.ClauseLists.{numbers_rising}
use Rattle.heesch_encode.proofs.Marking.{changes_none, changes_size}
use Rattle.heesch_encode.proofs.Rings.{after_rising, after_small, changes_pieces}
use Rattle.heesch_encode.proofs.meeting.change_meeting.Given as given
use Rattle.heesch_encode.proofs.meeting.change_meeting.Goals as goal
use Rattle.heesch_encode.proofs.meeting.change_meeting.Goals.{After-numbers_after}

-- the numbers that are looked up for a cell
found : (g : given.Over) (c : After-numbers_after g) → c.numbers_after.result.now ≡ covering_after c.args.universe.now.vars c.args.above c.args.most (get_or c.args.cells.now c.loop-c.c-index origin)
found g c = c.numbers_after.ensures ∙ ap (filter (nat_lt c.args.above)) c.covered_by.ensures

pub loop-c-init : goal.loop-c-init
loop-c-init g c = changes_none c.args.change c.args.marks.now.words.items

pub numbers_after-requires-clause-rising : goal.numbers_after-requires-clause-rising
numbers_after-requires-clause-rising g c = subst (IsRising nat_lt) (sym c.covered_by.ensures) (numbers_rising c.args.universe.now.vars (covers c.args.most (get_or c.args.cells.now c.loop-c.c-index origin)))

pub change-requires-clause-rising : goal.change-requires-clause-rising
change-requires-clause-rising g c = subst (IsRising nat_lt) (sym (found g (goal.at.change-requires-clause-rising g c).After-numbers_after)) (after_rising c.args.universe.now.vars c.args.above c.args.most _)

pub change-requires-clause-room : goal.change-requires-clause-room
change-requires-clause-room g c =
    let vars = c.args.universe.now.vars in
    let size = changes_size c.args.change _ _ _ c.loop-c.invariant in
    let words = c.args.marks.now.words.ok.0 in
    let now = c.loop-c.marks.words.ok.0 in
    let fits : length vars < 64 * c.loop-c.marks.words.len = omega (arith, size, words, now, c.requires.room) in
    subst (All (λ n. n < 64 * c.loop-c.marks.words.len)) (sym (found g (goal.at.change-requires-clause-room g c).After-numbers_after)) (after_small vars c.args.above c.args.most _ (64 * c.loop-c.marks.words.len) fits)

pub loop-c-preserved : goal.loop-c-preserved
loop-c-preserved g c =
    let vars = c.args.universe.now.vars in
    changes_pieces c.args.change (covering_after vars c.args.above c.args.most) c.args.cells.now c.loop-c.c-index origin c.args.marks.now.words.items c.loop-c.marks.words.items c.change.new.self.words.items c.loop-c-test.true c.loop-c.invariant
    (subst (Changes c.args.change c.loop-c.marks.words.items c.change.new.self.words.items) (found g (goal.at.loop-c-preserved g c).After-numbers_after) c.change.ensures)

pub returns : goal.returns
returns g c = subst (Changes c.args.change c.args.marks.now.words.items c.loop-c.marks.words.items) (ap (flat_map (covering_after c.args.universe.now.vars c.args.above c.args.most)) (take_all c.loop-c.c-index c.args.cells.now (omega (arith, c.loop-c-test.false)))) c.loop-c.invariant
