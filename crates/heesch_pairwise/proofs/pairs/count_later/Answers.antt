use Rattle.std.proofs.Common.{◌≡◌, ◌-◌, ◌<◌, ◌∙◌, ap, sym, get_or, length, arith}
use Rattle.heesch_grid.specs.CoronaFormula.{Variable, IsNumbered}
use Rattle.heesch_encode.proofs.Numbered.{no_entry}
use Rattle.heesch_encode.proofs.Pieces.{some_at}
use Rattle.heesch_encode.specs.Meeting.{meeting_after}
use Rattle.heesch_pairwise.specs.Later.{later_of}
use Rattle.heesch_pairwise.proofs.LaterLists.{later_few, later_is}
use Rattle.heesch_pairwise.proofs.PairLists.{apart_length}
use Rattle.heesch_pairwise.proofs.pairs.count_later.Given as given
use Rattle.heesch_pairwise.proofs.pairs.count_later.Goals as goal
use Rattle.heesch_pairwise.proofs.pairs.count_later.Goals.{After-len}

-- the numbers that were listed
listed : (g : given.Over) (c : After-len g) (x : Variable) → IsNumbered c.args.universe.now.vars c.args.var x → c.list_meeting.new.numbers.items ≡ later_of c.args.universe.now.vars (c.args.var, x)
listed g c x number =
    let u = c.args.universe.now in
    c.in_ok-list_meeting.ensures.listed
    ∙ ap (λ k. meeting_after u.vars c.args.var k c.cells-cells.result.now) c.level.ensures.level
    ∙ later_is u.vars c.args.var x g.G.Grid.geometry u.shape u.level c.cells-cells.result.now c.requires.universe (c.cells-cells.ensures.cells ∙ c.shape.ensures ∙ c.placement_of.ensures.tile x number)

pub returns-clause-count : goal.returns-clause-count
returns-clause-count g c = λ x number.
    let long = ap length (listed g (goal.at.returns-clause-count g c).After-len x number) in
    let same = apart_length c.args.universe.now.vars (c.args.var, x) in
    omega (arith, long, same, c.len.ensures)

pub returns-clause-small : goal.returns-clause-small
returns-clause-small g c =
    let vars = c.args.universe.now.vars in
    let n = c.args.var in
    let x = get_or vars (n - 1) no_entry.1 in
    let long = ap length (listed g (goal.at.returns-clause-small g c).After-len x (some_at vars n c.requires.number.0 c.requires.number.1)) in
    let few = later_few vars n x in
    let all = c.requires.few in
    omega (arith, long, few, all, c.len.ensures)

pub overflow_cast-result : goal.overflow_cast-result
overflow_cast-result g c =
    let vars = c.args.universe.now.vars in
    let n = c.args.var in
    let x = get_or vars (n - 1) no_entry.1 in
    let long = ap length (listed g (goal.at.overflow_cast-result g c).After-len x (some_at vars n c.requires.number.0 c.requires.number.1)) in
    let few = later_few vars n x in
    let all = c.requires.few in
    omega (arith, long, few, all, c.len.ensures)
