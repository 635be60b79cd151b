use Rattle.std.proofs.Common.{◌≡◌, ◌+◌, Global, Vec, false, get_or, length, ap, sym, subst, ◌∙◌, arith}
use Rattle.heesch_place.specs.declared.spots.Spot.{Spot}
use Rattle.heesch_place.specs.Spots.{MarkedSpots}
use Rattle.heesch_place.proofs.Marks.{IsListed, listed_none, listed_skip, listed_push, listed_all}
use Rattle.heesch_place.proofs.spots.SpotMarks.spots.Goals as goal
use Rattle.heesch_place.proofs.spots.SpotMarks.spots.Goals.{After-deref-marked-items, then-marked+in_ok-add, else-marked}

-- the list that is walked has the marks
marks : (c : After-deref-marked-items) → c.deref-marked-items.result.now ≡ c.args.self.now.marks
marks c = c.deref-marked-items.ensures.value ∙ ap (λ (m : MarkedSpots). m.marks) c.self.view_is

pub loop-place-init : goal.loop-place-init
loop-place-init c = subst (IsListed c.args.self.now 0) (sym c.new-spots.ensures.items) (listed_none c.args.self.now)

pub loop-place-preserved : goal.loop-place-preserved
loop-place-preserved c =
    let m = c.args.self.now in
    let l = c.loop-place in
    let is = marks (goal.at.loop-place-preserved c).After-deref-marked-items in
    elim c.if-marked.branch [
      | then-marked+in_ok-add w ↦
          subst (λ (v : Vec Spot Global). IsListed m (l.place + 1) v.items) (sym w.spots-is)
          (listed_push m l.place w.spot.result l.spots.items w.add.new.all.items w.spot.ensures.form w.spot.ensures.within w.spot.ensures.place (sym (ap (λ zs. get_or zs l.place false) is) ∙ w.if-marked.true) w.in_ok-add.ensures l.invariant)
      | else-marked w ↦
          subst (λ (v : Vec Spot Global). IsListed m (l.place + 1) v.items) (sym w.spots-is)
          (listed_skip m l.place l.spots.items (sym (ap (λ zs. get_or zs l.place false) is) ∙ w.if-marked.false) l.invariant)
    ]

pub returns : goal.returns
returns c =
    let m = c.args.self.now in
    let is = marks (goal.at.returns c).After-deref-marked-items in
    listed_all m c.loop-place.place c.loop-place.spots.items (omega (arith, ap length is, c.loop-place-test.false)) c.loop-place.invariant
