use Rattle.heesch_trail.proofs.Marks.{Watched-added}
use Rattle.heesch_trail.proofs.trail.Trail.add.Goals as goal

pub invariant_of-self-2 : goal.invariant_of-self-2
invariant_of-self-2 c =
    let t = c.self.inside in
    Watched-added c.add-2.result t.assigned c.add-2.new.self t.watches c.add.new.self t.head t.fresh t.marks.items c.as_slice.result.now c.self.invariant c.add-2.ensures.valid c.in_ok-add.ensures.ok c.add-2.ensures.ok c.add-2.ensures.err
