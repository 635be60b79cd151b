use Rattle.std.proofs.Common.{ℕ, ◌<◌, Option, Bool, List, length, take, drop, ◌++◌, sym, subst, arith}
use Rattle.std.proofs.lemmas.List.Elements.{All-nil}
use Rattle.heesch_rup.specs.Assigned.{HavePlaces, OthersAreOpen}
use Rattle.heesch_rup.proofs.Values.{written_back, others_open_when_all}
use Rattle.heesch_rup.proofs.assignment.Assignment.reset.Goals as goal

pub invariant_of-self-clause-places : goal.invariant_of-self-clause-places
invariant_of-self-clause-places c =
    let after = take c.args.self.now.values.len (c.open_each.new.values ++ drop (length c.open_each.new.values) c.args.self.now.values.items) in
    subst (HavePlaces after) (sym c.clear.ensures.items) (All-nil (λ (v : ℕ). v < length after))

pub invariant_of-self-clause-others_open : goal.invariant_of-self-clause-others_open
invariant_of-self-clause-others_open c =
    let same = written_back c.args.self.now.values.len c.open_each.new.values c.args.self.now.values.items (omega arith) in
    subst (λ (vs : List (Option Bool)). OthersAreOpen vs c.clear.new.self.items) (sym same) (others_open_when_all c.open_each.new.values c.clear.new.self.items c.open_each.ensures)
