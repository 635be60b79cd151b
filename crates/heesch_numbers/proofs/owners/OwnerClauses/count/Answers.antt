use Rattle.std.proofs.Common.{sym, ◌+◌, length, ◌∙◌}
use Rattle.heesch_numbers.specs.OwnerCounts.{clause_count}
use Rattle.heesch_numbers.proofs.OwnersByNumber.{length_owners}
use Rattle.heesch_numbers.proofs.OwnerPlaces.{sum_is}
use Rattle.heesch_numbers.proofs.owners.OwnerClauses.count.Goals as goal

pub returns : goal.returns
returns g c =
    let vars = c.args.universe.now.vars in
    let o = c.args.self.now in
    c.total.ensures ∙ sum_is (clause_count vars) o.cells.items o.clauses c.requires.clauses ∙ sym (length_owners vars (length vars + 1) o.cells.items)
