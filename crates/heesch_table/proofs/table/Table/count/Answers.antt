use Rattle.heesch_grid.specs.declared.GridName.{GridName}
use Rattle.heesch_grid.specs.Names.{geometry_of}
use Rattle.heesch_table.specs.declared.table.Table.{Table}
use Rattle.heesch_table.specs.TableSteps.{CountsEntries, CountsItems}
use Rattle.heesch_table.proofs.EntryCounts.{few_more, counted_items, if_ok_more}
use Rattle.heesch_table.proofs.table.Table.count.Goals as goal

pub count_entries-requires-clause-few : goal.count_entries-requires-clause-few
count_entries-requires-clause-few c = few_more c.requires.0 c.args.items.now c.args.self.now c.requires.1 c.requires.2

pub returns-in-Some : goal.returns-in-Some
returns-in-Some c =
    let grid : GridName = c.in-Some.grid in
    let new : Table = record { grid = c.grid_behind-self.result; tally = c.count_entries.new.tally } in
    if_ok_more c.count_entries.result (CountsEntries (geometry_of grid) c.args.self.now.tally c.count_entries.new.tally c.args.items.now) (CountsItems c.args.self.now new c.args.items.now)
    (λ told. counted_items c.args.self.now new c.args.items.now grid told c.in-Some.is c.grid_behind-self.ensures) c.count_entries.ensures
