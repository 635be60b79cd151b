-- The numbers with which the program ends.
use Rattle.std.specs.Prelude.{ℕ}
use Rattle.heesch_app.specs.declared.status.Status.{Status}
use Rattle.heesch_app.specs.declared.status.Status.TheVariants.{Done, Invalid, Usage, BadInput, ReadFault, WriteFault, NoMemory}

-- the number of a status
abbrev pub status_number : Status → ℕ
status_number Done = 0
status_number Invalid = 1
status_number Usage = 2
status_number BadInput = 3
status_number ReadFault = 4
status_number WriteFault = 5
status_number NoMemory = 6
