-- Why lines are read no further.
use Rattle.heesch_line.specs.declared.stops.LineStop.{LineStop}
use Rattle.heesch_line.specs.declared.stops.LineStop.TheVariants as line_stops
use Rattle.heesch_line.specs.declared.stops.InputStop.{InputStop}
use Rattle.heesch_line.specs.declared.stops.InputStop.TheVariants as input_stops

-- the lines of a source are read no further, for the same reason
abbrev pub stop_of : {F : Type 0} → LineStop F → InputStop F
stop_of (line_stops.Fault line fault) = input_stops.Fault line fault
stop_of line_stops.NoMemory = input_stops.NoMemory
