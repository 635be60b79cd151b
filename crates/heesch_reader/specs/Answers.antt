-- Why a stream stops where its reader does.
use Rattle.heesch_reader.specs.declared.item.Part.{Part}
use Rattle.heesch_line.specs.declared.stops.LineStop.{LineStop}
use Rattle.heesch_line.specs.declared.stops.LineStop.TheVariants as line_stops
use Rattle.heesch_reader.specs.declared.answers.StreamStop.{StreamStop}
use Rattle.heesch_reader.specs.declared.answers.StreamStop.TheVariants as stops

-- for the same reason
abbrev pub stop_of : LineStop Part → StreamStop
stop_of (line_stops.Fault line part) = stops.NotText line part
stop_of line_stops.NoMemory = stops.NoMemory
